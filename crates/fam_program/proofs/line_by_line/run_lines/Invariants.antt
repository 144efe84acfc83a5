use Rattle.std.proofs.Common.{length}
use Rattle.fam_program.proofs.Scripts.LinesRun.{LinesRun}
use Rattle.fam_program.proofs.line_by_line.run_lines.Given as goal

abbrev pub invariant-lines : goal.invariant-lines
invariant-lines g l = LinesRun g.M.Media.size g.M.Media.state g.S.Shelf.state l.script l.rest l.fn.media l.media l.fn.shelf l.shelf l.world l.copied

abbrev pub decreases-lines : goal.decreases-lines
decreases-lines g l = length l.rest
