use Rattle.fam_program.proofs.Scripts.FirstLines.{NoFeed}
use Rattle.fam_program.proofs.line_by_line.cut_line.Given as goal

abbrev pub invariant-loop-i : goal.invariant-loop-i
invariant-loop-i l = NoFeed l.script l.i
