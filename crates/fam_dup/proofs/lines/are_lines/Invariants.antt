use Rattle.std.proofs.Common.{ℕ, ◌<◌, ◌^◌}
use Rattle.std.specs.Prelude.{slice_index}
use Rattle.fam_media.specs.Runs.{line_in}
use Rattle.fam_dup.proofs.lines.are_lines.Given as goal

-- the words of the lines so far fit
abbrev pub invariant-loop-line : goal.invariant-loop-line
invariant-loop-line l = (i w : ℕ) → i < l.line-index → slice_index (line_in l.lines i) w < 2 ^ 64
