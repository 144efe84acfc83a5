use Rattle.fam_content.proofs.Rows.{IsLeft}
use Rattle.fam_content.proofs.places.simple_row.Given as goal

-- what is left to pass of the place, and of those behind it
abbrev pub invariant-loop-extent : goal.invariant-loop-extent
invariant-loop-extent l = IsLeft l.extents l.offset l.extent-index l.left
