use Rattle.std.proofs.Common.{◌≡◌, ℕ, ◌+◌, drop}
use Rattle.fam_rules.specs.Place.{simple_place}
use Rattle.fam_dup.proofs.runs.simple_run.Given as goal

-- what is left to pass of a place is a place in the extents that are left
abbrev pub invariant-loop-extent : goal.invariant-loop-extent
invariant-loop-extent l = (d : ℕ) → simple_place (drop l.extent-index l.extents) (l.left + d) ≡ simple_place l.extents (l.offset + d)
