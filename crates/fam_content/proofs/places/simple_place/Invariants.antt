use Rattle.std.proofs.Common.{◌≡◌, drop}
use Rattle.fam_rules.specs.Place.{simple_place}
use Rattle.fam_content.proofs.places.simple_place.Given as goal

-- what is left to pass of the place is a place in the extents that are left
abbrev pub invariant-loop-extent : goal.invariant-loop-extent
invariant-loop-extent l = simple_place (drop l.extent-index l.extents) l.left ≡ simple_place l.extents l.offset
