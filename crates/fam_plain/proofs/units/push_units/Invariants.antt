use Rattle.std.proofs.Common.{◌≡◌, ◌++◌, take}
use Rattle.fam_format.specs.Units.{units_in}
use Rattle.fam_plain.proofs.units.push_units.Given as goal

abbrev pub invariant-loop-extent : goal.invariant-loop-extent
invariant-loop-extent l = l.units.items ≡ l.initial.units.items ++ units_in l.unit (take l.extent-index l.extents)
