use Rattle.std.proofs.Common.{◌≡◌, ◌*◌, ◌≤◌, length, take}
use Rattle.fam_format.specs.Units.{units_in}
use Rattle.fam_alloc.proofs.overlap.count_units.Given as goal

abbrev pub invariant-loop-i : goal.invariant-loop-i
invariant-loop-i l = record { small : l.count ≤ l.i * l.units; count : l.count ≡ length (units_in l.unit (take l.i l.extents)) }
