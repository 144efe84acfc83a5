use Rattle.std.proofs.Common.{◌≡◌, drop}
use Rattle.std.specs.List.{list_any}
use Rattle.fam_format.specs.Units.{units_in}
use Rattle.fam_alloc.specs.Taken.{holds}
use Rattle.fam_alloc.proofs.overlap.shares_unit.Given as goal

abbrev pub invariant-loop-i : goal.invariant-loop-i
invariant-loop-i l =
    list_any (holds (units_in l.unit l.before)) (units_in l.unit (drop l.i l.extents)) ≡ list_any (holds (units_in l.unit l.before)) (units_in l.unit l.extents)
