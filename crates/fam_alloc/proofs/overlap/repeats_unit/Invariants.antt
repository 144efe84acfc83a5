use Rattle.std.proofs.Common.{◌≡◌, false, take, drop}
use Rattle.fam_format.specs.Units.{units_in, first_overlap}
use Rattle.fam_alloc.specs.Taken.{holds}
use Rattle.fam_alloc.proofs.overlap.repeats_unit.Given as goal

abbrev pub invariant-loop-i : goal.invariant-loop-i
invariant-loop-i l =
    first_overlap (holds (units_in l.unit (take l.i l.extents))) (units_in l.unit (drop l.i l.extents)) ≡ first_overlap (λ _. false) (units_in l.unit l.extents)
