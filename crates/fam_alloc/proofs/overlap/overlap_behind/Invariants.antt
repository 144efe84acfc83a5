use Rattle.std.proofs.Common.{◌≡◌, nat_lt, ◌||◌, take, drop}
use Rattle.fam_format.specs.Units.{units_in, first_overlap}
use Rattle.fam_alloc.specs.Taken.{holds}
use Rattle.fam_alloc.proofs.overlap.overlap_behind.Given as goal

abbrev pub invariant-loop-i : goal.invariant-loop-i
invariant-loop-i l =
    first_overlap (λ u. nat_lt u l.head || holds (units_in l.unit (take l.i l.extents)) u) (units_in l.unit (drop l.i l.extents)) ≡ first_overlap (λ u. nat_lt u l.head) (units_in l.unit l.extents)
