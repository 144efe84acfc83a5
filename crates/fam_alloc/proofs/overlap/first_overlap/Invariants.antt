use Rattle.std.proofs.Common.{◌≡◌, ◌||◌, take, drop}
use Rattle.fam_format.specs.Units.{units_in, first_overlap}
use Rattle.fam_alloc.specs.Taken.{holds}
use Rattle.fam_alloc.proofs.overlap.first_overlap.Given as goal

abbrev pub invariant-loop-i : goal.invariant-loop-i
invariant-loop-i g l =
    first_overlap (λ u. g.M.Occupied.is_used l.map u || holds (units_in l.unit (take l.i l.extents)) u) (units_in l.unit (drop l.i l.extents))
    ≡ first_overlap (g.M.Occupied.is_used l.map) (units_in l.unit l.extents)
