use Rattle.std.proofs.Common.{◌≡◌, ◌||◌, take, drop}
use Rattle.fam_format.specs.Units.{units_in, first_overlap, is_used}
use Rattle.fam_alloc.specs.Taken.{holds}
use Rattle.fam_plan.proofs.plan.Plan.overlap_among.Given as goal

abbrev pub invariant-loop-i : goal.invariant-loop-i
invariant-loop-i l =
    let unit = l.self.params.unit in
    let used = is_used l.self.params (take l.count l.self.entries) in
    first_overlap (λ u. used u || holds (units_in unit (take l.i l.extents)) u) (units_in unit (drop l.i l.extents)) ≡ first_overlap used (units_in unit l.extents)
