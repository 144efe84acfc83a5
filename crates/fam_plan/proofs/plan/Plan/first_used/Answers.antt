use Rattle.std.proofs.Common.{ℕ, true, nat_lt, [], sym, subst, arith}
use Rattle.fam_format.specs.Layout.{head_units}
use Rattle.fam_format.specs.Units.{is_used, units_in}
use Rattle.fam_alloc.specs.Next.{IsNext}
use Rattle.fam_alloc.specs.Taken.{LieWithin, holds}
use Rattle.fam_alloc.proofs.NextLemmas.{next_same}
use Rattle.fam_alloc.proofs.OverlapLemmas.{or_false}
use Rattle.fam_plan.specs.State.{PlanState}
use Rattle.fam_plan.proofs.FirstEntries.{lies_in_device}
use Rattle.fam_plan.proofs.Prefixes.{next_more}
use Rattle.fam_plan.proofs.plan.Plan.first_used.Goals as goal

pub loop-i-init : goal.loop-i-init
loop-i-init c =
    let p = c.args.self.now.params in
    next_same (λ u. nat_lt u (head_units p)) (is_used p []) true c.args.run.start c.args.run.end c.first_below-end.result
    (λ u. or_false (nat_lt u (head_units p)))
    (subst (λ (s : PlanState). IsNext (λ u. nat_lt u (head_units s.params)) true c.args.run.start c.args.run.end c.first_below-end.result) c.self.view_is c.first_below-end.ensures)

pub first_held-end-requires-clause-within : goal.first_held-end-requires-clause-within
first_held-end-requires-clause-within c =
    let p = c.args.self.now.params in
    subst (λ (s : PlanState). LieWithin s.params.unit c.units.result c.entry.result.extents) (sym c.self.view_is)
    (subst (λ (n : ℕ). LieWithin p.unit n c.entry.result.extents) (sym c.units.ensures) (lies_in_device p c.entry.result c.entry.ensures.proper))

pub first_held-end-requires-clause-order : goal.first_held-end-requires-clause-order
first_held-end-requires-clause-order c = c.loop-i.invariant.low

pub loop-i-preserved : goal.loop-i-preserved
loop-i-preserved c =
    next_more c.args.self.now.params c.args.self.now.entries c.loop-i.i c.entry.result c.args.run.start c.args.run.end c.loop-i.end c.first_held-end.result
    (omega arith) c.entry.ensures.value c.loop-i.invariant
    (subst (λ (s : PlanState). IsNext (holds (units_in s.params.unit c.entry.result.extents)) true c.args.run.start c.loop-i.end c.first_held-end.result) c.self.view_is c.first_held-end.ensures)
