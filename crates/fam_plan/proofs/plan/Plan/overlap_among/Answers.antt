use Rattle.std.proofs.Common.{◌+◌, ◌/◌, ◌||◌, ◌∙◌, take, get_or, ap, arith}
use Rattle.fam_base.specs.ExtentLists.{no_extent}
use Rattle.fam_format.specs.Units.{is_used, units_in}
use Rattle.fam_alloc.specs.Taken.{holds}
use Rattle.fam_alloc.proofs.OverlapLemmas.{found_at, passed_at}
use Rattle.fam_plan.specs.State.{PlanState}
use Rattle.fam_plan.proofs.plan.Plan.overlap_among.Goals as goal

pub returns-then-first-run : goal.returns-then-first-run
returns-then-first-run c =
    let extents = c.args.extents.now in
    let p = c.args.self.now.params in
    let used = is_used p (take c.args.count c.args.self.now.entries) in
    let run = c.run_at-run.result in
    found_at (λ u. used u || holds (units_in p.unit (take c.loop-i.i extents)) u)
    p.unit extents c.loop-i.i run.start run.end c.first_taken-first.result (omega arith)
    (c.run_at-run.ensures.start ∙ ap (λ (s : PlanState). (get_or extents c.loop-i.i no_extent).offset / s.params.unit) c.self.view_is)
    (c.run_at-run.ensures.end ∙ ap (λ (s : PlanState). run.start + (get_or extents c.loop-i.i no_extent).length / s.params.unit) c.self.view_is)
    c.first_taken-first.ensures c.if-first-run.true
    ∙ c.loop-i.invariant

pub loop-i-preserved : goal.loop-i-preserved
loop-i-preserved c =
    let extents = c.args.extents.now in
    let p = c.args.self.now.params in
    let run = c.run_at-run.result in
    passed_at (is_used p (take c.args.count c.args.self.now.entries))
    p.unit extents c.loop-i.i run.start run.end c.first_taken-first.result (omega arith)
    (c.run_at-run.ensures.start ∙ ap (λ (s : PlanState). (get_or extents c.loop-i.i no_extent).offset / s.params.unit) c.self.view_is)
    (c.run_at-run.ensures.end ∙ ap (λ (s : PlanState). run.start + (get_or extents c.loop-i.i no_extent).length / s.params.unit) c.self.view_is)
    c.first_taken-first.ensures c.if-first-run.false
    ∙ c.loop-i.invariant
