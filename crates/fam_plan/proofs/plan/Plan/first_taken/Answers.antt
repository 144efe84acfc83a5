use Rattle.std.proofs.Common.{true, take, subst}
use Rattle.fam_format.specs.Units.{is_used, units_in}
use Rattle.fam_alloc.specs.Next.{IsNext}
use Rattle.fam_alloc.specs.Taken.{holds}
use Rattle.fam_alloc.proofs.NextLemmas.{next_either}
use Rattle.fam_plan.specs.State.{PlanState}
use Rattle.fam_plan.proofs.plan.Plan.first_taken.Goals as goal

pub returns : goal.returns
returns c =
    next_either (is_used c.args.self.now.params (take c.args.count c.args.self.now.entries))
    (holds (units_in c.args.self.now.params.unit (take c.args.i c.args.extents.now)))
    c.args.run.start c.args.run.end c.first_used.result c.first_shared.result c.first_used.ensures
    (subst (λ (s : PlanState). IsNext (holds (units_in s.params.unit (take c.args.i c.args.extents.now))) true c.args.run.start c.first_used.result
    c.first_shared.result) c.self.view_is c.first_shared.ensures)
