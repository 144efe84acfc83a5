use Rattle.fam_rules.specs.Decide.{wish_of}
use Rattle.fam_plan.specs.Wishes.{wish_in}
use Rattle.fam_plan.proofs.Lengths.{plan_may, wished_fits}
use Rattle.fam_plan.proofs.plan.Plan.decide.Goals as goal

pub returns-clause-may : goal.returns-clause-may
returns-clause-may c sound fits =
    plan_may c.args.self.now c.args.me (wish_in c.in-Some.wish) c.decide_wish.result c.each_entry_joins.ensures (c.in-Some.ensures.sound sound)
    (wished_fits c.args.self.now.params (wish_in c.in-Some.wish) (wish_of c.args.cmd.now) c.in-Some.ensures.value fits) c.decide_wish.ensures
