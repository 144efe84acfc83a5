use Rattle.fam_plan.specs.Wishes.{wish_in}
use Rattle.fam_plan.proofs.Decisions.{may_of}
use Rattle.fam_plan.proofs.decide.decide_with_length.Goals as goal

pub returns-clause-may : goal.returns-clause-may
returns-clause-may c sound =
    may_of c.args.plan.now c.args.me (wish_in c.in-Some.wish) c.decide_wish_with_length.result c.each_entry_joins.ensures (c.in-Some.ensures.sound sound) c.decide_wish_with_length.ensures
