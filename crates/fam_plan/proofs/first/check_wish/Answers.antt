use Rattle.fam_plan.specs.Wishes.{wish_in}
use Rattle.fam_plan.proofs.FirstEntries.{wish_asks, wish_refused}
use Rattle.fam_plan.proofs.first.check_wish.Goals as goal

pub returns-clause-refused : goal.returns-clause-refused
returns-clause-refused c =
    wish_refused c.args.params.now c.args.me.now (wish_in c.args.wish.now) c.requires c.in_ok-check_early.ensures c.in_ok-check_stripe.ensures
    c.check_root.result c.check_root.ensures

pub returns-clause-room : goal.returns-clause-room
returns-clause-room c =
    wish_asks c.args.params.now c.args.me.now (wish_in c.args.wish.now) c.requires c.in_ok-check_early.ensures c.in_ok-check_stripe.ensures
    c.check_root.result c.check_root.ensures
