use Rattle.std.proofs.Common.{refl}
use Rattle.fam_judging.proofs.Adding.{below_in}
use Rattle.fam_judging.proofs.below.is_below.Goals as goal

pub returns-then-is_same_settled : goal.returns-then-is_same_settled
returns-then-is_same_settled c start cmds is =
    below_in start c.args.seen.now.items cmds c.args.a.now c.args.b.now (c.if-is_same_settled.ensures refl) (c.are_hosts_below.ensures is)
