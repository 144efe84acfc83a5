use Rattle.fam_replay.proofs.Replicas.{read_first}
use Rattle.fam_replay.proofs.replica.forget_some.Goals as goal

pub returns-clause-read : goal.returns-clause-read
returns-clause-read c =
    rw (c.truncate.ensures.items, c.saturating_sub.ensures, c.in_ok-plan.ensures.first, c.in_ok-plan.ensures.params)
    (read_first c.args.plan.now.params c.args.first c.args.slots.now.items c.args.plan.now.entries c.args.found c.requires.read)
