use Rattle.std.proofs.Common.{Option, length, sym, ap, subst, ◌∙◌}
use Rattle.fam_replay.specs.Replica.{ReplicaState}
use Rattle.fam_replay.specs.Replay.{entries_in, HasFoundAll, IsReplayOf}
use Rattle.fam_replay.proofs.Replicas.{all_found}
use Rattle.fam_replay.proofs.replay.Replay.decide.Goals as goal

pub decide-requires-clause-whole : goal.decide-requires-clause-whole
decide-requires-clause-whole c =
    subst HasFoundAll c.in-Some.is
    (all_found c.args.params.now c.args.gate c.self.inside.replica
    (subst (IsReplayOf c.args.params.now c.args.gate) (sym c.self.view_is) c.begin.ensures.fits)
    (ap (λ (o : Option ReplicaState). length (entries_in o)) c.self.view_is ∙ ap length c.begin.ensures.same ∙ c.requires.all))
