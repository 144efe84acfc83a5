use Rattle.std.proofs.Common.{◌≡◌, ◌≤◌, Option, Some, length, take, sym, ap, subst, ◌∙◌}
use Rattle.std.specs.Prelude.{IfSome}
use Rattle.fam_replay.specs.Replica.{ReplicaState}
use Rattle.fam_replay.specs.Replay.{entries_in, IsReplayOf}
use Rattle.fam_replay.proofs.Replicas.{back_to, back_within}
use Rattle.fam_replay.proofs.replay.Replay.step_back.Goals as goal

pub rewind-requires : goal.rewind-requires
rewind-requires c =
    subst (λ (o : Option ReplicaState). IfSome o (λ (s : ReplicaState). c.args.found ≤ length s.entries)) c.in-Some.is
    (back_within c.self.inside.replica c.args.found (subst (λ (o : Option ReplicaState). c.args.found ≤ length (entries_in o)) (sym c.self.view_is) c.requires))

pub returns-clause-entries : goal.returns-clause-entries
returns-clause-entries c =
    ap (λ (s : ReplicaState). take s.found s.entries) c.rewind.ensures
    ∙ back_to c.in-Some.replica c.args.found (subst (λ (o : Option ReplicaState). c.args.found ≤ length (entries_in o)) (sym c.self.view_is ∙ c.in-Some.is) c.requires)
    ∙ ap (λ (o : Option ReplicaState). take c.args.found (entries_in o)) (sym c.in-Some.is ∙ c.self.view_is)

pub returns-clause-fits : goal.returns-clause-fits
returns-clause-fits c = λ p gate fits.
    subst (λ (s : ReplicaState). IsReplayOf p gate (Some s)) (sym c.rewind.ensures) (subst (IsReplayOf p gate) (sym c.self.view_is ∙ c.in-Some.is) fits)
