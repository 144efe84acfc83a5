use Rattle.std.proofs.Common.{◌+◌, ℕ, List, subst, take}
use Rattle.fam_replay.specs.Replica.{AreKeptAt, FindsNext, ReplicaState}
use Rattle.fam_replay.proofs.Replicas.{finds}
use Rattle.fam_replay.proofs.replica.Replica.find.Goals as goal

pub returns-clause-found : goal.returns-clause-found
returns-clause-found c = λ yes.
    let own = c.self.inside in
    let kept : AreKeptAt own.first own.slots.items own.found c.args.words.now =
    subst (λ (l : List (List ℕ)). AreKeptAt own.first l own.found c.args.words.now) c.deref.ensures.value (c.is_kept.ensures c.if-not-is_kept.false) in
    subst (λ (s : ReplicaState). FindsNext s.params c.args.words.now (take s.found s.entries) (take (own.found + 1) own.plan.entries)) c.self.view_is
    (finds own.plan own.first own.slots.items own.found c.args.words.now c.self.invariant c.each_entry_joins.ensures kept)
