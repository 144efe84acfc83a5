use Rattle.std.proofs.Common.{◌≡◌, Option, Some, sym, ap, subst, ◌∙◌}
use Rattle.fam_replay.specs.Replay.{IsReplayOf}
use Rattle.fam_replay.specs.Replica.{ReplicaState}
use Rattle.fam_tasks.specs.History.{HistoryState, kept_of}
use Rattle.fam_tasks.proofs.Begun.{read_aside}
use Rattle.fam_tasks.proofs.history.History.keep.Goals as goal

pub returns : goal.returns
returns c = λ gate of.
    let own = c.self.inside in
    let same : c.args.self.now.replay ≡ own.replay = ap (λ (s : HistoryState). s.replay) (sym c.self.view_is) ∙ read_aside own.serves own.kept own.replay c.if-self.false in
    ap Some (c.keep_found.ensures gate (subst (IsReplayOf c.args.params.now gate) same of))
    ∙ ap (λ (r : Option ReplicaState). Some (kept_of c.args.params.now r)) (sym same)
