use Rattle.std.proofs.Common.{◌≡◌, sym, ap, subst, ◌∙◌}
use Rattle.fam_replay.specs.Replay.{IsReplayOf}
use Rattle.fam_tasks.specs.History.{HistoryState}
use Rattle.fam_tasks.proofs.Begun.{read_alone, read_aside}
use Rattle.fam_tasks.proofs.history.History.at.Goals as goal

pub returns-then-not-self-clause-proper : goal.returns-then-not-self-clause-proper
returns-then-not-self-clause-proper c p gate of =
    let own = c.self.inside in
    let same : c.args.self.now.replay ≡ own.replay = ap (λ (s : HistoryState). s.replay) (sym c.self.view_is) ∙ read_aside own.serves own.kept own.replay c.if-not-self.true in
    c.at.ensures.proper p gate (subst (IsReplayOf p gate) same of)

pub returns-in-None-clause-proper : goal.returns-in-None-clause-proper
returns-in-None-clause-proper c p gate of =
    let own = c.self.inside in
    let same : c.args.self.now.replay ≡ own.replay = ap (λ (s : HistoryState). s.replay) (sym c.self.view_is) ∙ read_alone own.serves own.kept own.replay c.in-None.is in
    c.at-in-None.ensures.proper p gate (subst (IsReplayOf p gate) same of)
