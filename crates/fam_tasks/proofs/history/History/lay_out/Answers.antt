use Rattle.std.proofs.Common.{ℕ, Option, sym, ap, subst, ◌∙◌}
use Rattle.fam_base.specs.declared.entry.Params.{Params}
use Rattle.fam_commands.specs.Kept.{Kept}
use Rattle.fam_replay.specs.Replay.{IsReplayOf}
use Rattle.fam_tasks.specs.History.{HistoryState, read_by}
use Rattle.fam_tasks.proofs.history.History.lay_out.Goals as goal

pub returns-in-Err-clause-fits : goal.returns-in-Err-clause-fits
returns-in-Err-clause-fits c = λ p gate fits.
    let serves = c.self.inside.serves in
    subst (IsReplayOf p gate) (sym (ap (λ (k : Option Kept). read_by serves k c.step_back.new.self) c.in-None.is))
    (c.step_back.ensures.fits p gate
    (subst (IsReplayOf p gate) (sym (ap (λ (h : HistoryState). h.replay) c.self.view_is) ∙ ap (λ (k : Option Kept). read_by serves k c.self.inside.replay) c.in-None.is) fits))
