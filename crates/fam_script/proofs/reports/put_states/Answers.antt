use Rattle.std.proofs.Common.{◌++◌, ◌∙◌, List, ℕ, ap}
use Rattle.fam_script.proofs.TextLemmas.{OnOk-more, three_lines}
use Rattle.fam_script.proofs.reports.put_states.Goals as goal

pub returns : goal.returns
returns c = OnOk-more c.put_line-2.result
    (λ e. three_lines _ _ _ _ _ _ _ _
    (c.in_ok-put_bytes.ensures.added ∙ ap (λ (l : List ℕ). c.args.into.now.items ++ l) (c.as_bytes.ensures.value ∙ c.verdict.ensures))
    c.in_ok-put_bytes-2.ensures.added (c.in_ok-put_line.ensures _ c.super_state_text.ensures) e) (c.put_line-2.ensures _ c.log_state_text.ensures)
