use Rattle.std.proofs.Common.{ap, sym, ◌∙◌}
use Rattle.std.proofs.lemmas.Result.{IfOk-weaker}
use Rattle.fam_causes.specs.CauseTexts.{cause_lines}
use Rattle.fam_causes.proofs.printed.cause_text.Goals as goal

pub returns-in-ShownFew : goal.returns-in-ShownFew
returns-in-ShownFew c = IfOk-weaker c.line_of.result _ _ (λ s e. e ∙ sym (ap cause_lines c.in-ShownFew.is)) (c.line_of.ensures _ c.few_text.ensures)

pub returns-in-ShownMany : goal.returns-in-ShownMany
returns-in-ShownMany c = IfOk-weaker c.line_of-in-ShownMany.result _ _ (λ s e. e ∙ sym (ap cause_lines c.in-ShownMany.is)) (c.line_of-in-ShownMany.ensures _ c.many_text.ensures)

pub returns-in-NotAcknowledged : goal.returns-in-NotAcknowledged
returns-in-NotAcknowledged c =
    IfOk-weaker c.line_of-in-NotAcknowledged.result _ _ (λ s e. e ∙ sym (ap cause_lines c.in-NotAcknowledged.is)) (c.line_of-in-NotAcknowledged.ensures _ c.format.ensures.ok)

pub returns-in-Found : goal.returns-in-Found
returns-in-Found c = IfOk-weaker c.line_of-in-Found.result _ _ (λ s e. e ∙ sym (ap cause_lines c.in-Found.is)) (c.line_of-in-Found.ensures _ c.found_text.ensures)
