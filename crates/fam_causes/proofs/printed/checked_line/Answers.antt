use Rattle.std.proofs.Common.{codes, ◌++◌, ◌∙◌, List, ℕ, Option, sym, ap}
use Rattle.std.proofs.lemmas.Result.{IfOk-weaker}
use Rattle.fam_outcomes.specs.Texts as text
use Rattle.fam_script.specs.Reports.{checked_prefix}
use Rattle.fam_causes.proofs.printed.checked_line.Goals as goal

pub returns-in-None : goal.returns-in-None
returns-in-None c = IfOk-weaker c.line_with.result _ _
    (λ s e. e ∙ ap (λ (l : List ℕ). text.line (l ++ codes " -")) (c.as_str.ensures.value ∙ c.in-Ok.ensures)
    ∙ ap (λ (o : Option (List ℕ)). text.line (checked_prefix c.args.m c.args.checked.now ++ text.path_or_none o)) (sym c.in-None.is))
    c.line_with.ensures

pub returns : goal.returns
returns c = IfOk-weaker c.line_with_last_name.result _ _
    (λ s e. e ∙ ap (λ (l : List ℕ). text.line (l ++ text.name_text c.bytes.result.now)) (c.as_str-in-Some.ensures.value ∙ c.in-Ok.ensures)
    ∙ ap (λ (n : List ℕ). text.line (checked_prefix c.args.m c.args.checked.now ++ text.name_text n)) c.bytes.ensures.same
    ∙ ap (λ (o : Option (List ℕ)). text.line (checked_prefix c.args.m c.args.checked.now ++ text.path_or_none o)) (sym c.in-Some.is))
    c.line_with_last_name.ensures
