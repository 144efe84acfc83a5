use Rattle.std.proofs.Common.{◌∙◌, ◌++◌, List, ℕ, ap, ap₂}
use Rattle.std.proofs.lemmas.Result.{IfOk-weaker}
use Rattle.fam_outcomes.specs.Texts.{line}
use Rattle.fam_script.proofs.StormTexts.{whole}
use Rattle.fam_script.proofs.texts.storm_line.Goals as goal

pub returns : goal.returns
returns c =
    IfOk-weaker c.line_with.result _ _ (λ made e. e
    ∙ ap₂ (λ (l m : List ℕ). line (l ++ m)) (c.as_str.ensures.value ∙ c.in-Ok.ensures) (c.as_bytes.ensures.value ∙ c.in-Ok-storm_back.ensures)
    ∙ ap line (whole c.args.seed c.args.size c.args.events c.args.counts.now c.args.crc)) c.line_with.ensures
