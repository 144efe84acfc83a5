use Rattle.std.proofs.Common.{codes, ◌++◌, ◌∙◌, List, ℕ, ap}
use Rattle.std.proofs.lemmas.Result.{IfOk-weaker}
use Rattle.fam_outcomes.specs.Texts as text
use Rattle.fam_script.proofs.TextLemmas.{four_parts}
use Rattle.fam_script.proofs.commands.creat_line.Goals as goal

pub returns : goal.returns
returns c = IfOk-weaker c.line_with_name.result _ _
    (λ s e. e ∙ four_parts (codes "start creat ") _ _ _ c.bytes.ensures.same (text.number c.args.size) (text.attr_text c.args.attr)
    (text.seed_text c.args.fill.now) (text.stripe_text c.args.stripe)
    (c.as_str-2.ensures.value ∙ c.in-Ok-file_text.ensures
    ∙ ap (λ (e : List ℕ). text.number c.args.size ++ text.attr_text c.args.attr ++ e ++ text.stripe_text c.args.stripe)
    (c.as_str.ensures.value ∙ c.in-Ok.ensures))) c.line_with_name.ensures
