use Rattle.std.proofs.Common.{◌∙◌}
use Rattle.std.proofs.lemmas.Result.{IfOk-weaker}
use Rattle.fam_outcomes.specs.Texts as text
use Rattle.fam_script.proofs.TextLemmas.{file_parts}
use Rattle.fam_script.proofs.commands.file_text.Goals as goal

pub returns : goal.returns
returns c = IfOk-weaker c.format.result _ _ (λ s e. e ∙ file_parts (text.number c.args.size) _ _ c.args.seed.now _ _ c.in_ok-attr.ensures c.in_ok-stripe.ensures) c.format.ensures.ok
