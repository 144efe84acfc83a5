use Rattle.std.proofs.Common.{codes, ◌∙◌}
use Rattle.std.proofs.lemmas.Result.{IfOk-weaker}
use Rattle.fam_script.proofs.TextLemmas.{three_parts}
use Rattle.fam_script.proofs.commands.cp_line.Goals as goal

pub returns : goal.returns
returns c = IfOk-weaker c.line_with_name.result _ _ (λ s e. e ∙ three_parts (codes "start cp ") _ _ _ c.bytes.ensures.same _ _ _ (c.as_str.ensures.value ∙ c.in-Ok.ensures)) c.line_with_name.ensures
