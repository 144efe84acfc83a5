use Rattle.std.proofs.Common.{codes, ◌∙◌}
use Rattle.std.proofs.lemmas.Result.{IfOk-weaker}
use Rattle.fam_outcomes.specs.Texts as text
use Rattle.fam_script.proofs.TextLemmas.{two_parts}
use Rattle.fam_script.proofs.commands.read_line.Goals as goal

pub returns : goal.returns
returns c = IfOk-weaker c.line_with_name.result _ _
    (λ s e. e ∙ two_parts (codes "start read ") _ _ _ c.bytes.ensures.same (text.number c.args.offset) (text.number c.args.count)
    (c.as_str.ensures.value ∙ c.in-Ok.ensures.ok)) c.line_with_name.ensures
