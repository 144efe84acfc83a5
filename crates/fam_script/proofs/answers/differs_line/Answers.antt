use Rattle.std.proofs.Common.{◌∙◌, refl}
use Rattle.std.proofs.lemmas.List.{append_assoc}
use Rattle.std.proofs.lemmas.Result.{IfOk-weaker}
use Rattle.fam_script.proofs.answers.differs_line.Goals as goal

pub returns : goal.returns
returns c = IfOk-weaker c.line_with.result _ _ (λ s e. e ∙ simp (c.as_str.ensures.value, c.in-Ok.ensures.ok, c.byte_digits.ensures, c.byte_digits-2.ensures, append_assoc) refl) c.line_with.ensures
