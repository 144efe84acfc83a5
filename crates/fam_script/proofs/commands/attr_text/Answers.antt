use Rattle.std.proofs.Common.{codes, ◌++◌, ◌∙◌, List, ℕ, refl, ap}
use Rattle.std.proofs.lemmas.List.{append_assoc}
use Rattle.std.proofs.lemmas.Result.{IfOk-weaker}
use Rattle.fam_script.proofs.TextLemmas.{mode_digits}
use Rattle.fam_script.proofs.commands.attr_text.Goals as goal

pub returns : goal.returns
returns c = IfOk-weaker c.format.result _ _ (λ s e. e ∙ ap (λ (l : List ℕ). codes " mode=" ++ l) (mode_digits c.args.attr.mode _) ∙ simp append_assoc refl) c.format.ensures.ok
