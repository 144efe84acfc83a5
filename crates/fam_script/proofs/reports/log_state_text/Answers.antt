use Rattle.std.proofs.Common.{◌∙◌, refl}
use Rattle.std.proofs.lemmas.List.{append_assoc}
use Rattle.std.proofs.lemmas.Result.{IfOk-weaker}
use Rattle.fam_script.proofs.reports.log_state_text.Goals as goal

pub returns-in-Sound : goal.returns-in-Sound
returns-in-Sound c = rw c.in-Sound.is (IfOk-weaker c.format.result _ _ (λ s e. e ∙ simp append_assoc refl) c.format.ensures.ok)
