use Rattle.fam_refuted.proofs.RefutedLaws.{early_answer}
use Rattle.fam_refuted.proofs.refused.an_answer_before_its_fence_is_missed.Goals as goal

pub returns : goal.returns
returns c = λ scene begins. early_answer scene begins
