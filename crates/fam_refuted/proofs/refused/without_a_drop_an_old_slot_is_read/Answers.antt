use Rattle.fam_refuted.proofs.RefutedLaws.{no_drop}
use Rattle.fam_refuted.proofs.refused.without_a_drop_an_old_slot_is_read.Goals as goal

pub returns : goal.returns
returns c = λ scene begins. no_drop scene begins
