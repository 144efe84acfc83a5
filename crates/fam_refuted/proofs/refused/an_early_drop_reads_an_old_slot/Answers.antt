use Rattle.fam_refuted.proofs.RefutedLaws.{early_drop}
use Rattle.fam_refuted.proofs.refused.an_early_drop_reads_an_old_slot.Goals as goal

pub returns : goal.returns
returns c = λ scene begins. early_drop scene begins
