use Rattle.fam_refuted.proofs.RefutedLaws.{early_gate}
use Rattle.fam_refuted.proofs.refused.a_gate_before_its_slot_tears_the_entry.Goals as goal

pub returns : goal.returns
returns c = λ scene begins. early_gate scene begins
