use Rattle.fam_mail.proofs.RecordLines.{new_line}
use Rattle.fam_mail.proofs.record.Record.new.Goals as goal

pub invariant_of-result : goal.invariant_of-result
invariant_of-result c = rw c.copy_from_slice.ensures.after (new_line _ c.requires.few)
