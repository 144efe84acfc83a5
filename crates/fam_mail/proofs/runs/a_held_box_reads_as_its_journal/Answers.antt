use Rattle.fam_mail.proofs.RunLaws.{left_box}
use Rattle.fam_mail.proofs.runs.a_held_box_reads_as_its_journal.Goals as goal

pub returns : goal.returns
returns c = left_box
