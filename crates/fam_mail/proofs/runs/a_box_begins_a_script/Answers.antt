use Rattle.fam_mail.proofs.RunLaws.{first_run}
use Rattle.fam_mail.proofs.runs.a_box_begins_a_script.Goals as goal

pub returns : goal.returns
returns c = first_run
