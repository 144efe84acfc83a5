use Rattle.fam_mail.proofs.RunLaws.{no_bad_box, no_bad_record}
use Rattle.fam_mail.proofs.runs.no_box_is_found_bad.Goals as goal

pub returns-clause-bad_box : goal.returns-clause-bad_box
returns-clause-bad_box c = no_bad_box

pub returns-clause-bad_record : goal.returns-clause-bad_record
returns-clause-bad_record c = no_bad_record
