use Rattle.fam_mail.proofs.RunLaws.{taken_list}
use Rattle.fam_mail.proofs.runs.a_taken_list_holds_what_was_settled.Goals as goal

pub returns : goal.returns
returns c = taken_list
