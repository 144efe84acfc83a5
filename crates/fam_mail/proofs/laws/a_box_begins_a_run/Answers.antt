use Rattle.fam_mail.proofs.Outcomes.{begun}
use Rattle.fam_mail.proofs.laws.a_box_begins_a_run.Goals as goal

pub returns : goal.returns
returns c = begun
