use Rattle.fam_mail.proofs.Outcomes.{operated_stands}
use Rattle.fam_mail.proofs.laws.every_operation_says_what_it_may.Goals as goal

pub returns : goal.returns
returns c = operated_stands
