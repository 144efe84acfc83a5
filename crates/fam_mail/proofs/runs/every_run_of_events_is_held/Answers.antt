use Rattle.fam_mail.proofs.RunLaws.{events_held}
use Rattle.fam_mail.proofs.runs.every_run_of_events_is_held.Goals as goal

pub returns : goal.returns
returns c = events_held
