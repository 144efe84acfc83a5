use Rattle.fam_mail.proofs.Finishing.{finished_stands, stays_stands}
use Rattle.fam_mail.proofs.laws.a_task_that_is_finished_says_what_it_may.Goals as goal

pub returns-clause-finished : goal.returns-clause-finished
returns-clause-finished c = finished_stands

pub returns-clause-stays : goal.returns-clause-stays
returns-clause-stays c = stays_stands
