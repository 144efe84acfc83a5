use Rattle.fam_mailbox.proofs.Leaving.{ran_left}
use Rattle.fam_mailbox.proofs.laws.a_mail_run_leaves_its_box.Goals as goal

pub returns : goal.returns
returns c = ran_left
