use Rattle.fam_whole.proofs.Lawful.{call_lawful}
use Rattle.fam_whole.proofs.what_a_call_runs_keeps_the_laws.Goals as goal

pub returns : goal.returns
returns c = call_lawful
