use Rattle.fam_judge.proofs.Standing.Journals.{behind_told}
use Rattle.fam_judge.proofs.laws.hosts_are_told.Goals as goal

pub returns : goal.returns
returns c = behind_told
