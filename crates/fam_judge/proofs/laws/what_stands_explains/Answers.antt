use Rattle.fam_judge.proofs.Standing.Journals.{explained_stands, standing_explains}
use Rattle.fam_judge.proofs.laws.what_stands_explains.Goals as goal

pub returns : goal.returns
returns c = record { explains = standing_explains; explained = explained_stands }
