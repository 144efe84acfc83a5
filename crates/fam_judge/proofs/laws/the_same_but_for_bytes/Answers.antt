use Rattle.fam_judge.proofs.Explaining.{same_explained}
use Rattle.fam_judge.proofs.laws.the_same_but_for_bytes.Goals as goal

pub returns : goal.returns
returns c = same_explained
