use Rattle.fam_judge.proofs.Explaining.{legal_explained}
use Rattle.fam_judge.proofs.laws.what_is_legal_is_explained.Goals as goal

pub returns : goal.returns
returns c = legal_explained
