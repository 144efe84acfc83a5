use Rattle.fam_judge.proofs.Explaining.{first_explained}
use Rattle.fam_judge.proofs.laws.first_lines_are_explained.Goals as goal

pub returns : goal.returns
returns c = first_explained
