use Rattle.fam_judge.proofs.Explaining.{explained_legal}
use Rattle.fam_judge.proofs.Showing.{whole}
use Rattle.fam_judge.proofs.laws.where_no_line_is_left_out.Goals as goal

pub returns : goal.returns
returns c = record {
  same = λ start history journal is same. whole history journal is.shown same;
  legal = λ start history journal is same told. explained_legal start history journal is same told;
}
