use Rattle.fam_judge.proofs.Following.{follows_formed}
use Rattle.fam_judge.proofs.laws.what_follows_is_formed.Goals as goal

pub returns : goal.returns
returns c = λ lines events hosts journal. follows_formed lines events hosts journal
