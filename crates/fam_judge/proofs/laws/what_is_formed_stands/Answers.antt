use Rattle.fam_judge.proofs.Standing.Formed.{formed_stands}
use Rattle.fam_judge.proofs.laws.what_is_formed_stands.Goals as goal

pub returns : goal.returns
returns c = formed_stands
