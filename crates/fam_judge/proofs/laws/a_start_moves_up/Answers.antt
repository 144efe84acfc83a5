use Rattle.fam_judge.proofs.StartsUp.{start_up}
use Rattle.fam_judge.proofs.laws.a_start_moves_up.Goals as goal

pub returns : goal.returns
returns c = λ start a lines b h cmd way is. start_up start lines a b h cmd way is
