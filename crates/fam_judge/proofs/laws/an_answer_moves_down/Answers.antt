use Rattle.fam_judge.proofs.AnswersDown.{answer_down}
use Rattle.fam_judge.proofs.laws.an_answer_moves_down.Goals as goal

pub returns : goal.returns
returns c = λ start a lines b h answer way is. answer_down start lines a b h answer way is
