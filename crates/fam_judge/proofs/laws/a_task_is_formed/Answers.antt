use Rattle.fam_judge.proofs.Forming.{task_formed}
use Rattle.fam_judge.proofs.laws.a_task_is_formed.Goals as goal

pub returns : goal.returns
returns c = λ lines hosts name h host task note number declared runs is placed. task_formed lines hosts name h host task number declared runs note is placed
