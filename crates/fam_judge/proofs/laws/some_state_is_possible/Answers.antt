use Rattle.fam_judge.proofs.Judging.{explained_possible, possible_explained}
use Rattle.fam_judge.proofs.laws.some_state_is_possible.Goals as goal

pub returns : goal.returns
returns c = record { possible = explained_possible; explained = possible_explained }
