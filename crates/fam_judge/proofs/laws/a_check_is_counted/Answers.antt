use Rattle.fam_judge.proofs.Counting.{replay_counts_fit, replay_fit_counts}
use Rattle.fam_judge.proofs.laws.a_check_is_counted.Goals as goal

pub returns : goal.returns
returns c = record { counted = replay_counts_fit; listed = replay_fit_counts }
