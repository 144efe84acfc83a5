use Rattle.fam_whole.proofs.Fronts.{up_to_fault}
use Rattle.fam_whole.proofs.a_run_is_exact_up_to_a_fault.Goals as goal

pub returns : goal.returns
returns c = up_to_fault
