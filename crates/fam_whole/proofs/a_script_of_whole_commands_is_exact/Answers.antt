use Rattle.fam_whole.proofs.Exact.{exact}
use Rattle.fam_whole.proofs.a_script_of_whole_commands_is_exact.Goals as goal

pub returns : goal.returns
returns c = λ files events start image sound run. exact start files events image sound run
