use Rattle.fam_script.proofs.PrintedLaw.{printed}
use Rattle.fam_script.proofs.laws.a_printed_command_reads_as_itself.Goals as goal

pub returns : goal.returns
returns c = printed
