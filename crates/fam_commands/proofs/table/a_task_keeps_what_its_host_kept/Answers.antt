use Rattle.fam_commands.proofs.Steps.Standing.{kept_of}
use Rattle.fam_commands.proofs.table.a_task_keeps_what_its_host_kept.Goals as goal

pub returns : goal.returns
returns c = kept_of
