use Rattle.fam_commands.proofs.SoloRuns.{ran_count, ran_leaves}
use Rattle.fam_commands.proofs.solo.a_solo_command_is_a_run_of_operations.Goals as goal

pub returns : goal.returns
returns c = record { leaves = ran_leaves; count = ran_count }
