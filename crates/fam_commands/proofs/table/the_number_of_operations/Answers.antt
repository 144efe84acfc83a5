use Rattle.fam_commands.proofs.Steps.Standing.{steps_at_end}
use Rattle.fam_commands.proofs.table.the_number_of_operations.Goals as goal

pub returns : goal.returns
returns c = steps_at_end
