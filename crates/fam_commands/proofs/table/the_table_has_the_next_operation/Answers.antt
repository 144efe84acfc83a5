use Rattle.fam_commands.proofs.Steps.Standing.{next_operation}
use Rattle.fam_commands.proofs.table.the_table_has_the_next_operation.Goals as goal

pub returns : goal.returns
returns c = next_operation
