use Rattle.fam_commands.proofs.Steps.Standing.{next_note}
use Rattle.fam_commands.proofs.table.the_table_has_the_note.Goals as goal

pub returns : goal.returns
returns c = next_note
