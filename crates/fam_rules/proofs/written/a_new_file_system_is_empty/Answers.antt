use Rattle.fam_rules.proofs.FormattedProofs.{lines_formatted, formatted_reads}
use Rattle.fam_rules.proofs.written.a_new_file_system_is_empty.Goals as goal

pub returns : goal.returns
returns c = record { lines = lines_formatted; empty = formatted_reads }
