use Rattle.fam_rules.proofs.AppendedProofs.{lines_appended}
use Rattle.fam_rules.proofs.AppendedReads.{appended_reads}
use Rattle.fam_rules.proofs.written.an_appended_entry_is_read.Goals as goal

pub returns : goal.returns
returns c = record { lines = lines_appended; read = appended_reads }
