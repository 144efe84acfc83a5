use Rattle.fam_history.proofs.PrintedEntries.{entry_reads}
use Rattle.fam_history.proofs.laws.a_printed_entry_reads.Goals as goal

pub returns : goal.returns
returns c = entry_reads
