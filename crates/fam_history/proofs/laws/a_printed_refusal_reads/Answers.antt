use Rattle.fam_history.proofs.PrintedRefusals.{refusal_reads}
use Rattle.fam_history.proofs.laws.a_printed_refusal_reads.Goals as goal

pub returns : goal.returns
returns c = refusal_reads
