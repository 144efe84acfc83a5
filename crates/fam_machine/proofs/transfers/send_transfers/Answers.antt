use Rattle.fam_machine.proofs.Transferring.{asked_for_transfers, cleaned_transfers, absent_transfers, asked_transfers, failed_send_transfers}
use Rattle.fam_machine.proofs.transfers.send_transfers.Goals as goal

pub returns : goal.returns
returns c = record { write_back = asked_for_transfers; fence = cleaned_transfers; invalidate = absent_transfers; kept = asked_transfers; failed = failed_send_transfers }
