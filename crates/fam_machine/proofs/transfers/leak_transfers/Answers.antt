use Rattle.fam_machine.proofs.Transferring.{leaked_transfers, failed_leak_transfers}
use Rattle.fam_machine.proofs.transfers.leak_transfers.Goals as goal

pub returns : goal.returns
returns c = record { leak = leaked_transfers; failed = failed_leak_transfers }
