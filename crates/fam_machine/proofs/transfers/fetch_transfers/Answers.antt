use Rattle.fam_machine.proofs.Transferring.{fetched_transfers}
use Rattle.fam_machine.proofs.transfers.fetch_transfers.Goals as goal

pub returns : goal.returns
returns c = fetched_transfers
