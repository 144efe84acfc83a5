use Rattle.fam_machine.proofs.Transferring.{brought_transfers}
use Rattle.fam_machine.proofs.transfers.bring_transfers.Goals as goal

pub returns : goal.returns
returns c = brought_transfers
