use Rattle.fam_machine.proofs.Slipping.{move_transfers}
use Rattle.fam_machine.proofs.transfers.own_moves_transfer.Goals as goal

pub returns : goal.returns
returns c = move_transfers
