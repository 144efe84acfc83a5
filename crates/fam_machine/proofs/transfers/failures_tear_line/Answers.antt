use Rattle.fam_machine.proofs.Slipping.{move_tears_line_at, op_breaks}
use Rattle.fam_machine.proofs.transfers.failures_tear_line.Goals as goal

pub returns : goal.returns
returns c = record { operation = op_breaks; own_move = move_tears_line_at }
