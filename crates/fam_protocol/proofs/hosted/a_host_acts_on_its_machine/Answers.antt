use Rattle.fam_protocol.proofs.Hosts.Acts.{failed_move_transfers, failure_breaks, moves_by, operates_by}
use Rattle.fam_protocol.proofs.hosted.a_host_acts_on_its_machine.Goals as goal

pub returns : goal.returns
returns c = record { operates = operates_by; moves = moves_by; failed = failure_breaks; move_failed = failed_move_transfers }
