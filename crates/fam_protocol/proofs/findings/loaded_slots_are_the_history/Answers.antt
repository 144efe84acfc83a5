use Rattle.fam_protocol.proofs.Hosts.FindingLaws.{loaded_slot}
use Rattle.fam_protocol.proofs.findings.loaded_slots_are_the_history.Goals as goal

pub returns : goal.returns
returns c = loaded_slot
