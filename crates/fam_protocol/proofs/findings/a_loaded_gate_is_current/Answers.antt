use Rattle.fam_protocol.proofs.Hosts.FindingLaws.{loaded_gate, named_entry}
use Rattle.fam_protocol.proofs.findings.a_loaded_gate_is_current.Goals as goal

pub returns : goal.returns
returns c = record { loaded = loaded_gate; named = named_entry }
