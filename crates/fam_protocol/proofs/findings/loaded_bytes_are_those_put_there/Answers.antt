use Rattle.fam_protocol.proofs.Hosts.FindingLaws.{loaded_word}
use Rattle.fam_protocol.proofs.findings.loaded_bytes_are_those_put_there.Goals as goal

pub returns : goal.returns
returns c = loaded_word
