use Rattle.fam_protocol.proofs.Hosts.FindingLaws.{found_count, named_next}
use Rattle.fam_protocol.proofs.findings.the_master_finds_what_is_settled.Goals as goal

pub returns : goal.returns
returns c = record { found = λ p all settled n t step is. found_count p all settled step n t is; named = λ p all settled seq e t step is. named_next p all settled step seq e t is }
