use Rattle.fam_format.proofs.LogLawsProofs.{header_unique}
use Rattle.fam_format.proofs.super_laws.header_is_unique.Goals as goal

pub returns : goal.returns
returns c = header_unique
