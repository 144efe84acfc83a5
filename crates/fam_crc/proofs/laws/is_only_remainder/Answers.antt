use Rattle.fam_crc.proofs.Quotients.{only_remainder}
use Rattle.fam_crc.proofs.laws.is_only_remainder.Goals as goal

pub returns : goal.returns
returns c = only_remainder
