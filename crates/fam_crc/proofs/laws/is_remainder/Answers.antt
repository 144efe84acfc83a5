use Rattle.fam_crc.proofs.Division.{crc_is_remainder}
use Rattle.fam_crc.proofs.laws.is_remainder.Goals as goal

pub returns : goal.returns
returns c = crc_is_remainder
