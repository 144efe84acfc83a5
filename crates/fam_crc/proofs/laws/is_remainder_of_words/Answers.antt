use Rattle.fam_crc.proofs.WordBytes.{words_have_remainder}
use Rattle.fam_crc.proofs.laws.is_remainder_of_words.Goals as goal

pub returns : goal.returns
returns c = words_have_remainder
