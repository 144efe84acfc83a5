use Rattle.fam_words.proofs.UuidWords.{call_uuids}
use Rattle.fam_words.proofs.laws.uuids_of_words_are_uuids.Goals as goal

pub returns : goal.returns
returns c = call_uuids
