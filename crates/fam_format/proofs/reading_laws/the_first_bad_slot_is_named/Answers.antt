use Rattle.fam_format.proofs.ReadingLawsProofs.{bad_is_first, first_is_bad}
use Rattle.fam_format.proofs.reading_laws.the_first_bad_slot_is_named.Goals as goal

pub returns : goal.returns
returns c = λ line have i reason words. (bad_is_first line have i reason words, first_is_bad line have i reason)
