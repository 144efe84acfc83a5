use Rattle.fam_format.proofs.EntryLawsProofs.{spelling_read}
use Rattle.fam_format.proofs.entry_laws.a_spelling_is_read.Goals as goal

pub returns : goal.returns
returns c = spelling_read
