use Rattle.fam_format.proofs.EntryLawsProofs.{entry_of_spelling, number_of_spelling}
use Rattle.fam_format.proofs.entry_laws.one_spelling_each.Goals as goal

pub returns : goal.returns
returns c = record { entry = entry_of_spelling; number = number_of_spelling }
