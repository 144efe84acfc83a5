use Rattle.fam_format.proofs.EntryLawsProofs.{read_proper, read_spelled}
use Rattle.fam_format.proofs.entry_laws.what_is_read_is_spelled.Goals as goal

pub returns : goal.returns
returns c = record { proper = read_proper; spelled = λ p words seq e w. read_spelled p words seq e w.count w.fits }
