use Rattle.fam_format.proofs.EntryLawsProofs.{proper_inside, proper_in_device}
use Rattle.fam_format.proofs.entry_laws.extents_lie_inside.Goals as goal

pub returns : goal.returns
returns c = record { units = proper_inside; device = proper_in_device }
