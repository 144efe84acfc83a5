use Rattle.fam_format.proofs.EntryLawsProofs.{refused}
use Rattle.fam_format.proofs.entry_laws.a_refused_slot_is_no_spelling.Goals as goal

pub returns : goal.returns
returns c = refused
