use Rattle.fam_base.proofs.PathLemmas.{stored_field}
use Rattle.fam_notes.proofs.path_text.path_of.Goals as goal

pub in_field-requires : goal.in_field-requires
in_field-requires c = rw c.copy_from_slice.ensures.after (stored_field _ c.requires)
