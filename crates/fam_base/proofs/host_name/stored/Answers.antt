use Rattle.fam_base.proofs.NameLemmas.{stored_name}
use Rattle.fam_base.proofs.host_name.stored.Goals as goal

pub invariant_of-result : goal.invariant_of-result
invariant_of-result c = rw c.copy_from_slice.ensures.after (stored_name _ c.requires)
