use Rattle.fam_base.proofs.ExtentLemmas.{field_of_more}
use Rattle.fam_base.proofs.extents.Extents.push.Goals as goal

pub invariant_of-self : goal.invariant_of-self
invariant_of-self c = field_of_more _ _ _ c.self.invariant c.if-self-eq-EXTENT_LIMIT.false
