use Rattle.fam_base.proofs.UnitLemmas.{strip_below}
use Rattle.fam_base.proofs.units.strips_are_small.Goals as goal

pub returns : goal.returns
returns c = strip_below
