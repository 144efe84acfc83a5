use Rattle.fam_base.proofs.UnitLemmas.{units_enough, units_least}
use Rattle.fam_base.proofs.units.units_hold_the_size.Goals as goal

pub returns-clause-enough : goal.returns-clause-enough
returns-clause-enough c = units_enough

pub returns-clause-least : goal.returns-clause-least
returns-clause-least c = units_least
