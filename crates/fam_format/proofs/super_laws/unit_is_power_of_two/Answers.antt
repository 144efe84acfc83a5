use Rattle.fam_format.proofs.UnitPowers.{unit_told, unit_from}
use Rattle.fam_format.proofs.super_laws.unit_is_power_of_two.Goals as goal

pub returns : goal.returns
returns c = λ u. (unit_told u, unit_from u)
