use Rattle.fam_format.proofs.OverlapLaws.{used_tested, tested_used}
use Rattle.fam_format.proofs.reading_laws.used_units_are_tested.Goals as goal

pub returns : goal.returns
returns c = λ p list u. (used_tested p list u, tested_used p list u)
