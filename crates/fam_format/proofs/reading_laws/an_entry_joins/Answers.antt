use Rattle.fam_format.proofs.JoinLaws.{joins_from, joins_back}
use Rattle.fam_format.proofs.reading_laws.an_entry_joins.Goals as goal

pub returns : goal.returns
returns c = λ p list e. (joins_from p list e, joins_back p list e)
