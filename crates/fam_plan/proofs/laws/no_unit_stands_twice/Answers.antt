use Rattle.fam_plan.proofs.Histories.{once_in}
use Rattle.fam_plan.proofs.laws.no_unit_stands_twice.Goals as goal

pub returns : goal.returns
returns c = once_in
