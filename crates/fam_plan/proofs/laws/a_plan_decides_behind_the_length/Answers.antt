use Rattle.fam_plan.proofs.Lengths.{behind_length, first_for, first_there, fits_length}
use Rattle.fam_plan.proofs.laws.a_plan_decides_behind_the_length.Goals as goal

pub returns : goal.returns
returns c = record { behind = behind_length; fits = fits_length; first = λ p me list w refused. (first_for p me list w refused, first_there p me list w refused) }
