use Rattle.fam_program.proofs.Commands.OfLogplay.{of_logplay}
use Rattle.fam_program.proofs.laws.a_shadow_is_of_a_logplay.Goals as goal

pub returns : goal.returns
returns c = of_logplay
