use Rattle.std.proofs.Common.{refl}
use Rattle.fam_rules.specs.Content.{fill}
use Rattle.fam_samples.proofs.Decided.{first}
use Rattle.fam_samples.specs.Scene.{mkdir, x}
use Rattle.fam_samples.proofs.wrong.an_ok_of_any_entry_loses_a_command.Goals as goal

pub returns-clause-wrong : goal.returns-clause-wrong
unfolding fill
returns-clause-wrong c = (tt, (tt, (tt, (tt, (tt, (refl, ((refl, record { cmd = mkdir x; told = refl; none = refl; is = first }), (refl, (tt, (tt, (refl, (refl, tt))))))))))))

pub returns-clause-lost : goal.returns-clause-lost
unfolding fill
returns-clause-lost c = refl
