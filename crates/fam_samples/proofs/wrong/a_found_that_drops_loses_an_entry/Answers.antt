use Rattle.std.proofs.Common.{refl, inr}
use Rattle.fam_rules.specs.Content.{fill}
use Rattle.fam_samples.proofs.Decided.{first}
use Rattle.fam_samples.proofs.Dropped.{misread}
use Rattle.fam_samples.specs.Scene.{mkdir, x}
use Rattle.fam_samples.proofs.wrong.a_found_that_drops_loses_an_entry.Goals as goal

pub returns-clause-misread : goal.returns-clause-misread
returns-clause-misread c = λ start state world image notes host p history pending held was is wrong. misread start state world image notes host p history pending held was is wrong

pub returns-clause-legal : goal.returns-clause-legal
unfolding fill
returns-clause-legal c = (tt, (tt, (tt, (tt, (tt, (refl, ((refl, record { cmd = mkdir x; told = refl; none = refl; is = first }), (tt, (tt, (tt, (inr refl, tt)))))))))))

pub returns-clause-right : goal.returns-clause-right
unfolding fill
returns-clause-right c = refl
