use Rattle.std.proofs.Common.{codes, ◌∙◌}
use Rattle.std.proofs.lemmas.Result.{IfOk-weaker}
use Rattle.fam_outcomes.specs.Texts as text
use Rattle.fam_causes.proofs.Joined.{assoc6}
use Rattle.fam_causes.proofs.printed.found_text.Goals as goal

pub returns : goal.returns
returns c = IfOk-weaker c.format.result _ _
    (λ s e. e ∙ assoc6 (codes "found") (text.number c.args.found) (codes " of") (text.number c.args.first) (codes " or") (text.number c.args.second)) c.format.ensures.ok
