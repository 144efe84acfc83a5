use Rattle.std.proofs.Common.{codes, ◌∙◌}
use Rattle.std.proofs.lemmas.Result.{IfOk-weaker}
use Rattle.fam_outcomes.specs.Texts as text
use Rattle.fam_causes.proofs.Joined.{assoc6}
use Rattle.fam_causes.proofs.printed.few_text.Goals as goal

pub returns : goal.returns
returns c = IfOk-weaker c.format.result _ _
    (λ s e. e ∙ assoc6 (codes "shown") (text.number c.args.shown) (codes " of at least") (text.number c.args.floor) (codes " settled at line") (text.number c.args.mark)) c.format.ensures.ok
