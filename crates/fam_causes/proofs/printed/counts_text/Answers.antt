use Rattle.std.proofs.Common.{codes, ◌∙◌}
use Rattle.std.proofs.lemmas.Result.{IfOk-weaker}
use Rattle.fam_outcomes.specs.Texts as text
use Rattle.fam_script.proofs.TextLemmas.{assoc9}
use Rattle.fam_causes.proofs.printed.counts_text.Goals as goal

pub returns : goal.returns
returns c = IfOk-weaker c.format.result _ _
    (λ s e. e ∙ assoc9 (codes "checked") (text.number c.args.m) (codes " missing") (text.number c.args.checked.now.missing) (codes " extra")
    (text.number c.args.checked.now.extra) (codes " changed") (text.number c.args.checked.now.changed) (codes " first")) c.format.ensures.ok
