use Rattle.std.proofs.Common.{◌∙◌, codes}
use Rattle.std.proofs.lemmas.Result.{IfOk-weaker}
use Rattle.fam_outcomes.specs.Texts.{number}
use Rattle.fam_script.proofs.StormTexts.{five}
use Rattle.fam_script.proofs.texts.storm_front.Goals as goal

pub returns : goal.returns
returns c =
    IfOk-weaker c.format.result _ _ (λ s e. e ∙ five (codes "storm") (number c.args.seed) (number c.args.size) (codes " events") (number c.args.events)) c.format.ensures.ok
