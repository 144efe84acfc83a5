use Rattle.std.proofs.Common.{◌∙◌, codes}
use Rattle.std.proofs.lemmas.Result.{IfOk-weaker}
use Rattle.fam_outcomes.specs.Texts.{number}
use Rattle.fam_script.proofs.StormTexts.{eight}
use Rattle.fam_script.proofs.texts.storm_back.Goals as goal

pub returns : goal.returns
returns c =
    let counts = c.args.counts.now in
    IfOk-weaker c.format.result _ _
    (λ s e. e ∙ eight (codes " answers") (number counts.answers) (codes " refused") (number counts.refused) (codes " settled") (number counts.settled) (codes " crc") (number c.args.crc))
    c.format.ensures.ok
