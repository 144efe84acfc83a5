use Rattle.std.proofs.Common.{◌∙◌, refl}
use Rattle.fam_history.proofs.KeywordSteps.{found, passed, past}
use Rattle.fam_history.proofs.literals.meaning.Goals as goal

pub loop-text-init : goal.loop-text-init
loop-text-init g c = refl

pub loop-text-preserved : goal.loop-text-preserved
loop-text-preserved g c =
    passed (λ keyword. keyword.0.now) (λ keyword. keyword.1) c.args.word.now c.args.keywords.now c.loop-text.text-index c.loop-text-item.result c.loop-text-test.true c.loop-text-item.is c.if-is.ensures
    ∙ c.loop-text.invariant

pub returns-then-is : goal.returns-then-is
returns-then-is g c =
    found (λ keyword. keyword.0.now) (λ keyword. keyword.1) c.args.word.now c.args.keywords.now c.loop-text.text-index c.loop-text-item.result c.loop-text-test.true c.loop-text-item.is c.if-is.ensures
    ∙ c.loop-text.invariant

pub returns : goal.returns
returns g c =
    past (λ keyword. keyword.0.now) (λ keyword. keyword.1) c.args.word.now c.args.keywords.now c.loop-text.text-index c.loop-text-test.false
    ∙ c.loop-text.invariant
