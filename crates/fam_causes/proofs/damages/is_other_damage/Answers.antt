use Rattle.std.proofs.Common.{◌≢◌, ◌<◌, Some, length, refl, arith}
use Rattle.std.proofs.lemmas.Option.{slice_get_read}
use Rattle.fam_judging.specs.ReplyKinds.{damage_in}
use Rattle.fam_settled.proofs.Choices.{untrue}
use Rattle.fam_causes.proofs.Loops.{first_more}
use Rattle.fam_causes.proofs.damages.is_other_damage.Goals as goal

pub candidates-preserved : goal.candidates-preserved
candidates-preserved c damage tells =
    let cs = c.args.candidates.now.items in
    let d = c.index.result.now in
    let is = slice_get_read cs (length cs) c.candidates.i d refl (omega (arith, c.candidates-test.true, c.len-i-end.ensures)) c.index.ensures in
    first_more (λ x. damage_in c.args.given.now x.settled ≢ Some damage) cs c.candidates.i d is (λ p. untrue ((c.if-is_so.ensures damage tells).1 p))
    (c.candidates.invariant damage tells)

pub returns : goal.returns
returns c damage tells holds k x below at =
    let less : k < c.candidates.i = omega (arith, below, c.candidates-test.false, c.len-i-end.ensures) in
    c.candidates.invariant damage tells k x less at
