use Rattle.std.proofs.Common.{◌<◌, length, refl, arith}
use Rattle.std.proofs.lemmas.Option.{slice_get_read}
use Rattle.fam_settled.proofs.Choices.{untrue}
use Rattle.fam_causes.specs.Differing.{MayNameIn}
use Rattle.fam_causes.proofs.Loops.{first_more}
use Rattle.fam_causes.proofs.acknowledged.is_unnamed.Goals as goal

pub candidates-preserved : goal.candidates-preserved
candidates-preserved c =
    let cs = c.args.candidates.now.items in
    let d = c.index.result.now in
    let is = slice_get_read cs (length cs) c.candidates.i d refl (omega (arith, c.candidates-test.true, c.len-i-end.ensures)) c.index.ensures in
    first_more (λ x. MayNameIn c.args.seen.now c.args.cmd.now c.args.at c.args.seq c.args.entry.now x → ⊥) cs c.candidates.i d is (λ p. untrue (c.if-may_name_in.ensures.1 p)) c.candidates.invariant

pub returns : goal.returns
returns c holds k x below at =
    let less : k < c.candidates.i = omega (arith, below, c.candidates-test.false, c.len-i-end.ensures) in
    c.candidates.invariant k x less at
