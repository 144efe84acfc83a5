use Rattle.std.proofs.Common.{refl, arith}
use Rattle.fam_settled.proofs.EqualLists.{same_lists}
use Rattle.fam_settled.proofs.same.are_from_same.Goals as goal

pub returns : goal.returns
returns c = (
  λ _. same_lists c.args.a.now c.args.b.now (omega (arith, c.if-a-b.false))
      (λ k less. c.places.invariant k (omega (arith, less, c.places-test.false))),
  λ _. refl,
)
