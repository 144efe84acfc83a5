use Rattle.std.proofs.Common.{refl, arith}
use Rattle.fam_settled.proofs.EqualLists.{same_lists}
use Rattle.fam_settled.proofs.same.have_same_entries.Goals as goal

pub returns : goal.returns
returns c = (
  λ _. same_lists c.args.a.now.entries c.args.b.now.entries
      (omega (arith, c.count-count.ensures.count, c.count.ensures.count, c.if-count.false))
      (λ k less. c.entries.invariant k (omega (arith, less, c.count-count.ensures.count, c.entries-test.false))),
  λ _. refl,
)
