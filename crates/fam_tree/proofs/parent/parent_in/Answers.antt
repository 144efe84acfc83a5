use Rattle.std.proofs.Common.{sym, inl, inr, arith, ◌-◌}
use Rattle.std.proofs.lemmas.Bool.{cases_lt}
use Rattle.fam_base.proofs.PathLemmas.{parent_at, no_parent}
use Rattle.fam_tree.proofs.parent.parent_in.Goals as goal

pub returns-then-path-i-eq47 : goal.returns-then-path-i-eq47
returns-then-path-i-eq47 c =
    sym (parent_at c.args.path.now (c.loop-i.i - 1) (omega arith) c.if-path-i-eq47.true (λ k a b. c.loop-i.invariant k (omega arith) b))

pub returns : goal.returns
returns c = sym (no_parent c.args.path.now (λ k b. c.loop-i.invariant k (omega arith) b))

pub returns-then-begin_in_name : goal.returns-then-begin_in_name
returns-then-begin_in_name c =
    sym (no_parent c.args.path.now (λ k b.
    elim (cases_lt k 8) [
      | inl below ↦ c.if-begin_in_name.ensures.none k below
      | inr past ↦ c.place_in_name-end.ensures.none k (omega (arith, past, c.if-end-lt8.true)) b
    ]))
