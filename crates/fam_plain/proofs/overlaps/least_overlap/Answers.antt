use Rattle.std.proofs.Common.{◌∙◌, ℕ, Option, ap, is_some, sym}
use Rattle.fam_plain.proofs.Least.{no_pair_here, pair_here}
use Rattle.fam_plain.proofs.overlaps.least_overlap.Goals as goal

-- src/overlaps.rt:105:13
pub returns-then-is_some : goal.returns-then-is_some
returns-then-is_some c =
    c.in_ok-pair.ensures
    ∙ pair_here c.args.unit c.args.found.now c.loop-last.last c.index-found-last.result c.loop-last-test.true c.index-found-last.is
    (ap (λ (o : Option (ℕ × ℕ)). is_some o) (sym c.in_ok-pair.ensures) ∙ sym c.is_some.ensures ∙ c.if-is_some.true)
    ∙ c.loop-last.invariant

-- src/overlaps.rt:102:5
pub loop-last-preserved : goal.loop-last-preserved
loop-last-preserved c =
    no_pair_here c.args.unit c.args.found.now c.loop-last.last c.index-found-last.result c.loop-last-test.true c.index-found-last.is
    (ap (λ (o : Option (ℕ × ℕ)). is_some o) (sym c.in_ok-pair.ensures) ∙ sym c.is_some.ensures ∙ c.if-is_some.false)
    ∙ c.loop-last.invariant
