use Rattle.std.proofs.Common.{◌≡◌, ℕ, ◌+◌, ◌-◌, List, drop, ap, ◌∙◌, get_or, arith}
use Rattle.fam_base.specs.declared.extents.Extent.{Extent}
use Rattle.fam_base.specs.ExtentLists.{no_extent}
use Rattle.fam_content.proofs.Along.{further, here}
use Rattle.fam_rules.specs.Place.{simple_place}
use Rattle.fam_dup.proofs.runs.simple_run.Goals as goal

pub returns-then-left-extent : goal.returns-then-left-extent
returns-then-left-extent c = λ d below.
    let xs : List Extent = c.args.extents.now in
    let i = c.loop-extent.extent-index in
    let left = c.loop-extent.left in
    let one = here xs i left c.loop-extent-test.true c.if-left-extent.true in
    let far = here xs i (left + d) c.loop-extent-test.true (omega (arith, below, c.if-left-extent.true)) in
    let first : simple_place xs (c.args.offset + 0) ≡ simple_place xs c.args.offset = let same : c.args.offset + 0 ≡ c.args.offset = omega arith in ap (λ (o : ℕ). simple_place xs o) same in
    let from : simple_place (drop i xs) (left + 0) ≡ simple_place (drop i xs) left = let same : left + 0 ≡ left = omega arith in ap (λ (o : ℕ). simple_place (drop i xs) o) same in
    omega (arith, one, far, c.loop-extent.invariant d, c.loop-extent.invariant 0, first, from)

pub loop-extent-preserved : goal.loop-extent-preserved
loop-extent-preserved c = λ d.
    let xs : List Extent = c.args.extents.now in
    let i = c.loop-extent.extent-index in
    let left = c.loop-extent.left in
    let passed = (get_or xs i no_extent).length in
    let less : left - passed + d ≡ left + d - passed = omega (arith, c.if-left-extent.false) in
    ap (λ (o : ℕ). simple_place (drop (i + 1) xs) o) less
    ∙ further xs i (left + d) c.loop-extent-test.true (omega (arith, c.if-left-extent.false))
    ∙ c.loop-extent.invariant d
