use Rattle.std.proofs.Common.{◌∙◌, ◌≡◌, ◌≤◌, ◌/◌, ◌<◌, ap, sym, arith, ℕ, List, length}
use Rattle.std.proofs.lemmas.List.{get_or_default}
use Rattle.fam_cache.specs.Blocks.{area_at, no_area}
use Rattle.fam_cache.proofs.BlockLemmas.{none_between}
use Rattle.fam_cache.proofs.blocks.next_number.Goals as goal

pub returns-then-at-len-clause-none : goal.returns-then-at-len-clause-none
returns-then-at-len-clause-none c = λ is n from.
    let b = rw c.deref.ensures.value at c.bisect-at.ensures in
    none_between c.args.cache.now c.requires n c.bisect-at.result (λ j below. omega (arith, b.before j below, from)) (λ within. absurd (omega (arith, within, c.if-at-len.true, c.len.ensures)))

-- the area is behind that of the number
behind : (c : goal.After-saturating_mul) → (c.args.number / 64 < c.index.result.now.0) × (area_at c.args.cache.now.areas.items c.bisect-at.result ≡ c.index.result.now.0)
behind c =
    let es = c.args.cache.now.areas.items in
    let within : c.bisect-at.result < length es = omega (arith, c.if-at-len.false, c.len.ensures) in
    let here : area_at es c.bisect-at.result ≡ c.index.result.now.0 = sym (ap (λ (e : ℕ × List ℕ). e.0) (c.index.ensures ∙ get_or_default es c.bisect-at.result c.index.result.now no_area within)) in
    let b = rw c.deref.ensures.value at c.bisect-at.ensures in
    let least : c.args.number / 64 ≤ area_at es c.bisect-at.result = b.from c.bisect-at.result (omega arith) within in
    (omega (arith, here, least, c.if-area-number.false), here)

pub returns-else-area-number-clause-from_there : goal.returns-else-area-number-clause-from_there
returns-else-area-number-clause-from_there c = omega (arith, (behind c).0, c.saturating_mul.ensures, c.ranges.number.fits)

pub returns-else-area-number-clause-skipped : goal.returns-else-area-number-clause-skipped
returns-else-area-number-clause-skipped c = λ n from below.
    let b = rw c.deref.ensures.value at c.bisect-at.ensures in
    let is = behind c in
    none_between c.args.cache.now c.requires n c.bisect-at.result (λ j under. omega (arith, b.before j under, from)) (λ within. omega (arith, is.1, below, c.saturating_mul.ensures))
