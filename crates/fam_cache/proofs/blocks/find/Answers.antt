use Rattle.std.proofs.Common.{◌∙◌, ap, sym, arith, ℕ, ◌<◌, List, length}
use Rattle.std.proofs.lemmas.List.{get_or_default}
use Rattle.fam_cache.specs.Blocks.{no_area}
use Rattle.fam_cache.proofs.BlockLemmas.{none_between, none_elsewhere}
use Rattle.fam_cache.proofs.blocks.find.Goals as goal

pub returns-then-at-len : goal.returns-then-at-len
returns-then-at-len c =
    none_between c.args.cache.now c.requires c.args.number c.bisect-at.result (rw c.deref.ensures.value at c.bisect-at.ensures.before)
    (λ within. absurd (omega (arith, within, c.if-at-len.true, c.len.ensures)))

pub returns-then-index-number : goal.returns-then-index-number
returns-then-index-number c =
    let es = c.args.cache.now.areas.items in
    let here = ap (λ (e : ℕ × List ℕ). e.0) (c.index.ensures ∙ get_or_default es c.bisect-at.result c.index.result.now no_area (omega (arith, c.if-at-len.false, c.len.ensures))) in
    none_between c.args.cache.now c.requires c.args.number c.bisect-at.result (rw c.deref.ensures.value at c.bisect-at.ensures.before)
    (λ within. omega (arith, here, c.if-index-number.true, (rw c.deref.ensures.value at c.bisect-at.ensures.from) c.bisect-at.result (omega arith) within))

pub returns-then-stands : goal.returns-then-stands
returns-then-stands c = rw (← c.deref-2.ensures.value) (c.stands.ensures.yes c.if-stands.true)

pub returns-else-stands : goal.returns-else-stands
returns-else-stands c =
    let es = c.args.cache.now.areas.items in
    let inside : c.bisect-at.result < length es = omega (arith, c.if-at-len.false, c.len.ensures) in
    let here = ap (λ (e : ℕ × List ℕ). e.0) (c.index.ensures ∙ get_or_default es c.bisect-at.result c.index.result.now no_area inside) in
    let there = ap (λ (e : ℕ × List ℕ). e.0) (c.index-2.ensures ∙ get_or_default es c.bisect-at.result c.index-2.result.now no_area inside) in
    none_elsewhere c.args.cache.now c.requires c.args.number c.bisect-at.result c.index-2.result.now (omega (arith, c.if-at-len.false, c.len.ensures))
    (rw c.deref.ensures.value at c.bisect-at.ensures.before) c.index-2.ensures (there ∙ sym here ∙ c.if-index-number.false)
    (rw c.deref-2.ensures.value at (c.stands.ensures.no c.if-stands.false))
