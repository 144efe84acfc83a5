use Rattle.std.proofs.Common.{◌∙◌, ◌<◌, ◌/◌, ◌%◌, ℕ, List, Bool, cond, length, ap, sym, subst, arith, refl, replicate, set}
use Rattle.std.specs.List.{insert}
use Rattle.std.proofs.lemmas.List.{get_or_default}
use Rattle.fam_cache.specs.Blocks.{Areas, IsEnlisted, area_at, no_area}
use Rattle.fam_cache.proofs.BlockLemmas.{enlisted_new, enlisted_there}
use Rattle.fam_cache.proofs.blocks.enlist.Goals as goal
use Rattle.fam_cache.proofs.blocks.enlist.Goals.{then-at-len+else-index-number, else-at-len}

pub returns-clause-put : goal.returns-clause-put
returns-clause-put c =
    let es = c.args.cache.now.areas.items in
    let b = rw c.deref.ensures.value at c.bisect-at.ensures in
    let after : c.bisect-at.result < length es → c.args.number / 64 < area_at es c.bisect-at.result = elim c.if-at-len.branch [
      | then-at-len+else-index-number w ↦ λ within.
          let here = ap (λ (e : ℕ × List ℕ). e.0) (w.index.ensures ∙ get_or_default es c.bisect-at.result w.index.result.now no_area within) in
          omega (arith, here, w.if-index-number.false, b.from c.bisect-at.result (omega arith) within)
      | else-at-len w ↦ λ within. absurd (omega (arith, within, w.if-at-len.false, c.len.ensures))
    ] in
    let items = c.insert.ensures.items
    ∙ ap (λ (b : Bool). cond b (insert es c.bisect-at.result (c.args.number / 64, set (replicate 64 0) (c.args.number % 64) c.args.place)) es)
    (c.insert.ensures.succeeds c.requires.room) in
    subst (λ (new : Areas). IsEnlisted es new c.args.number c.args.place) (sym items)
    (enlisted_new es c.args.number c.args.place c.requires.kept.sorted c.requires.kept.wide c.bisect-at.result (replicate 64 0) b.within b.before after refl)

pub returns-then-index-number-clause-put : goal.returns-then-index-number-clause-put
returns-then-index-number-clause-put c =
    let es = c.args.cache.now.areas.items in
    let within : c.bisect-at.result < length es = omega (arith, c.if-at-len.true, c.len.ensures) in
    let here = ap (λ (e : ℕ × List ℕ). e.0) (c.index.ensures ∙ get_or_default es c.bisect-at.result c.index.result.now no_area within) in
    let there = ap (λ (e : ℕ × List ℕ). e.0) (c.index_mut.ensures.value ∙ get_or_default es c.bisect-at.result c.index_mut.result.now no_area within) in
    let b = rw c.deref.ensures.value at c.bisect-at.ensures in
    enlisted_there es c.args.number c.args.place c.requires.kept.sorted c.requires.kept.wide c.bisect-at.result c.index_mut.result.now within b.before
    c.index_mut.ensures.value (there ∙ sym here ∙ c.if-index-number.true)
