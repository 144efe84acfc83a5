use Rattle.std.proofs.Common.{◌∙◌, ◌≡◌, ◌+◌, ◌-◌, ◌/◌, ◌%◌, ◌<◌, ◌≤◌, ℕ, List, [], ap, sym, subst, length, drop, inl, inr, arith, true}
use Rattle.std.proofs.lemmas.Bool.{cases_eq}
use Rattle.std.proofs.lemmas.List.{get_or-drop, get_or-take, length-drop, length-take-le}
use borrow.Rule.Slice.PartMut.{mid_of}
use Rattle.fam_machine.specs.Caches.{cell_at}
use Rattle.fam_machine.specs.OneLine.{IsAsked}
use Rattle.fam_base.specs.Image.{eight}
use Rattle.fam_machine.specs.declared.cell.Cell.TheVariants.{Dirty}
use Rattle.fam_media.specs.Runs.{line_in}
use Rattle.fam_cache.specs.Blocks.{IsBlockOf, cell_in, lines_of}
use Rattle.fam_cache.specs.SentRuns.{IsAskedLine}
use Rattle.fam_cache.proofs.BlockLemmas.{b_whole, read_cell}
use Rattle.fam_cache.proofs.blocks.asked.asked_run.Goals.{then-loop-end-test+else-is_asked_there, else-loop-end-test}
use Rattle.fam_cache.proofs.blocks.asked.asked_run.Goals as goal

mid_length : (from len : ℕ) (xs : List (List ℕ)) → from + len ≤ length xs → length (mid_of from len xs) ≡ len
mid_length from len xs fits = length-take-le len (drop from xs) (omega (arith, fits, length-drop from xs))

mid_at : (from len k : ℕ) (xs : List (List ℕ)) → k < len → line_in (mid_of from len xs) k ≡ line_in xs (from + k)
mid_at from len k xs below = get_or-take len (drop from xs) k [] below ∙ get_or-drop from xs k []

-- the copy of the line
here : (c : goal.After-result-1) → cell_at (lines_of c.args.cache.now) c.args.line ≡ cell_in c.index-block.result.now (c.args.line % 16)
here c = read_cell c.args.cache.now c.requires.kept c.args.at c.args.line c.requires.stands c.index-block.result.now c.index-block.ensures

words_16 : (c : goal.After-result-1) → length c.index-block.result.now.words ≡ 16
words_16 c = (b_whole c.args.cache.now c.requires.kept c.args.at c.args.line c.requires.stands c.index-block.result.now c.index-block.ensures).words

-- at least one was asked for
some : (c : goal.After-result-1) → c.args.line % 16 < c.loop-end.end
some c =
    elim c.loop-end-test.branch [
      | then-loop-end-test+else-is_asked_there w ↦
          elim (cases_eq c.loop-end.end (c.args.line % 16)) [
            | inl e ↦ absurd (w.is_asked_there.ensures.other w.if-is_asked_there.false
                (subst (λ (i : ℕ). IsAsked (cell_in c.index-block.result.now i)) (sym e) (subst IsAsked (here c) c.requires.asked)))
            | inr other ↦ omega (arith, other, c.loop-end.invariant.from_there)
          ]
      | else-loop-end-test w ↦ omega (arith, w.loop-end-test.false, c.loop-end.invariant.from_there)
    ]

pub returns-clause-some : goal.returns-clause-some
returns-clause-some c =
    omega (
      arith,
      some c,
      c.loop-end.invariant.within,
      mid_length (c.args.line % 16) (c.loop-end.end - c.args.line % 16) c.index-block.result.now.words
          (omega (arith, some c, words_16 c, c.loop-end.invariant.within)),
    )

pub returns-clause-within : goal.returns-clause-within
returns-clause-within c =
    omega (
      arith,
      some c,
      c.loop-end.invariant.within,
      mid_length (c.args.line % 16) (c.loop-end.end - c.args.line % 16) c.index-block.result.now.words
          (omega (arith, some c, words_16 c, c.loop-end.invariant.within)),
    )

-- of a line behind it
copy_behind : (c : goal.After-result-1) (k : ℕ) → k < c.loop-end.end - c.args.line % 16
    → IsAskedLine (lines_of c.args.cache.now) c.args.line
    (mid_of (c.args.line % 16) (c.loop-end.end - c.args.line % 16) c.index-block.result.now.words) k
copy_behind c k below =
    let from = c.args.line % 16 in
    let len = c.loop-end.end - from in
    let b = c.index-block.result.now in
    let held = c.loop-end.invariant.asked (from + k) (omega arith) (omega (arith, below)) in
    let same_block : (c.args.line + k) / 16 ≡ c.args.line / 16 = omega (arith, below, c.loop-end.invariant.within) in
    let place : (c.args.line + k) % 16 ≡ from + k = omega (arith, below, c.loop-end.invariant.within) in
    let stands : IsBlockOf c.args.cache.now.blocks.items c.args.at ((c.args.line + k) / 16) = subst (IsBlockOf c.args.cache.now.blocks.items c.args.at) (sym same_block) c.requires.stands in
    let copy = read_cell c.args.cache.now c.requires.kept c.args.at (c.args.line + k) stands b c.index-block.ensures ∙ ap (cell_in b) place in
    let words = mid_at from len k b.words below in
    record {
      is = copy ∙ held.is ∙ ap (λ (ws : List ℕ). Dirty true (eight ws)) (sym words);
      whole = subst (λ (ws : List ℕ). eight ws ≡ ws) (sym words) held.whole;
    }

pub returns-clause-asked : goal.returns-clause-asked
returns-clause-asked c = λ k below.
    copy_behind c k (omega (
      arith,
      below,
      mid_length (c.args.line % 16) (c.loop-end.end - c.args.line % 16) c.index-block.result.now.words
          (omega (arith, some c, words_16 c, c.loop-end.invariant.within)),
    ))
