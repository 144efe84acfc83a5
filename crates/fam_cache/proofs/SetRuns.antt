-- Lines that stand one behind another, whose words and marks are set in their block at once.
use Rattle.std.proofs.Common.{◌≡◌, ◌≢◌, ℕ, zero, suc, ◌+◌, ◌-◌, ◌/◌, ◌%◌, ◌<◌, ◌≤◌, ◌⊎◌, inl, inr, List, ◌∷◌, ◌++◌, [], length, get_or, set, take, drop, replicate, refl, sym, ap, ap₂, ◌∙◌, arith}
use Rattle.std.proofs.lemmas.Bool.{cases_eq, cases_lt}
use Rattle.std.proofs.lemmas.List.{get_or_append_left, get_or-append_right, get_or-take, get_or-drop, get_or-replicate, length-replicate, length-take-le}
use borrow.Rule.Slice.PartMut.{put_mid}
use Rattle.fam_base.specs.Image.{eight}
use Rattle.fam_machine.specs.declared.cell.Cell.TheVariants.{Clean}
use Rattle.fam_machine.specs.Caches.{Cache, cell_at, with_cell}
use Rattle.fam_machine.proofs.CacheLemmas.{cell_at-with_cell_same, cell_at-with_cell_other, same_cells}
use Rattle.fam_media.specs.Runs.{line_in}
use Rattle.fam_cache.specs.declared.blocks.Block.{Block}
use Rattle.fam_cache.specs.declared.blocks.Blocks.{Blocks}
use Rattle.fam_cache.specs.declared.blocks.Mark.{Mark}
use Rattle.fam_cache.specs.declared.blocks.Mark.TheVariants.{Empty, Fresh}
use Rattle.fam_cache.specs.Blocks.{IsBlockOf, IsKept, IsWhole, cache_of, cell_in, lines_of, marked, number_at}
use Rattle.fam_cache.specs.BroughtRuns.{brought_run}
use Rattle.fam_cache.proofs.BlockLemmas.{b_is, b_number, b_whole, cell_read, first_here, first_of, first_other, set_same}

-- A part of a list is put anew.
module _ {X : Type 0} (a n m : ℕ) (xs ys : List X) (d : X) (within : a + m ≤ length xs) (size : n ≡ m) (count : length ys ≡ m) where
  put_below : (k : ℕ) → k < a → get_or (put_mid a n xs ys) k d ≡ get_or xs k d
  put_below k below =
      get_or_append_left (take a xs) (ys ++ drop n (drop a xs)) d k (omega (arith, length-take-le a xs (omega arith)))
      ∙ get_or-take a xs k d below

  put_at : (j : ℕ) → j < m → get_or (put_mid a n xs ys) (a + j) d ≡ get_or ys j d
  put_at j below =
      let place : a + j - a ≡ j = omega arith in
      get_or-append_right (take a xs) (ys ++ drop n (drop a xs)) a (a + j) d (length-take-le a xs (omega arith)) (omega arith)
      ∙ ap (λ (k : ℕ). get_or (ys ++ drop n (drop a xs)) k d) place
      ∙ get_or_append_left ys (drop n (drop a xs)) d j (omega arith)

  put_behind : (k : ℕ) → a + m ≤ k → get_or (put_mid a n xs ys) k d ≡ get_or xs k d
  put_behind k behind =
      let place : a + (n + (k - a - m)) ≡ k = omega arith in
      get_or-append_right (take a xs) (ys ++ drop n (drop a xs)) a k d (length-take-le a xs (omega arith)) (omega arith)
      ∙ get_or-append_right ys (drop n (drop a xs)) m (k - a) d count (omega arith)
      ∙ get_or-drop n (drop a xs) (k - a - m) d ∙ get_or-drop a xs (n + (k - a - m)) d ∙ ap (λ (l : ℕ). get_or xs l d) place

  put_other : (k : ℕ) → (k < a) ⊎ (a + m ≤ k) → get_or (put_mid a n xs ys) k d ≡ get_or xs k d
  put_other k outside = elim outside [ inl below ↦ put_below k below | inr behind ↦ put_behind k behind ]

-- The lines that are brought, and the others.
brought_here : (first : ℕ) (lines : List (List ℕ)) (n : ℕ) (cache : Cache) (k : ℕ) → k < n → cell_at (brought_run first lines n cache) (first + k) ≡ Clean (eight (line_in lines k))
brought_here first lines zero cache k below = absurd (omega arith)
brought_here first lines (suc n) cache k below =
    elim (cases_eq k n) [
      | inl e ↦ ap (λ (i : ℕ). cell_at (brought_run first lines (suc n) cache) (first + i)) e
          ∙ cell_at-with_cell_same (first + n) (Clean (eight (line_in lines n))) (brought_run first lines n cache)
          ∙ ap (λ (i : ℕ). Clean (eight (line_in lines i))) (sym e)
      | inr other ↦ cell_at-with_cell_other (first + n) (Clean (eight (line_in lines n))) (brought_run first lines n cache) (first + k) (λ e. other (omega arith))
          ∙ brought_here first lines n cache k (omega arith)
    ]

-- a line before or behind them
pub brought_other : (first : ℕ) (lines : List (List ℕ)) (n : ℕ) (cache : Cache) (q : ℕ) → (q < first) ⊎ (first + n ≤ q) → cell_at (brought_run first lines n cache) q ≡ cell_at cache q
brought_other first lines zero cache q outside = refl
brought_other first lines (suc n) cache q outside =
    let apart : (q < first) ⊎ (first + n + 1 ≤ q) = elim outside [ inl below ↦ inl below | inr behind ↦ inr (omega arith) ] in
    let other : q ≢ first + n = λ e. elim apart [ inl below ↦ absurd (omega arith) | inr behind ↦ absurd (omega arith) ] in
    cell_at-with_cell_other (first + n) (Clean (eight (line_in lines n))) (brought_run first lines n cache) q other
    ∙ brought_other first lines n cache q (elim apart [ inl below ↦ inl below | inr behind ↦ inr (omega arith) ])

-- no more of the lines is looked at
pub brought_take : (first : ℕ) (lines : List (List ℕ)) (m n : ℕ) (cache : Cache) → n ≤ m → brought_run first (take m lines) n cache ≡ brought_run first lines n cache
brought_take first lines m zero cache within = refl
brought_take first lines m (suc n) cache within =
    ap₂ (λ (words : List ℕ) (c : Cache). with_cell (first + n) (Clean (eight words)) c) (get_or-take m lines n [] (omega arith)) (brought_take first lines m n cache (omega arith))

-- a line of another block than the one that is set
set_apart : (new : Block) (bs : List Block) (at q : ℕ) → at < length bs → number_at bs at ≢ q / 16 → new.number ≢ q / 16 → cell_at (cache_of (set bs at new)) q ≡ cell_at (cache_of bs) q
set_apart new [] at q within was is = absurd (omega arith)
set_apart new (b ∷ bs) zero q within was is = first_other new bs q is ∙ sym (first_other b bs q was)
set_apart new (b ∷ bs) (suc at) q within was is =
    elim (cases_eq b.number (q / 16)) [
      | inl e ↦ first_here b (set bs at new) q e ∙ sym (first_here b bs q e)
      | inr ne ↦ first_other b (set bs at new) q ne ∙ set_apart new bs at q (omega arith) was is ∙ sym (first_other b bs q ne)
    ]

module _ (c : Blocks) (kept : IsKept c) (at first : ℕ) (stands : IsBlockOf c.blocks.items at (first / 16)) (b : Block) (read : b ≡ get_or c.blocks.items at b)
    (n : ℕ) (marks : List Mark) (copied lines : List (List ℕ)) (size : n ≡ length lines) (within : first % 16 + length lines ≤ 16)
    (fresh : marks ≡ replicate (length lines) Fresh) (same : copied ≡ lines) where
  -- the block behind it
  abbrev new : Block
  new = record { number = b.number; marks = put_mid (first % 16) n b.marks marks; words = put_mid (first % 16) n b.words copied }

  many : length marks ≡ length lines
  many = ap length fresh ∙ length-replicate (length lines) Fresh

  whole : IsWhole b
  whole = b_whole c kept at first stands b read

  fresh_at : (k : ℕ) → k < length lines → get_or marks k Empty ≡ Fresh
  fresh_at k below = ap (λ (l : List Mark). get_or l k Empty) fresh ∙ get_or-replicate (length lines) k Fresh Empty below

  cell_here : (k : ℕ) → k < length lines → cell_in new (first % 16 + k) ≡ Clean (eight (line_in lines k))
  unfolding cell_in
  cell_here k below =
      ap₂ marked
      (put_at (first % 16) n (length lines) b.marks marks Empty (omega (arith, within, whole.marks)) size many k below ∙ fresh_at k below)
      (put_at (first % 16) n (length lines) b.words copied [] (omega (arith, within, whole.words)) size (ap length same) k below ∙ ap (λ (l : List (List ℕ)). line_in l k) same)

  cell_other : (i : ℕ) → (i < first % 16) ⊎ (first % 16 + length lines ≤ i) → cell_in new i ≡ cell_in b i
  unfolding cell_in
  cell_other i outside =
      ap₂ marked
      (put_other (first % 16) n (length lines) b.marks marks Empty (omega (arith, within, whole.marks)) size many i outside)
      (put_other (first % 16) n (length lines) b.words copied [] (omega (arith, within, whole.words)) size (ap length same) i outside)

  is_new : new.number ≡ first / 16
  is_new = b_number c kept at first stands b read ∙ stands.is

  -- a line of the block, before and behind
  in_block : (q : ℕ) → first / 16 ≡ q / 16 → cell_at (cache_of (set c.blocks.items at new)) q ≡ cell_in new (q % 16)
  in_block q e = set_same new q (is_new ∙ e) c.blocks.items at stands.within (λ j below same. first_of c kept at (first / 16) stands j below (same ∙ sym e))

  was_in_block : (q : ℕ) → first / 16 ≡ q / 16 → cell_in b (q % 16) ≡ cell_at (lines_of c) q
  was_in_block q e =
      let there : IsBlockOf c.blocks.items at (q / 16) = record { within = stands.within; is = stands.is ∙ e } in
      ap (λ (x : Block). cell_in x (q % 16)) (b_is c kept at first stands b read) ∙ sym (cell_read c kept at q there)

  outside : (q : ℕ) → first / 16 ≡ q / 16 → (q < first) ⊎ (first + length lines ≤ q) → cell_at (cache_of (set c.blocks.items at new)) q
      ≡ cell_at (brought_run first lines (length lines) (lines_of c)) q
  outside q e apart =
      in_block q e
      ∙ cell_other (q % 16) (elim apart [ inl below ↦ inl (omega arith) | inr behind ↦ inr (omega (arith, within)) ])
      ∙ was_in_block q e ∙ sym (brought_other first lines (length lines) (lines_of c) q apart)

  inside : (q : ℕ) → first / 16 ≡ q / 16 → first ≤ q → q < first + length lines → cell_at (cache_of (set c.blocks.items at new)) q ≡ cell_at (brought_run first lines (length lines) (lines_of c)) q
  inside q e low high =
      let place : q % 16 ≡ first % 16 + (q - first) = omega (arith, within) in
      let back : first + (q - first) ≡ q = omega arith in
      in_block q e ∙ ap (cell_in new) place ∙ cell_here (q - first) (omega arith)
      ∙ sym (brought_here first lines (length lines) (lines_of c) (q - first) (omega arith))
      ∙ ap (cell_at (brought_run first lines (length lines) (lines_of c))) back

  elsewhere : (q : ℕ) → first / 16 ≢ q / 16 → cell_at (cache_of (set c.blocks.items at new)) q ≡ cell_at (brought_run first lines (length lines) (lines_of c)) q
  elsewhere q other =
      set_apart new c.blocks.items at q stands.within (λ e. other (sym stands.is ∙ e)) (λ e. other (sym is_new ∙ e))
      ∙ sym (brought_other first lines (length lines) (lines_of c) q
      (elim (cases_lt q first) [ inl below ↦ inl below | inr from ↦ elim (cases_lt q (first + length lines)) [ inl before ↦ absurd (other (omega (arith, within))) | inr behind ↦ inr behind ] ]))

  pub run_cache : cache_of (set c.blocks.items at new) ≡ brought_run first lines (length lines) (lines_of c)
  run_cache =
      same_cells _ _
      (λ q. elim (cases_eq (first / 16) (q / 16)) [
        | inl e ↦ elim (cases_lt q first) [
          | inl below ↦ outside q e (inl below)
          | inr from ↦ elim (cases_lt q (first + length lines)) [
            | inl before ↦ inside q e from before
            | inr behind ↦ outside q e (inr behind)
          ]
        ]
        | inr other ↦ elsewhere q other
      ])
