-- The cache that blocks stand for, line by line.
use Rattle.std.proofs.Common.{◌≡◌, ◌≢◌, ℕ, zero, suc, ◌+◌, ◌-◌, ◌*◌, ◌/◌, ◌%◌, ◌<◌, ◌≤◌, true, false, inl, inr, List, [], ◌∷◌, ◌++◌, length, replicate, set, get_or, vec_len, vec_capacity, Some, None, refl, sym, ap, ap₂, subst, ◌∙◌, arith}
use Rattle.std.proofs.lemmas.Bool.{cases_eq, false≢true}
use Rattle.fam_machine.specs.OneLine.{is_held, words_of}
use Rattle.std.proofs.lemmas.List.{get_or-set_same, get_or-set_other, get_or_default, get_or_append_left, get_or_at, length-append, length-set}
use Rattle.std.specs.Vec.{with_item}
use Rattle.std.specs.FinMap as map
use Rattle.fam_base.specs.Image.{eight}
use Rattle.fam_machine.specs.declared.cell.Cell.{Cell}
use Rattle.fam_machine.specs.declared.cell.Cell.TheVariants.{Absent, Clean, Dirty}
use Rattle.fam_machine.specs.Caches.{Cache, cell_at, with_cell}
use Rattle.fam_machine.proofs.CacheLemmas.{cell_at-empty, cell_at-with_cell_same, cell_at-with_cell_other, same_cells, with_cell_own}
use Rattle.fam_cache.specs.declared.blocks.Block.{Block}
use Rattle.fam_cache.specs.declared.blocks.Blocks.{Blocks}
use Rattle.fam_cache.specs.declared.blocks.Mark.{Mark}
use Rattle.fam_cache.specs.declared.blocks.Mark.TheVariants.{Empty, Fresh, Stored, Asked}
use Rattle.std.specs.Ordering.{nat_cmp}
use Rattle.std.specs.FinMap.{find, is_sorted, put}
use Rattle.std.specs.List.{insert}
use Rattle.fam_machine.proofs.WideLines.{eight_whole}
use Rattle.fam_cache.proofs.InOrder.{find_between, find_other, find_present, find_same, place_found, place_lacked, place_other, put_absent, put_present, sorted_put}
use Rattle.fam_cache.specs.Blocks.{Areas, Before, HasNone, IsEnlisted, area_at, no_area, IsBlockOf, IsKept, IsWhole, block_at, cache_of, cell_in, lines_of, marked, most_blocks, no_block, number_at, place_in, with_lines, words_there}

pub lines_other : (b : Block) (n : ℕ) (cache : Cache) (q : ℕ) → ((i : ℕ) → i < n → q ≢ 16 * b.number + i) → cell_at (with_lines b n cache) q ≡ cell_at cache q
unfolding with_lines
lines_other b zero cache q other = refl
lines_other b (suc n) cache q other =
    cell_at-with_cell_other (16 * b.number + n) (cell_in b n) (with_lines b n cache) q (other n (omega arith)) ∙ lines_other b n cache q (λ i below. other i (omega arith))

lines_here : (b : Block) (n : ℕ) (cache : Cache) (i : ℕ) → i < n → cell_at (with_lines b n cache) (16 * b.number + i) ≡ cell_in b i
unfolding with_lines
lines_here b zero cache i below = absurd (omega arith)
lines_here b (suc n) cache i below =
    elim (cases_eq i n) [
      | inl e ↦ ap (λ (k : ℕ). cell_at (with_lines b (suc n) cache) (16 * b.number + k)) e ∙ cell_at-with_cell_same (16 * b.number + n) (cell_in b n) (with_lines b n cache) ∙ sym (ap (cell_in b) e)
      | inr other ↦ cell_at-with_cell_other (16 * b.number + n) (cell_in b n) (with_lines b n cache) (16 * b.number + i) (λ e. other (omega arith)) ∙ lines_here b n cache i (omega arith)
    ]

-- a line of the first block, and one of the others
pub first_here : (b : Block) (bs : List Block) (q : ℕ) → b.number ≡ q / 16 → cell_at (cache_of (b ∷ bs)) q ≡ cell_in b (q % 16)
unfolding cache_of
first_here b bs q is =
    let whole : q ≡ 16 * b.number + q % 16 = omega arith in
    ap (cell_at (with_lines b 16 (cache_of bs))) whole ∙ lines_here b 16 (cache_of bs) (q % 16) (omega arith)

pub first_other : (b : Block) (bs : List Block) (q : ℕ) → b.number ≢ q / 16 → cell_at (cache_of (b ∷ bs)) q ≡ cell_at (cache_of bs) q
unfolding cache_of
first_other b bs q other = lines_other b 16 (cache_of bs) q (λ i below e. other (omega arith))

none_at_all : (q : ℕ) → cell_at (cache_of []) q ≡ Absent
unfolding cache_of
none_at_all q = cell_at-empty q

-- a line whose block isn't there is absent
pub cell_none : (bs : List Block) (q : ℕ) → HasNone bs (q / 16) → cell_at (cache_of bs) q ≡ Absent
cell_none [] q none = none_at_all q
cell_none (b ∷ bs) q none = first_other b bs q (none 0 (omega arith)) ∙ cell_none bs q (λ j below. none (suc j) (omega arith))

-- a line in its block
cell_there : (bs : List Block) (at q : ℕ) → at < length bs → number_at bs at ≡ q / 16 → ((j : ℕ) → j < at → number_at bs j ≢ q / 16) → cell_at (cache_of bs) q ≡ cell_in (block_at bs at) (q % 16)
cell_there [] at q within is before = absurd (omega arith)
cell_there (b ∷ bs) zero q within is before = first_here b bs q is
cell_there (b ∷ bs) (suc at) q within is before = first_other b bs q (before 0 (omega arith)) ∙ cell_there bs at q (omega arith) is (λ j below. before (suc j) (omega arith))

-- A block is set.
module _ (new : Block) (l : ℕ) (is_new : new.number ≡ l / 16) where
  pub set_same : (bs : List Block) (at : ℕ) → at < length bs → ((j : ℕ) → j < at → number_at bs j ≢ l / 16) → cell_at (cache_of (set bs at new)) l ≡ cell_in new (l % 16)
  set_same [] at within before = absurd (omega arith)
  set_same (b ∷ bs) zero within before = first_here new bs l is_new
  set_same (b ∷ bs) (suc at) within before = first_other b (set bs at new) l (before 0 (omega arith)) ∙ set_same bs at (omega arith) (λ j below. before (suc j) (omega arith))

  set_other : (bs : List Block) (at q : ℕ) → at < length bs → number_at bs at ≡ l / 16
      → ((i : ℕ) → i ≢ l % 16 → cell_in new i ≡ cell_in (block_at bs at) i) → q ≢ l → cell_at (cache_of (set bs at new)) q ≡ cell_at (cache_of bs) q
  set_other [] at q within is others other = absurd (omega arith)
  set_other (b ∷ bs) zero q within is others other =
      elim (cases_eq (l / 16) (q / 16)) [
        | inl e ↦ first_here new bs q (is_new ∙ e) ∙ others (q % 16) (λ r. other (omega arith)) ∙ sym (first_here b bs q (is ∙ e))
        | inr ne ↦ first_other new bs q (λ e. ne (sym is_new ∙ e)) ∙ sym (first_other b bs q (λ e. ne (sym is ∙ e)))
      ]
  set_other (b ∷ bs) (suc at) q within is others other =
      elim (cases_eq b.number (q / 16)) [
        | inl e ↦ first_here b (set bs at new) q e ∙ sym (first_here b bs q e)
        | inr ne ↦ first_other b (set bs at new) q ne ∙ set_other bs at q (omega arith) is others other ∙ sym (first_other b bs q ne)
      ]

same_some : (i j : ℕ) → Some i ≡ Some j → i ≡ j
same_some i j e = cc

-- Blocks that are kept.
module _ (c : Blocks) (kept : IsKept c) where
  -- no other block has the number
  pub alone : (i j : ℕ) → i < length c.blocks.items → j < length c.blocks.items → number_at c.blocks.items i ≡ number_at c.blocks.items j → i ≡ j
  alone i j at_i at_j e = same_some i j (sym (kept.indexed i at_i) ∙ ap (place_in c.areas.items) e ∙ kept.indexed j at_j)

  pub first_of : (at n : ℕ) → IsBlockOf c.blocks.items at n → (j : ℕ) → j < at → number_at c.blocks.items j ≢ n
  first_of at n stands j below e =
      let same : j ≡ at = alone j at (omega (arith, stands.within)) stands.within (e ∙ sym stands.is) in
      omega arith

  -- the copy of a line is that in its block
  pub cell_read : (at q : ℕ) → IsBlockOf c.blocks.items at (q / 16) → cell_at (lines_of c) q ≡ cell_in (block_at c.blocks.items at) (q % 16)
  cell_read at q stands = cell_there c.blocks.items at q stands.within stands.is (first_of at (q / 16) stands)

  -- a block is set, but for one line as it was
  pub block_set : (at l : ℕ) (new : Block) (cell : Cell) → IsBlockOf c.blocks.items at (l / 16) → new.number ≡ number_at c.blocks.items at → cell_in new (l % 16) ≡ cell →
      ((i : ℕ) → i ≢ l % 16 → cell_in new i ≡ cell_in (block_at c.blocks.items at) i) → cache_of (set c.blocks.items at new) ≡ with_cell l cell (lines_of c)
  block_set at l new cell stands number here others =
      let is_new : new.number ≡ l / 16 = number ∙ stands.is in
      same_cells _ _
      (λ q. elim (cases_eq q l) [
        | inl e ↦ ap (cell_at (cache_of (set c.blocks.items at new))) e ∙ set_same new l is_new c.blocks.items at stands.within
            (first_of at (l / 16) stands) ∙ here ∙ sym (cell_at-with_cell_same l cell (lines_of c))
            ∙ sym (ap (cell_at (with_cell l cell (lines_of c))) e)
        | inr other ↦ set_other new l is_new c.blocks.items at q stands.within stands.is others other ∙ sym (cell_at-with_cell_other l cell (lines_of c) q other)
      ])

-- One line of a block is set.
module _ (b : Block) (o : ℕ) (below : o < 16) (whole : IsWhole b) (mark : Mark) (words : List ℕ) where
  pub line_set : cell_in (record { number = b.number; marks = set b.marks o mark; words = set b.words o words }) o ≡ marked mark words
  unfolding cell_in
  line_set = ap₂ marked (get_or-set_same b.marks o mark Empty (omega (arith, whole.marks))) (get_or-set_same b.words o words [] (omega (arith, whole.words)))

  pub lines_kept : (i : ℕ) → i ≢ o → cell_in (record { number = b.number; marks = set b.marks o mark; words = set b.words o words }) i ≡ cell_in b i
  unfolding cell_in
  lines_kept i other = ap₂ marked (get_or-set_other b.marks o i mark Empty other) (get_or-set_other b.words o i words [] other)

  pub mark_set : cell_in (record { number = b.number; marks = set b.marks o mark; words = b.words }) o ≡ marked mark (get_or b.words o [])
  unfolding cell_in
  mark_set = ap (λ (m : Mark). marked m (get_or b.words o [])) (get_or-set_same b.marks o mark Empty (omega (arith, whole.marks)))

  pub marks_kept : (i : ℕ) → i ≢ o → cell_in (record { number = b.number; marks = set b.marks o mark; words = b.words }) i ≡ cell_in b i
  unfolding cell_in
  marks_kept i other = ap (λ (m : Mark). marked m (get_or b.words i [])) (get_or-set_other b.marks o i mark Empty other)

-- A block that holds nothing is put behind the others.

alone_empty : (b : Block) → ((i : ℕ) → cell_in b i ≡ Absent) → cache_of (b ∷ []) ≡ cache_of []
alone_empty b none =
    same_cells _ _
    (λ q. elim (cases_eq b.number (q / 16)) [
      | inl e ↦ first_here b [] q e ∙ none (q % 16) ∙ sym (none_at_all q)
      | inr other ↦ first_other b [] q other
    ])

pub empty_behind : (bs : List Block) (b : Block) → ((i : ℕ) → cell_in b i ≡ Absent) → cache_of (bs ++ b ∷ []) ≡ cache_of bs
unfolding cache_of
empty_behind [] b none = alone_empty b none
empty_behind (x ∷ bs) b none = ap (with_lines x 16) (empty_behind bs b none)

-- What the code reads and writes.

set_number : (bs : List Block) (at : ℕ) (new : Block) → at < length bs → new.number ≡ number_at bs at → (j : ℕ) → number_at (set bs at new) j ≡ number_at bs j
set_number bs at new within is j =
    elim (cases_eq j at) [
      | inl e ↦ ap (number_at (set bs at new)) e ∙ ap (λ (b : Block). b.number) (get_or-set_same bs at new no_block within) ∙ is ∙ sym (ap (number_at bs) e)
      | inr other ↦ ap (λ (b : Block). b.number) (get_or-set_other bs at j new no_block other)
    ]

set_whole : (bs : List Block) (at : ℕ) (new : Block) → at < length bs → IsWhole new → (j : ℕ) → IsWhole (block_at bs j) → IsWhole (block_at (set bs at new) j)
set_whole bs at new within whole j was =
    elim (cases_eq j at) [
      | inl e ↦ subst IsWhole (sym (ap (block_at (set bs at new)) e ∙ get_or-set_same bs at new no_block within)) whole
      | inr other ↦ subst IsWhole (sym (get_or-set_other bs at j new no_block other)) was
    ]

pub stands_set : (bs : List Block) (at n : ℕ) (new : Block) → new.number ≡ n → IsBlockOf bs at n → IsBlockOf (set bs at new) at n
stands_set bs at n new is stands = record {
  within = omega (arith, stands.within, length-set bs at new);
  is = ap (λ (b : Block). b.number) (get_or-set_same bs at new no_block stands.within) ∙ is;
}

module _ (c : Blocks) (kept : IsKept c) (at l : ℕ) (stands : IsBlockOf c.blocks.items at (l / 16)) (b : Block) (read : b ≡ get_or c.blocks.items at b) where
  pub b_is : b ≡ block_at c.blocks.items at
  b_is = read ∙ get_or_default c.blocks.items at b no_block stands.within

  pub b_whole : IsWhole b
  b_whole = subst IsWhole (sym b_is) (kept.whole at stands.within)

  -- the copy of the line
  pub read_cell : cell_at (lines_of c) l ≡ cell_in b (l % 16)
  read_cell = cell_read c kept at l stands ∙ sym (ap (λ (x : Block). cell_in x (l % 16)) b_is)

  kept_new : (new : Block) → new.number ≡ b.number → IsWhole new → IsKept (record { blocks = with_item c.blocks at new; areas = c.areas; room = c.room; greatest = c.greatest })
  kept_new new number whole =
      let is : new.number ≡ number_at c.blocks.items at = number ∙ ap (λ (x : Block). x.number) b_is in
      record {
        sorted = kept.sorted;
        indexed = λ j below. ap (place_in c.areas.items) (set_number c.blocks.items at new stands.within is j) ∙ kept.indexed j (omega (arith, below, length-set c.blocks.items at new));
        whole = λ j below. set_whole c.blocks.items at new stands.within whole j (kept.whole j (omega (arith, below, length-set c.blocks.items at new)));
        wide = kept.wide;
        blocks = kept.blocks;
        areas = kept.areas;
        few = kept.few;
        greatest = λ j below. omega (arith, set_number c.blocks.items at new stands.within is j, kept.greatest j (omega (arith, below, length-set c.blocks.items at new)));
      }

  pub b_number : b.number ≡ number_at c.blocks.items at
  b_number = ap (λ (x : Block). x.number) b_is

  module _ (mark : Mark) (words : List ℕ) where
    pub line_cache : cache_of (set c.blocks.items at
        (record { number = b.number; marks = set b.marks (l % 16) mark; words = set b.words (l % 16) words })) ≡ with_cell l (marked mark words)
        (lines_of c)
    line_cache =
        block_set c kept at l (record { number = b.number; marks = set b.marks (l % 16) mark; words = set b.words (l % 16) words })
        (marked mark words) stands b_number (line_set b (l % 16) (omega arith) b_whole mark words)
        (λ i other. lines_kept b (l % 16) (omega arith) b_whole mark words i other ∙ ap (λ (x : Block). cell_in x i) b_is)

    pub line_keeps : IsKept (record {
      blocks =
          with_item c.blocks at (record { number = b.number; marks = set b.marks (l % 16) mark; words = set b.words (l % 16) words });
      areas = c.areas;
      room = c.room;
      greatest = c.greatest;
    })
    line_keeps =
        kept_new (record { number = b.number; marks = set b.marks (l % 16) mark; words = set b.words (l % 16) words }) refl
        (record { marks = length-set b.marks (l % 16) mark ∙ b_whole.marks; words = length-set b.words (l % 16) words ∙ b_whole.words })

  module _ (mark : Mark) where
    pub mark_cache : cache_of (set c.blocks.items at (record { number = b.number; marks = set b.marks (l % 16) mark; words = b.words }))
        ≡ with_cell l (marked mark (words_there c.blocks.items at l)) (lines_of c)
    mark_cache =
        block_set c kept at l (record { number = b.number; marks = set b.marks (l % 16) mark; words = b.words }) (marked mark (words_there c.blocks.items at l)) stands b_number
        (mark_set b (l % 16) (omega arith) b_whole mark [] ∙ ap (λ (x : Block). marked mark (get_or x.words (l % 16) [])) b_is)
        (λ i other. marks_kept b (l % 16) (omega arith) b_whole mark [] i other ∙ ap (λ (x : Block). cell_in x i) b_is)

    pub mark_keeps : IsKept (record {
      blocks =
          with_item c.blocks at (record { number = b.number; marks = set b.marks (l % 16) mark; words = b.words });
      areas = c.areas;
      room = c.room;
      greatest = c.greatest;
    })
    mark_keeps =
        kept_new (record { number = b.number; marks = set b.marks (l % 16) mark; words = b.words }) refl
        (record { marks = length-set b.marks (l % 16) mark ∙ b_whole.marks; words = b_whole.words })

  -- its mark and its words
  pub mark_is : cell_at (lines_of c) l ≡ marked (get_or b.marks (l % 16) Empty) (words_there c.blocks.items at l)
  unfolding cell_in
  mark_is = read_cell ∙ ap (λ (x : Block). marked (get_or b.marks (l % 16) Empty) (get_or x.words (l % 16) [])) b_is

  pub words_is : get_or b.words (l % 16) [] ≡ words_there c.blocks.items at l
  words_is = ap (λ (x : Block). get_or x.words (l % 16) []) b_is

  pub still_stands : (new : Block) → new.number ≡ b.number → IsBlockOf (set c.blocks.items at new) at (l / 16)
  still_stands new number = stands_set c.blocks.items at (l / 16) new (number ∙ b_number ∙ stands.is) stands

-- A number above the greatest is no block's.
pub none_above : (c : Blocks) → IsKept c → (n : ℕ) → c.greatest < n → HasNone c.blocks.items n
none_above c kept n above j below e = omega (arith, above, kept.greatest j below, e)

-- Where a block is by the areas.
module _ (c : Blocks) (kept : IsKept c) (n : ℕ) where
  -- none is there whose area isn't
  pub none_lacked : find nat_cmp (n / 64) c.areas.items ≡ None → HasNone c.blocks.items n
  none_lacked none j below e = not_both j (sym (place_lacked c.areas.items n none) ∙ sym (ap (place_in c.areas.items) e) ∙ kept.indexed j below)
    where
      not_both : (j : ℕ) → None ≡ Some j → ⊥
      not_both j e = absurd cc

  pub none_between : (at : ℕ) → Before c.areas.items at (n / 64) → (at < length c.areas.items → n / 64 < area_at c.areas.items at) → HasNone c.blocks.items n
  none_between at before after = none_lacked (find_between c.areas.items at (n / 64) kept.sorted before after)

  -- and none whose area tells of another
  pub none_elsewhere : (at : ℕ) (x : ℕ × List ℕ) → at < length c.areas.items → Before c.areas.items at (n / 64) → x ≡ get_or c.areas.items at x → x.0 ≡ n / 64 →
      (get_or x.1 (n % 64) 0 < length c.blocks.items → number_at c.blocks.items (get_or x.1 (n % 64) 0) ≢ n) → HasNone c.blocks.items n
  none_elsewhere at x within before read is not j below e =
      let here : x ≡ get_or c.areas.items at no_area = read ∙ get_or_default c.areas.items at x no_area within in
      let told : place_in c.areas.items n ≡ Some (get_or x.1 (n % 64) 0) =
      place_found c.areas.items n x.1 (find_present c.areas.items at (n / 64) within before (sym (ap (λ (e : ℕ × List ℕ). e.0) here) ∙ is) ∙ ap (λ (e : ℕ × List ℕ). Some e.1) (sym here)) in
      let same : get_or x.1 (n % 64) 0 ≡ j = same_some (get_or x.1 (n % 64) 0) j (sym told ∙ sym (ap (place_in c.areas.items) e) ∙ kept.indexed j below) in
      not (omega (arith, same, below)) (ap (number_at c.blocks.items) same ∙ e)

-- a copy that isn't held is none
pub unheld : (cell : Cell) → is_held cell ≡ false → cell ≡ Absent
unheld Absent is = refl
unheld (Clean words) is = absurd (false≢true (sym is))
unheld (Dirty a words) is = absurd (false≢true (sym is))

-- a line whose block isn't there is absent, and to make it so changes nothing
pub absent_none : (bs : List Block) (q : ℕ) → HasNone bs (q / 16) → cache_of bs ≡ with_cell q Absent (cache_of bs)
absent_none bs q none = sym (ap (λ (c : Cell). with_cell q c (cache_of bs)) (sym (cell_none bs q none)) ∙ with_cell_own q (cache_of bs))

held_words : (mark : Mark) (words : List ℕ) → is_held (marked mark words) ≡ true → words_of (marked mark words) ≡ eight words
held_words Empty words is = absurd (false≢true is)
held_words Fresh words is = refl
held_words Stored words is = refl
held_words Asked words is = refl

-- the words of a line that is held
pub words_held : (c : Blocks) → IsKept c → (at l : ℕ) → IsBlockOf c.blocks.items at (l / 16) → is_held (cell_at (lines_of c) l) ≡ true
    → words_of (cell_at (lines_of c) l) ≡ eight (words_there c.blocks.items at l)
unfolding cell_in
words_held c kept at l stands held =
    let is : cell_at (lines_of c) l ≡ marked (get_or (block_at c.blocks.items at).marks (l % 16) Empty) (words_there c.blocks.items at l) = cell_read c kept at l stands in
    ap words_of is ∙ held_words (get_or (block_at c.blocks.items at).marks (l % 16) Empty) (words_there c.blocks.items at l) (sym (ap is_held is) ∙ held)

-- a word of a line's eight
pub eight_index : (words : List ℕ) (k : ℕ) → k < 8 → get_or (eight words) k 0 ≡ get_or words k 0
eight_index words zero below = refl
eight_index words (suc zero) below = refl
eight_index words (suc (suc zero)) below = refl
eight_index words (suc (suc (suc zero))) below = refl
eight_index words (suc (suc (suc (suc zero)))) below = refl
eight_index words (suc (suc (suc (suc (suc zero))))) below = refl
eight_index words (suc (suc (suc (suc (suc (suc zero)))))) below = refl
eight_index words (suc (suc (suc (suc (suc (suc (suc zero))))))) below = refl
eight_index words (suc (suc (suc (suc (suc (suc (suc (suc k)))))))) below = absurd (omega arith)

-- a word set in eight words leaves eight words
pub eight_set : (words : List ℕ) (k v : ℕ) → eight (set (eight words) k v) ≡ set (eight words) k v
eight_set words k v = eight_whole (set (eight words) k v) (length-set (eight words) k v)

-- A block is told to the areas.
module _ (es : Areas) (n place : ℕ) (sorted : is_sorted nat_cmp es ≡ true) (wide : (area : ℕ) (places : List ℕ) → find nat_cmp area es ≡ Some places → length places ≡ 64) where
  enlisted : (v : List ℕ) → length v ≡ 64 → get_or v (n % 64) 0 ≡ place → ((m : ℕ) → m ≢ n → m / 64 ≡ n / 64 → (at : ℕ) → place_in es m ≡ Some at → get_or v (m % 64) 0 ≡ at) →
      IsEnlisted es (put nat_cmp (n / 64) v es) n place
  enlisted v long here others = record {
    here = place_found (put nat_cmp (n / 64) v es) n v (find_same es (n / 64) v) ∙ ap (λ (p : ℕ). Some p) here;
    others = λ m other at was.
        elim (cases_eq (m / 64) (n / 64)) [
          | inl e ↦ place_found (put nat_cmp (n / 64) v es) m v
              (ap (λ (a : ℕ). find nat_cmp a (put nat_cmp (n / 64) v es)) e ∙ find_same es (n / 64) v)
              ∙ ap (λ (p : ℕ). Some p) (others m other e at was)
          | inr ne ↦ place_other es m (n / 64) v ne ∙ was
        ];
    sorted = sorted_put es (n / 64) v sorted;
    wide = λ area places is.
        elim (cases_eq area (n / 64)) [
          | inl e ↦ sym (ap length (same_table v places (sym (find_same es (n / 64) v) ∙ sym (ap (λ (a : ℕ). find nat_cmp a (put nat_cmp (n / 64) v es)) e) ∙ is))) ∙ long
          | inr ne ↦ wide area places (sym (find_other es area (n / 64) v ne) ∙ is)
        ];
  }
    where
      same_table : (v w : List ℕ) → Some v ≡ Some w → v ≡ w
      same_table v w e = cc

  -- in an area that is there
  pub enlisted_there : (at : ℕ) (x : ℕ × List ℕ) → at < length es → Before es at (n / 64) → x ≡ get_or es at x → x.0 ≡ n / 64 → IsEnlisted es (set es at (x.0, set x.1 (n % 64) place)) n place
  enlisted_there at x within before read is =
      let here : x ≡ get_or es at no_area = read ∙ get_or_default es at x no_area within in
      let number : area_at es at ≡ n / 64 = sym (ap (λ (e : ℕ × List ℕ). e.0) here) ∙ is in
      let found : find nat_cmp (n / 64) es ≡ Some x.1 = find_present es at (n / 64) within before number ∙ ap (λ (e : ℕ × List ℕ). Some e.1) (sym here) in
      let long : length x.1 ≡ 64 = wide (n / 64) x.1 found in
      subst (λ (new : Areas). IsEnlisted es new n place)
      (sym (ap (λ (k : ℕ). set es at (k, set x.1 (n % 64) place)) is ∙ put_present es at (n / 64) (set x.1 (n % 64) place) within before number))
      (enlisted (set x.1 (n % 64) place) (length-set x.1 (n % 64) place ∙ long) (get_or-set_same x.1 (n % 64) place 0 (omega (arith, long)))
      (λ m other e p was. get_or-set_other x.1 (n % 64) (m % 64) place 0 (λ r. other (omega arith)) ∙ same_some (get_or x.1 (m % 64) 0) p
      (sym (place_found es m x.1 (ap (λ (a : ℕ). find nat_cmp a es) e ∙ found)) ∙ was)))

  -- in a new one
  pub enlisted_new : (at : ℕ) (v : List ℕ) → at ≤ length es → Before es at (n / 64) → (at < length es → n / 64 < area_at es at) → length v ≡ 64
      → IsEnlisted es (insert es at (n / 64, set v (n % 64) place)) n place
  enlisted_new at v within before after long =
      subst (λ (new : Areas). IsEnlisted es new n place) (sym (put_absent es at (n / 64) (set v (n % 64) place) within before after))
      (enlisted (set v (n % 64) place) (length-set v (n % 64) place ∙ long) (get_or-set_same v (n % 64) place 0 (omega (arith, long)))
      (λ m other e p was. absurd (never p (sym (place_lacked es m (ap (λ (a : ℕ). find nat_cmp a es) e ∙ find_between es at (n / 64) sorted before after)) ∙ was))))
    where
      never : (p : ℕ) → None ≡ Some p → ⊥
      never p e = absurd cc

-- A block is added.
module _ (old new : Blocks) (kept : IsKept old) (b : Block) (none : HasNone old.blocks.items b.number) (items : new.blocks.items ≡ old.blocks.items ++ b ∷ []) where
  longer : length new.blocks.items ≡ length old.blocks.items + 1
  longer = ap length items ∙ length-append old.blocks.items (b ∷ [])

  last_at : block_at new.blocks.items (length old.blocks.items) ≡ b
  last_at = ap (λ (bs : List Block). block_at bs (length old.blocks.items)) items ∙ get_or_at old.blocks.items b [] no_block (length old.blocks.items) refl

  others_at : (j : ℕ) → j < length old.blocks.items → block_at new.blocks.items j ≡ block_at old.blocks.items j
  others_at j below = ap (λ (bs : List Block). block_at bs j) items ∙ get_or_append_left old.blocks.items (b ∷ []) no_block j below

  pub added_stands : (at : ℕ) → at ≡ length old.blocks.items → IsBlockOf new.blocks.items at b.number
  added_stands at is = record {
    within = omega (arith, is, longer);
    is = ap (number_at new.blocks.items) is ∙ ap (λ (x : Block). x.number) last_at;
  }

  pub added_keeps : (at : ℕ) → at ≡ length old.blocks.items → IsWhole b → IsEnlisted old.areas.items new.areas.items b.number at →
      vec_len new.blocks + new.room ≤ vec_capacity new.blocks → vec_len new.areas + new.room ≤ vec_capacity new.areas
      → vec_len new.blocks + new.room ≤ most_blocks → old.greatest ≤ new.greatest → b.number ≤ new.greatest → IsKept new
  added_keeps at is whole told room_blocks room_areas few later own = record {
    sorted = told.sorted;
    indexed = λ j below.
        elim (cases_eq j (length old.blocks.items)) [
          | inl e ↦ ap (place_in new.areas.items) (ap (number_at new.blocks.items) e ∙ ap (λ (x : Block). x.number) last_at) ∙ told.here ∙ ap (λ (p : ℕ). Some p) (is ∙ sym e)
          | inr other ↦
              let inside : j < length old.blocks.items = omega (arith, below, longer, other) in
              let same : number_at new.blocks.items j ≡ number_at old.blocks.items j = ap (λ (x : Block). x.number) (others_at j inside) in
              ap (place_in new.areas.items) same ∙ told.others (number_at old.blocks.items j) (none j inside) j (kept.indexed j inside)
        ];
    whole = λ j below.
        elim (cases_eq j (length old.blocks.items)) [
          | inl e ↦ subst IsWhole (sym (ap (block_at new.blocks.items) e ∙ last_at)) whole
          | inr other ↦
              let inside : j < length old.blocks.items = omega (arith, below, longer, other) in
              subst IsWhole (sym (others_at j inside)) (kept.whole j inside)
        ];
    wide = told.wide;
    blocks = room_blocks;
    areas = room_areas;
    few = few;
    greatest = λ j below.
        elim (cases_eq j (length old.blocks.items)) [
          | inl e ↦ omega (arith, ap (number_at new.blocks.items) e, ap (λ (x : Block). x.number) last_at, own)
          | inr other ↦
              let inside : j < length old.blocks.items = omega (arith, below, longer, other) in
              omega (arith, ap (λ (x : Block). x.number) (others_at j inside), kept.greatest j inside, later)
        ];
  }

same_all : (n i : ℕ) → get_or (replicate n Empty) i Empty ≡ Empty
same_all zero i = refl
same_all (suc n) zero = refl
same_all (suc n) (suc i) = same_all n i

-- it holds nothing
holds_nothing : (n number : ℕ) (words : List (List ℕ)) (i : ℕ) → cell_in (record { number = number; marks = replicate n Empty; words = words }) i ≡ Absent
unfolding cell_in
holds_nothing n number words i = ap (λ (m : Mark). marked m (get_or words i [])) (same_all n i)

pub added_empty : (bs : List Block) (n number : ℕ) (words : List (List ℕ)) → cache_of (bs ++ record { number = number; marks = replicate n Empty; words = words } ∷ []) ≡ cache_of bs
added_empty bs n number words = empty_behind bs (record { number = number; marks = replicate n Empty; words = words }) (holds_nothing n number words)

-- no block stands for no line
pub no_blocks : cache_of [] ≡ map.empty
unfolding cache_of
no_blocks = refl

-- lines behind the last block's, and those of a block that isn't there, are absent
pub absent_above : (c : Blocks) → IsKept c → (first k : ℕ) → c.greatest < first / 16 → cell_at (lines_of c) (first + k) ≡ Absent
absent_above c kept first k above = cell_none c.blocks.items (first + k) (none_above c kept ((first + k) / 16) (omega (arith, above)))

pub absent_within : (bs : List Block) (first k : ℕ) → HasNone bs (first / 16) → k < 16 - first % 16 → cell_at (cache_of bs) (first + k) ≡ Absent
absent_within bs first k none below =
    let same : (first + k) / 16 ≡ first / 16 = omega (arith, below) in
    cell_none bs (first + k) (subst (HasNone bs) (sym same) none)
