-- Dirty marks are as many as dirty lines.
use Rattle.std.proofs.Common.{◌≡◌, ℕ, zero, suc, ◌+◌, ◌*◌, ◌/◌, ◌<◌, ◌≤◌, Bool, true, false, cond, inl, inr, List, [], ◌∷◌, ◌++◌, length, get_or, take, Option, Some, None, refl, sym, ap, ap₂, subst, ◌∙◌, arith}
use Rattle.std.specs.Prelude.{count_by}
use Rattle.std.proofs.lemmas.Bool.{cases_order, false≢true}
use Rattle.std.proofs.lemmas.List.{get_or-take, length-take-le, take_all, take_more}
use Rattle.std.proofs.lemmas.List.Sums.{sum_by-cons}
use Rattle.std.specs.Ordering.{nat_cmp}
use Rattle.std.specs.Cmp.{nat_cmp_total}
use Rattle.std.specs.FinMap as finite
use Rattle.std.specs.FinMap.{entries, entries-insert, find, get-entries, len-entries, len-empty, put}
use Rattle.fam_machine.specs.declared.cell.Cell.{Cell}
use Rattle.fam_machine.specs.declared.cell.Cell.TheVariants.{Absent, Clean, Dirty}
use Rattle.fam_machine.specs.Caches.{Cache, CachedLine, cell_at, cell_of, dirty_count, is_marked_dirty, unsent_mark, with_cell}
use Rattle.fam_machine.specs.OneLine.{IsDirty, is_dirty}
use Rattle.fam_machine.proofs.CacheLemmas.{greater, less, same_key, other_key, with_cell_own}
use Rattle.fam_machine.proofs.DirtyLemmas.{Lines, count_first, count_lines}
use Rattle.fam_cache.specs.declared.blocks.Block.{Block}
use Rattle.fam_cache.specs.declared.blocks.Mark.{Mark}
use Rattle.fam_cache.specs.declared.blocks.Mark.TheVariants.{Empty}
use Rattle.fam_cache.specs.Blocks.{HasNone, IsWhole, block_at, cache_of, cell_in, is_dirty_by, marked, no_block, number_at, with_lines}
use Rattle.fam_cache.proofs.BlockLemmas.{cell_none, lines_other}

-- one more line, which isn't there, counts where it is dirty
not_found : (v : CachedLine) → Some v ≡ None → ⊥
not_found v e = absurd cc

count_put : (l : ℕ) (v : CachedLine) (lines : Lines) → find nat_cmp l lines ≡ None → count_lines (put nat_cmp l v lines) ≡ cond (is_marked_dirty v.mark) 1 0 + count_lines lines
count_put l v [] none = count_first (l, v) []
count_put l v (e ∷ lines) none =
    elim (cases_order l e.0) [
      | inl same ↦ absurd (not_found e.1 (sym (ap (λ (b : Bool). cond b (Some e.1) (find nat_cmp l lines)) (same_key l e.0 same)) ∙ none))
      | inr d ↦ elim d [
        | inl up ↦ rw (less l e.0 up) (count_first (l, v) (e ∷ lines))
        | inr down ↦
            let later : find nat_cmp l lines ≡ None = sym (ap (λ (b : Bool). cond b (Some e.1) (find nat_cmp l lines)) (other_key l e.0 (λ same. omega (arith, down, same)))) ∙ none in
            let rest = count_put l v lines later in
            rw (greater l e.0 down) (count_first e (put nat_cmp l v lines)
            ∙ (let sum : cond (is_marked_dirty e.1.mark) 1 0 + count_lines (put nat_cmp l v lines)
            ≡ cond (is_marked_dirty v.mark) 1 0 + count_lines (e ∷ lines) = omega (arith, rest, count_first e lines) in sum))
      ]
    ]

nothing_of : (o : Option CachedLine) → cell_of o ≡ Absent → o ≡ None
nothing_of None is = refl
nothing_of (Some copy) is = absurd (marked_there copy.mark is)
  where
    marked_there : (mark : Rattle.fam_machine.specs.Caches.Mark) → Rattle.fam_machine.specs.Caches.cell_marked mark copy.words ≡ Absent → ⊥
    marked_there Rattle.fam_machine.specs.Caches.clean is = absurd cc
    marked_there Rattle.fam_machine.specs.Caches.dirty is = absurd cc
    marked_there Rattle.fam_machine.specs.Caches.asked is = absurd cc

count_marked : (a : Bool) → is_marked_dirty (unsent_mark a) ≡ true
count_marked true = refl
count_marked false = refl

dirty_with : (cache : Cache) (l : ℕ) (cell : Cell) → cell_at cache l ≡ Absent → dirty_count (with_cell l cell cache) ≡ cond (is_dirty cell) 1 0 + dirty_count cache
unfolding count_lines
dirty_with cache l Absent none =
    let same : dirty_count (with_cell l Absent cache) ≡ dirty_count cache = ap dirty_count (sym (ap (λ (c : Cell). with_cell l c cache) none) ∙ with_cell_own l cache) in
    omega (arith, same)
dirty_with cache l (Clean words) none =
    ap count_lines (entries-insert nat_cmp_total cache l _) ∙ count_put l _ (entries cache) (sym (get-entries cache l) ∙ nothing_of (finite.get cache l) none)
dirty_with cache l (Dirty a words) none =
    ap count_lines (entries-insert nat_cmp_total cache l _) ∙ count_put l _ (entries cache) (sym (get-entries cache l) ∙ nothing_of (finite.get cache l) none)
    ∙ ap (λ (b : Bool). cond b 1 0 + dirty_count cache) (count_marked a)

dirty_empty : dirty_count finite.empty ≡ 0
unfolding count_lines
dirty_empty = ap count_lines (none_of _ (sym (len-entries finite.empty) ∙ len-empty nat_cmp CachedLine))
  where
    none_of : (lines : Lines) → length lines ≡ 0 → lines ≡ []
    none_of [] is = refl
    none_of (e ∷ lines) is = absurd (omega arith)

-- The lines of one block.

dirty_marked : (mark : Mark) (words : List ℕ) → is_dirty (marked mark words) ≡ is_dirty_by mark
dirty_marked Empty words = refl
dirty_marked other words = refl

count_append : (m : Mark) (ms : List Mark) → count_by is_dirty_by (ms ++ m ∷ []) ≡ cond (is_dirty_by m) 1 0 + count_by is_dirty_by ms
count_append m [] = sum_by-cons {X = Mark} (λ x. cond (is_dirty_by x) 1 0) m []
count_append m (x ∷ ms) =
    let all = sum_by-cons {X = Mark} (λ x. cond (is_dirty_by x) 1 0) x (ms ++ m ∷ []) in
    let these = sum_by-cons {X = Mark} (λ x. cond (is_dirty_by x) 1 0) x ms in
    omega (arith, all, these, count_append m ms)

lines_counted : (b : Block) (cache : Cache) → IsWhole b → ((i : ℕ) → i < 16 → cell_at cache (16 * b.number + i) ≡ Absent) → (n : ℕ) → n ≤ 16
    → dirty_count (with_lines b n cache) ≡ count_by is_dirty_by (take n b.marks) + dirty_count cache
unfolding with_lines cell_in
lines_counted b cache whole none zero few =
    let nothing : count_by is_dirty_by (take 0 b.marks) ≡ 0 = refl in
    omega (arith, nothing)
lines_counted b cache whole none (suc n) few =
    let mark : Mark = get_or b.marks n Empty in
    let one = dirty_with (with_lines b n cache) (16 * b.number + n) (marked mark (get_or b.words n []))
    (lines_other b n cache (16 * b.number + n) (λ i below e. omega (arith, below, e)) ∙ none n (omega (arith, few))) in
    let test : cond {A = ℕ} (is_dirty (marked mark (get_or b.words n []))) 1 0 ≡ cond {A = ℕ} (is_dirty_by mark) 1 0 = ap (λ (t : Bool). cond t 1 0) (dirty_marked mark (get_or b.words n [])) in
    let rest = lines_counted b cache whole none n (omega (arith, few)) in
    let more : count_by is_dirty_by (take (suc n) b.marks) ≡ cond (is_dirty_by mark) 1 0 + count_by is_dirty_by (take n b.marks) =
    ap (λ (k : ℕ). count_by is_dirty_by (take k b.marks)) (let step : suc n ≡ n + 1 = omega arith in step) ∙ ap (count_by is_dirty_by)
    (take_more b.marks n Empty (omega (arith, few, whole.marks))) ∙ count_append mark (take n b.marks) in
    omega (arith, one, test, rest, more)

-- The blocks.

pub dirty_of : List Block → ℕ
dirty_of [] = 0
dirty_of (b ∷ bs) = count_by is_dirty_by b.marks + dirty_of bs

blocks_counted : (bs : List Block) → ((j : ℕ) → j < length bs → IsWhole (block_at bs j))
    → ((i j : ℕ) → i < length bs → j < length bs → number_at bs i ≡ number_at bs j → i ≡ j) → dirty_count (cache_of bs) ≡ dirty_of bs
unfolding cache_of dirty_of
blocks_counted [] whole alone = dirty_empty
blocks_counted (b ∷ bs) whole alone =
    let first : IsWhole b = whole 0 (omega arith) in
    let none : HasNone bs b.number = λ j below e. (let at : suc j ≡ 0 = alone (suc j) 0 (omega (arith, below)) (omega arith) e in omega (arith, at)) in
    lines_counted b (cache_of bs) first
    (λ i few. cell_none bs (16 * b.number + i) (λ j below e. (let quotient : (16 * b.number + i) / 16 ≡ b.number = omega (arith, few) in none j below (e ∙ quotient))))
    16 (omega arith)
    ∙ ap₂ (λ (x y : ℕ). x + y) (ap (count_by is_dirty_by) (take_all 16 b.marks (omega (arith, first.marks))))
    (blocks_counted bs (λ j below. whole (suc j) (omega (arith, below)))
    (λ i j at_i at_j e. (let same : suc i ≡ suc j = alone (suc i) (suc j) (omega (arith, at_i)) (omega (arith, at_j)) e in omega (arith, same))))

pub dirty_counted : (bs : List Block) → ((j : ℕ) → j < length bs → IsWhole (block_at bs j))
    → ((i j : ℕ) → i < length bs → j < length bs → number_at bs i ≡ number_at bs j → i ≡ j) → dirty_of bs ≡ dirty_count (cache_of bs)
dirty_counted bs whole alone = sym (blocks_counted bs whole alone)

count_few : (ms : List Mark) → count_by is_dirty_by ms ≤ length ms
count_few [] = omega arith
count_few (m ∷ ms) = one_more (is_dirty_by m) (count_by is_dirty_by (m ∷ ms)) (count_by is_dirty_by ms) (length ms) (sum_by-cons {X = Mark} (λ x. cond (is_dirty_by x) 1 0) m ms) (count_few ms)
  where
    one_more : (b : Bool) (all some long : ℕ) → all ≡ cond b 1 0 + some → some ≤ long → all ≤ suc long
    one_more true all some long is few = omega (arith, is, few)
    one_more false all some long is few = omega (arith, is, few)

-- of so many blocks, the next one's dirty lines are counted too
dirty_append : (bs : List Block) (b : Block) → dirty_of (bs ++ b ∷ []) ≡ dirty_of bs + count_by is_dirty_by b.marks
unfolding dirty_of
dirty_append [] b = omega arith
dirty_append (x ∷ bs) b = omega (arith, dirty_append bs b)

pub dirty_none : dirty_of [] ≡ 0
unfolding dirty_of
dirty_none = refl

pub dirty_more : (bs : List Block) (i : ℕ) (b : Block) → i < length bs → b ≡ get_or bs i b → dirty_of (take (i + 1) bs) ≡ dirty_of (take i bs) + count_by is_dirty_by b.marks
dirty_more bs i b within read = ap dirty_of (take_more bs i b within ∙ ap (λ (x : Block). take i bs ++ x ∷ []) (sym read)) ∙ dirty_append (take i bs) b

dirty_few_of : (bs : List Block) → ((j : ℕ) → j < length bs → IsWhole (block_at bs j)) → dirty_of bs ≤ 16 * length bs
unfolding dirty_of
dirty_few_of [] whole = omega arith
dirty_few_of (b ∷ bs) whole = omega (arith, count_few b.marks, (whole 0 (omega arith)).marks, dirty_few_of bs (λ j below. whole (suc j) (omega (arith, below))))

pub dirty_few : (bs : List Block) (i : ℕ) → ((j : ℕ) → j < length bs → IsWhole (block_at bs j)) → i ≤ length bs → dirty_of (take i bs) ≤ 16 * i
dirty_few bs i whole within =
    let long : length (take i bs) ≡ i = length-take-le i bs within in
    omega (arith, long, dirty_few_of (take i bs) (λ j below. subst IsWhole (sym (get_or-take i bs j no_block (omega (arith, below, long)))) (whole j (omega (arith, below, long, within)))))

pub dirty_whole : (bs : List Block) (i : ℕ) → length bs ≤ i → dirty_of (take i bs) ≡ dirty_of bs
dirty_whole bs i past = ap dirty_of (take_all i bs past)

no_more : (b : Bool) (n : ℕ) → cond b 1 0 + n ≡ 0 → (b ≡ false) × (n ≡ 0)
no_more true n none = absurd (omega (arith, none))
no_more false n none = (refl, omega (arith, none))

-- where no mark is dirty
pub none_dirty : (ms : List Mark) (i : ℕ) → count_by is_dirty_by ms ≡ 0 → is_dirty_by (get_or ms i Empty) ≡ false
none_dirty [] i none = refl
none_dirty (m ∷ ms) zero none = (no_more (is_dirty_by m) (count_by is_dirty_by ms) (sym (sum_by-cons {X = Mark} (λ x. cond (is_dirty_by x) 1 0) m ms) ∙ none)).0
none_dirty (m ∷ ms) (suc i) none = none_dirty ms i (no_more (is_dirty_by m) (count_by is_dirty_by ms) (sym (sum_by-cons {X = Mark} (λ x. cond (is_dirty_by x) 1 0) m ms) ∙ none)).1

-- no line of the block is dirty then
pub clean_block : (b : Block) → count_by is_dirty_by b.marks ≡ 0 → (i : ℕ) → ¬ (IsDirty (cell_in b i))
unfolding cell_in
clean_block b none i dirty =
    false≢true (sym (dirty_marked (get_or b.marks i Empty) (get_or b.words i []) ∙ none_dirty b.marks i none) ∙ dirty)
