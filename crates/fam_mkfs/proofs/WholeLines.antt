-- A whole line, by its operations.
use Prim.Native.Nat.{zero, suc}
use Rattle.std.proofs.Common.{ℕ, ◌≡◌, ◌≢◌, ◌+◌, ◌-◌, ◌<◌, ◌≤◌, Option, Some, take, set, get_or-set_other, get_or-set_same, below_more, List, [], ◌∷◌, ◌++◌, length, map, get_or, Result, append_assoc, refl, sym, ap, subst, ◌∙◌, arith, IsErr, IsErrAnd, IfErr, OnOk, Ok, Err}
use Rattle.std.specs.Prelude.{OnErr}
use Rattle.fam_media.specs.Causes.{IsSteady, Rose}
use Rattle.fam_media.specs.States.{MediaState}
use Rattle.fam_mkfs.proofs.Ending.{rose_since}
use Rattle.std.specs.List.{range_with_len}
use Rattle.std.proofs.lemmas.List.{take-append-le, take_all}
use Rattle.std.proofs.lemmas.List.FromFn.{map-range_with_len_more, take-map-range_with_len}
use Rattle.std.proofs.lemmas.Bool.{false≢true}
use Rattle.fam_base.specs.Image.{Image, eight}
use Rattle.fam_machine.specs.declared.cell.Cell.{Cell}
use Rattle.fam_machine.specs.Caches.{Cache, cell_at, cell_changed}
use Rattle.fam_machine.specs.OneLine.{IsHeld, brought, words_of}
use Rattle.fam_cache.specs.Effects.{FromMemory}
use Rattle.fam_cache.proofs.Performed.{held_loaded}
use Rattle.std.proofs.lemmas.Option.{same_Some}
use Rattle.fam_base.specs.declared.line.LineNo.{LineNo}
use Rattle.fam_cache.specs.Runs.{AreCut, AreDone, CacheOver}
use Rattle.fam_cache.proofs.Runs.{cut_as, cut_first, cut_second, done_as, done_both}
use Rattle.fam_machine.specs.declared.op.Op.{Op}
use Rattle.fam_machine.specs.declared.op.Op.TheVariants.{Load, Store, Invalidate}
use Rattle.fam_machine.specs.Operations.{load_ops, store_ops, line_no}
use Rattle.fam_machine.specs.Mkfs.{put_ops}
use Rattle.fam_mkfs.specs.Parts.{stores}
use Rattle.fam_mkfs.specs.declared.lines.FailedAt.{FailedAt}

-- an error that is handed on says what it said
pub cut_on : {T : Type 0} (ops : List Op) (s t : CacheOver) (at : FailedAt) (r : Result T FailedAt) → IsErr r × IsErrAnd r (λ x. x ≡ at) → AreCut ops at.0 s t → IfErr r (λ x. AreCut ops x.0 s t)
cut_on ops s t at (Ok x) is cut = absurd (false≢true is.0)
cut_on ops s t at (Err x) is cut = subst (λ (x : FailedAt). AreCut ops x.0 s t) (sym is.1) cut

-- the same operations, told of a result
pub done_on : {T : Type 0} (a b : List Op) (s t : CacheOver) (r : Result T FailedAt) → a ≡ b → OnOk r (AreDone a s t) → OnOk r (AreDone b s t)
done_on a b s t (Ok x) is done = done_as a b s t is done
done_on a b s t (Err x) is done = tt

pub cut_as_told : {T : Type 0} (a b : List Op) (s t : CacheOver) (r : Result T FailedAt) → a ≡ b → IfErr r (λ x. AreCut a x.0 s t) → IfErr r (λ x. AreCut b x.0 s t)
cut_as_told a b s t (Ok x) is cut = tt
cut_as_told a b s t (Err x) is cut = cut_as a b x.0 s t is cut

-- an error that is handed on: nothing was done to the end, it names a line within, and the count of faults rose
pub none_done : {T : Type 0} (P : Type 0) (r : Result T FailedAt) → IsErr r → OnOk r P
none_done P (Ok x) is = absurd (false≢true is)
none_done P (Err x) is = tt

pub within_on : {T : Type 0} (size : ℕ) (at : FailedAt) (r : Result T FailedAt) → IsErr r × IsErrAnd r (λ x. x ≡ at) → at.0.0 < size → IfErr r (λ x. x.0.0 < size)
within_on size at (Ok x) is below = tt
within_on size at (Err x) is below = subst (λ (x : FailedAt). x.0.0 < size) (sym is.1) below

pub rose_on : {T : Type 0} (before now : ℕ) (r : Result T FailedAt) → Rose before now → OnErr r (Rose before now)
rose_on before now (Ok x) rose = tt
rose_on before now (Err x) rose = rose

-- operations behind others that were done
pub done_behind : {T : Type 0} (a b whole : List Op) (s t u : CacheOver) (r : Result T FailedAt) → a ++ b ≡ whole → AreDone a s t → OnOk r (AreDone b t u) → OnOk r (AreDone whole s u)
done_behind a b whole s t u (Ok x) is p q = done_as (a ++ b) whole s u is (done_both a b s t u p q)
done_behind a b whole s t u (Err x) is p q = tt

pub cut_behind : {T : Type 0} (a b whole : List Op) (s t u : CacheOver) (r : Result T FailedAt) → a ++ b ≡ whole → AreDone a s t → IfErr r (λ x. AreCut b x.0 t u) → IfErr r (λ x. AreCut whole x.0 s u)
cut_behind a b whole s t u (Ok x) is p q = tt
cut_behind a b whole s t u (Err x) is p q = cut_as (a ++ b) whole x.0 s u is (cut_second a b x.0 s t u p q)

pub rose_behind : {T : Type 0} (first before now : ℕ) (r : Result T FailedAt) → first ≤ before → OnErr r (Rose before now) → OnErr r (Rose first now)
rose_behind first before now (Ok x) upto rose = tt
rose_behind first before now (Err x) upto rose = rose_since first before now upto rose

-- the counts of one operation and of those behind it
pub steady_both : {M : Type 0} (lines : M → ℕ) (state : M → MediaState) (a b c : M) → IsSteady lines state a b → IsSteady lines state b c → IsSteady lines state a c
steady_both lines state a b c p q = record {
  size = q.size ∙ p.size;
  later = omega arith;
}

-- eight operations: those before one of them, it, and those behind it
split : (f : ℕ → Op) (k : ℕ) → k < 8 → map f (range_with_len 0 k) ++ ((f k ∷ []) ++ map f (range_with_len (k + 1) (7 - k))) ≡ map f (range_with_len 0 8)
split f zero below = refl
split f (suc zero) below = refl
split f (suc (suc zero)) below = refl
split f (suc (suc (suc zero))) below = refl
split f (suc (suc (suc (suc zero)))) below = refl
split f (suc (suc (suc (suc (suc zero))))) below = refl
split f (suc (suc (suc (suc (suc (suc zero)))))) below = refl
split f (suc (suc (suc (suc (suc (suc (suc zero))))))) below = refl
split f (suc (suc (suc (suc (suc (suc (suc (suc k)))))))) below = absurd (omega arith)

-- one word more
more : (ops : List Op) (f : ℕ → Op) (k : ℕ) (s t u : CacheOver) → AreDone (ops ++ map f (range_with_len 0 k)) s t → AreDone (f k ∷ []) t u → AreDone (ops ++ map f (range_with_len 0 (k + 1))) s u
more ops f k s t u p q =
    subst (λ (o : List Op). AreDone o s u) (append_assoc ops (map f (range_with_len 0 k)) (f k ∷ []) ∙ ap (λ (o : List Op). ops ++ o) (sym (map-range_with_len_more f 0 k k (omega arith))))
    (done_both (ops ++ map f (range_with_len 0 k)) (f k ∷ []) s t u p q)

-- the next word fails
fails_at : (ops : List Op) (f : ℕ → Op) (k : ℕ) (line : LineNo) (s t u : CacheOver) → k < 8 → AreDone (ops ++ map f (range_with_len 0 k)) s t
    → AreCut (f k ∷ []) line t u → AreCut (ops ++ map f (range_with_len 0 8)) line s u
fails_at ops f k line s t u below p q =
    let rest = map f (range_with_len (k + 1) (7 - k)) in
    cut_as _ (ops ++ map f (range_with_len 0 8)) line s u
    (append_assoc ops (map f (range_with_len 0 k)) ((f k ∷ []) ++ rest) ∙ ap (λ (o : List Op). ops ++ o) (split f k below))
    (cut_second (ops ++ map f (range_with_len 0 k)) ((f k ∷ []) ++ rest) line s t u p (cut_first (f k ∷ []) rest line t u q))

-- A line is dropped and read.

pub load_more : (line k : ℕ) (s t u : CacheOver) → AreDone (load_ops line k) s t → AreDone (Load (line_no line) k ∷ []) t u → AreDone (load_ops line (k + 1)) s u
load_more line k s t u p q = more (Invalidate (line_no line) ∷ []) (λ k. Load (line_no line) k) k s t u p q

pub load_cut : (line k : ℕ) (at : LineNo) (s t u : CacheOver) → k < 8 → AreDone (load_ops line k) s t → AreCut (Load (line_no line) k ∷ []) at t u → AreCut (load_ops line 8) at s u
load_cut line k at s t u below p q = fails_at (Invalidate (line_no line) ∷ []) (λ k. Load (line_no line) k) k at s t u below p q

pub drop_cut : (line : ℕ) (at : LineNo) (s t : CacheOver) → AreCut (Invalidate (line_no line) ∷ []) at s t → AreCut (load_ops line 8) at s t
drop_cut line at s t cut = cut_first (Invalidate (line_no line) ∷ []) (map (λ k. Load (line_no line) k) (range_with_len 0 8)) at s t cut

-- A line is stored, sent and dropped.

pub store_more : (line : ℕ) (words : List ℕ) (k : ℕ) (s t u : CacheOver) → AreDone (stores line words k) s t
    → AreDone (Store (line_no line) k (get_or words k 0) ∷ []) t u → AreDone (stores line words (k + 1)) s u
store_more line words k s t u p q = more [] (λ k. Store (line_no line) k (get_or words k 0)) k s t u p q

-- what is cut in some of the stores is cut in more of them
cut_more : (line : ℕ) (words : List ℕ) (k more : ℕ) (at : LineNo) (s u : CacheOver) → AreCut (stores line words k) at s u → AreCut (stores line words (k + more)) at s u
cut_more line words k zero at s u cut = subst (λ (n : ℕ). AreCut (stores line words n) at s u) (let e : k ≡ k + 0 = omega arith in e) cut
cut_more line words k (suc more) at s u cut =
    let upto = cut_more line words k more at s u cut in
    let f : ℕ → Op = λ (k : ℕ). Store (line_no line) k (get_or words k 0) in
    let last = cut_as _ _ at s u (sym (map-range_with_len_more f 0 (k + more) (k + more) (omega arith))) (cut_first (stores line words (k + more)) (f (k + more) ∷ []) at s u upto) in
    subst (λ (n : ℕ). AreCut (stores line words n) at s u) (let e : k + more + 1 ≡ k + suc more = omega arith in e) last

pub store_cut : (line : ℕ) (words : List ℕ) (k count : ℕ) (at : LineNo) (s t u : CacheOver) → k < count → AreDone (stores line words k) s t
    → AreCut (Store (line_no line) k (get_or words k 0) ∷ []) at t u → AreCut (stores line words count) at s u
store_cut line words k count at s t u below p q =
    let f : ℕ → Op = λ (k : ℕ). Store (line_no line) k (get_or words k 0) in
    let here = cut_as _ _ at s u (sym (map-range_with_len_more f 0 k k (omega arith))) (cut_second (stores line words k) (f k ∷ []) at s t u p q) in
    subst (λ (n : ℕ). AreCut (stores line words n) at s u) (let e : k + 1 + (count - (k + 1)) ≡ count = omega arith in e) (cut_more line words (k + 1) (count - (k + 1)) at s u here)

pub all_stored : (line : ℕ) (words : List ℕ) (k count : ℕ) (s t : CacheOver) → k ≡ count → AreDone (stores line words k) s t → AreDone (stores line words count) s t
all_stored line words k count s t is p = subst (λ (k : ℕ). AreDone (stores line words k) s t) is p

-- A line is put, by the first so many of nine operations.

-- at most eight: some of its words are stored
pub few_stored : (line : ℕ) (words : List ℕ) (most : ℕ) → most ≤ 8 → stores line words most ≡ take most (put_ops (line, words))
unfolding put_ops
few_stored line words most few =
    let f : ℕ → Op = λ (k : ℕ). Store (line_no line) k (get_or words k 0) in
    sym (take-append-le most (store_ops line words) (Invalidate (line_no line) ∷ []) few ∙ take-map-range_with_len f 0 8 most few)

-- more: all nine are done
pub all_put : (line : ℕ) (words : List ℕ) (most : ℕ) → 8 < most → stores line words 8 ++ Invalidate (line_no line) ∷ [] ≡ take most (put_ops (line, words))
unfolding put_ops
all_put line words most many = sym (take_all most (store_ops line words ++ Invalidate (line_no line) ∷ []) many)

-- What the loops keep.

-- an operation at one line asks for no other
pub line_differs : (line : LineNo) (other : ℕ) → other ≢ line.0 → Some line ≢ Some (line_no other)
line_differs line other differs same = differs (let one : line ≡ line_no other = same_Some line (line_no other) same in sym (ap (λ (l : LineNo). l.0) one))

-- only the first word takes a place
pub spare_kept : (word first old new : ℕ) (IsThere : Type 0) → (0 < word → IsThere) → (IsThere → old ≤ new) → old ≤ new + 1 → (word ≡ 0 → first ≤ old) → first ≤ old + 1 → first ≤ new + 1
spare_kept zero first old new IsThere held held_spare spare begun before = omega (arith, begun refl)
spare_kept (suc word) first old new IsThere held held_spare spare begun before = omega (arith, held_spare (held (omega arith)))

-- and none where the line was held before
pub held_spare_kept : (word first old new : ℕ) (IsThere : Type 0) → (0 < word → IsThere) → (word ≡ 0 → IsThere) → (IsThere → old ≤ new) → first ≤ old → first ≤ new
held_spare_kept zero first old new IsThere held begun held_spare before = omega (arith, held_spare (begun refl))
held_spare_kept (suc word) first old new IsThere held begun held_spare before = omega (arith, held_spare (held (omega arith)))

same_copy : (word : ℕ) (modelled : Option Image) (line : ℕ) (old new : Cache) → 0 < word → (0 < word → IsHeld (cell_at old line))
    → FromMemory modelled line (λ memory. new ≡ cell_changed line (brought memory) old) → cell_at new line ≡ cell_at old line
same_copy word modelled line old new some held from = ap (λ (cache : Cache). cell_at cache line) (held_loaded modelled line old new (held some) from)

-- one word more was loaded from the line's copy
pub words_more : (words : List ℕ) (k value : ℕ) (modelled : Option Image) (line : ℕ) (old new : Cache) → length words ≡ 8 → k < 8
    → ((j : ℕ) → j < k → get_or words j 0 ≡ get_or (words_of (cell_at old line)) j 0) → (0 < k → IsHeld (cell_at old line))
    → FromMemory modelled line (λ memory. new ≡ cell_changed line (brought memory) old) → value ≡ get_or (words_of (cell_at new line)) k 0
    → (j : ℕ) → j < k + 1 → get_or (set words k value) j 0 ≡ get_or (words_of (cell_at new line)) j 0
words_more words k value modelled line old new wide below before held from read =
    below_more (λ j. get_or (set words k value) j 0 ≡ get_or (words_of (cell_at new line)) j 0) k
    (λ j less.
    let other : j ≢ k = omega arith in
    let copy : cell_at new line ≡ cell_at old line = same_copy k modelled line old new (omega arith) held from in
    get_or-set_other words k j value 0 other ∙ before j less ∙ ap (λ (c : Cell). get_or (words_of c) j 0) (sym copy))
    (let lt : k < length words = omega arith in get_or-set_same words k value 0 lt ∙ read)

-- the eight words of a list by their places
pub eight_words : (xs ys : List ℕ) → length xs ≡ 8 → ((k : ℕ) → k < 8 → get_or xs k 0 ≡ get_or ys k 0) → xs ≡ eight ys
eight_words (a ∷ b ∷ c ∷ d ∷ e ∷ f ∷ g ∷ h ∷ []) ys is same =
    let e0 : a ≡ get_or ys 0 0 = same 0 (omega arith) in
    let e1 : b ≡ get_or ys 1 0 = same 1 (omega arith) in
    let e2 : c ≡ get_or ys 2 0 = same 2 (omega arith) in
    let e3 : d ≡ get_or ys 3 0 = same 3 (omega arith) in
    let e4 : e ≡ get_or ys 4 0 = same 4 (omega arith) in
    let e5 : f ≡ get_or ys 5 0 = same 5 (omega arith) in
    let e6 : g ≡ get_or ys 6 0 = same 6 (omega arith) in
    let e7 : h ≡ get_or ys 7 0 = same 7 (omega arith) in
    cc
eight_words [] ys is same = absurd (omega arith)
eight_words (a ∷ []) ys is same = absurd (omega arith)
eight_words (a ∷ b ∷ []) ys is same = absurd (omega arith)
eight_words (a ∷ b ∷ c ∷ []) ys is same = absurd (omega arith)
eight_words (a ∷ b ∷ c ∷ d ∷ []) ys is same = absurd (omega arith)
eight_words (a ∷ b ∷ c ∷ d ∷ e ∷ []) ys is same = absurd (omega arith)
eight_words (a ∷ b ∷ c ∷ d ∷ e ∷ f ∷ []) ys is same = absurd (omega arith)
eight_words (a ∷ b ∷ c ∷ d ∷ e ∷ f ∷ g ∷ []) ys is same = absurd (omega arith)
eight_words (a ∷ b ∷ c ∷ d ∷ e ∷ f ∷ g ∷ h ∷ i ∷ more) ys is same = absurd (omega arith)
