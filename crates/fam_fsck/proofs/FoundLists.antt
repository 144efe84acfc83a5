-- Lists of entries that were found, by their places.
use Rattle.std.proofs.Common.{◌≡◌, ℕ, zero, suc, ◌+◌, ◌<◌, ◌≤◌, Bool, true, false, cond, List, [], ◌∷◌, ◌++◌, length, drop, Option, Some, None, count_by, refl, sym, ap, ap₂, ◌∙◌, arith}
use Rattle.std.specs.Prelude.{find, is_some, not, option_map, slice_get}
use Rattle.std.proofs.lemmas.Option.{same_Some}
use Rattle.std.proofs.lemmas.List.Sums.{sum_by-append}
use Rattle.fam_base.specs.declared.entry.Entry.{Entry}
use Rattle.fam_base.specs.declared.entry.Kind.{Kind}
use Rattle.fam_format.specs.declared.faults.Reason.{Reason}
use Rattle.fam_tree.specs.Runs.{entry_at}
use Rattle.fam_fsck.specs.declared.found.Found.{Found}
use Rattle.fam_fsck.specs.declared.found_list.Mark.{Mark}
use Rattle.fam_fsck.specs.Found.{applies_where, found_entries, found_of, with_mark}

-- Entries and their marks.

-- as many as there are marks
pub found_length : (es : List Entry) (ms : List Mark) → length es ≡ length ms → length (found_of es ms) ≡ length ms
found_length [] [] same = refl
found_length [] (m ∷ ms) same = absurd (omega (arith, same))
found_length (e ∷ es) [] same = absurd (omega (arith, same))
found_length (e ∷ es) (m ∷ ms) same = ap suc (found_length es ms (omega (arith, same)))

-- a place within them
pub found_within : (es : List Entry) (ms : List Mark) (fs : List Found) (i : ℕ) → length es ≡ length ms → found_of es ms ≡ fs → i < length fs → i < length es
found_within es ms fs i same is below =
    let many : length fs ≡ length ms = sym (ap (λ (l : List Found). length l) is) ∙ found_length es ms same in
    omega (arith, many, same, below)

-- the one at a place
pub found_at : (es : List Entry) (ms : List Mark) (i : ℕ) (m : Mark) → length es ≡ length ms → slice_get ms i ≡ Some m → slice_get (found_of es ms) i ≡ Some (with_mark (entry_at es i) m)
found_at [] [] i m same is = absurd cc
found_at [] (n ∷ ms) i m same is = absurd (omega (arith, same))
found_at (e ∷ es) [] i m same is = absurd (omega (arith, same))
found_at (e ∷ es) (n ∷ ms) zero m same is = ap (option_map (with_mark e)) is
found_at (e ∷ es) (n ∷ ms) (suc i) m same is = found_at es ms i m (omega (arith, same)) is

-- and its kind
pub kind_found : (es : List Entry) (ms : List Mark) (i : ℕ) → length es ≡ length ms → i < length es
    → option_map (λ (f : Found). f.entry.kind) (slice_get (found_of es ms) i) ≡ Some (entry_at es i).kind
kind_found [] ms i same below = absurd (omega (arith, below))
kind_found (e ∷ es) [] i same below = absurd (omega (arith, same))
kind_found (e ∷ es) (m ∷ ms) zero same below = refl
kind_found (e ∷ es) (m ∷ ms) (suc i) same below = kind_found es ms i (omega (arith, same)) (omega (arith, below))

-- with one more
pub found_more : (es : List Entry) (ms : List Mark) (e : Entry) (m : Mark) → length es ≡ length ms → found_of (es ++ e ∷ []) (ms ++ m ∷ []) ≡ found_of es ms ++ with_mark e m ∷ []
found_more [] [] e m same = refl
found_more [] (n ∷ ms) e m same = absurd (omega (arith, same))
found_more (x ∷ es) [] e m same = absurd (omega (arith, same))
found_more (x ∷ es) (n ∷ ms) e m same = ap (λ (fs : List Found). with_mark x n ∷ fs) (found_more es ms e m (omega (arith, same)))

-- an entry applies where nothing is against it
pub applies_told : (o : Option Reason) (b : Bool) → is_some o ≡ not b → b ≡ applies_where o
applies_told None true told = refl
applies_told None false told = absurd cc
applies_told (Some r) true told = absurd cc
applies_told (Some r) false told = refl

-- The first that passes a test.

-- the one at a place does
pub find_here : {A : Type 0} (test : A → Bool) (xs : List A) (i : ℕ) (x : A) → slice_get xs i ≡ Some x → test x ≡ true → find test (drop i xs) ≡ Some x
find_here test [] i x is e = absurd cc
find_here test (a ∷ xs) zero x is e =
    let same : a ≡ x = same_Some a x is in
    ap (λ (b : Bool). cond b (Some a) (find test xs)) (ap test same ∙ e) ∙ ap (λ y. Some y) same
find_here test (a ∷ xs) (suc i) x is e = find_here test xs i x is e

find_suc : {A : Type 0} (test : A → Bool) (xs : List A) (i : ℕ) (x : A) → slice_get xs i ≡ Some x → test x ≡ false → find test (drop i xs) ≡ find test (drop (suc i) xs)
find_suc test [] i x is e = absurd cc
find_suc test (a ∷ xs) zero x is e = ap (λ (b : Bool). cond b (Some a) (find test xs)) (ap test (same_Some a x is) ∙ e)
find_suc test (a ∷ xs) (suc i) x is e = find_suc test xs i x is e

-- it doesn't
pub find_next : {A : Type 0} (test : A → Bool) (xs : List A) (i : ℕ) (x : A) → slice_get xs i ≡ Some x → test x ≡ false → find test (drop i xs) ≡ find test (drop (i + 1) xs)
find_next test xs i x is e =
    let one : suc i ≡ i + 1 = omega arith in
    find_suc test xs i x is e ∙ ap (λ (n : ℕ). find test (drop n xs)) one

-- none does
pub find_past : {A : Type 0} (test : A → Bool) (xs : List A) (i : ℕ) → length xs ≤ i → find test (drop i xs) ≡ None
find_past test [] zero past = refl
find_past test [] (suc i) past = refl
find_past test (a ∷ xs) zero past = absurd (omega (arith, past))
find_past test (a ∷ xs) (suc i) past = find_past test xs i (omega (arith, past))

-- How many are of a kind.

no_zero : (n m : ℕ) → 0 + n + m ≡ n + m
no_zero n m = omega arith

count_suc : (test : Kind → Bool) (xs : List Found) (i : ℕ) (k : Kind) → option_map (λ (f : Found). f.entry.kind) (slice_get xs i) ≡ Some k
    → count_by (λ (e : Entry). test e.kind) (found_entries (drop i xs)) ≡ cond (test k) 1 0 + count_by (λ (e : Entry). test e.kind)
    (found_entries (drop (suc i) xs))
count_suc test [] i k is = absurd cc
count_suc test (x ∷ xs) zero k is =
    sum_by-append (λ (e : Entry). cond (test e.kind) 1 0) (x.entry ∷ []) (found_entries xs)
    ∙ ap (λ (j : Kind). 0 + cond (test j) 1 0 + count_by (λ (e : Entry). test e.kind) (found_entries xs)) (same_Some x.entry.kind k is)
    ∙ no_zero (cond (test k) 1 0) (count_by (λ (e : Entry). test e.kind) (found_entries xs))
count_suc test (x ∷ xs) (suc i) k is = count_suc test xs i k is

count_next : (test : Kind → Bool) (xs : List Found) (i : ℕ) (k : Kind) (counts : Bool) → option_map (λ (f : Found). f.entry.kind) (slice_get xs i)
    ≡ Some k → test k ≡ counts → count_by (λ (e : Entry). test e.kind) (found_entries (drop i xs)) ≡ cond counts 1 0 + count_by
    (λ (e : Entry). test e.kind) (found_entries (drop (i + 1) xs))
count_next test xs i k counts is told =
    let one : suc i ≡ i + 1 = omega arith in
    count_suc test xs i k is
    ∙ ap₂ (λ (b : Bool) (n : ℕ). cond b 1 0 + count_by (λ (e : Entry). test e.kind) (found_entries (drop n xs))) told one

-- the one at a place is
pub count_yes : (test : Kind → Bool) (xs : List Found) (i : ℕ) (k : Kind) → option_map (λ (f : Found). f.entry.kind) (slice_get xs i) ≡ Some k
    → test k ≡ true → count_by (λ (e : Entry). test e.kind) (found_entries (drop i xs)) ≡ 1 + count_by (λ (e : Entry). test e.kind)
    (found_entries (drop (i + 1) xs))
count_yes test xs i k is told = count_next test xs i k true is told

-- it isn't
pub count_no : (test : Kind → Bool) (xs : List Found) (i : ℕ) (k : Kind) → option_map (λ (f : Found). f.entry.kind) (slice_get xs i) ≡ Some k
    → test k ≡ false → count_by (λ (e : Entry). test e.kind) (found_entries (drop i xs)) ≡ count_by (λ (e : Entry). test e.kind)
    (found_entries (drop (i + 1) xs))
count_no test xs i k is told =
    let n : ℕ = count_by (λ (e : Entry). test e.kind) (found_entries (drop (i + 1) xs)) in
    let e : 0 + n ≡ n = omega arith in
    count_next test xs i k false is told ∙ e

-- none is left
pub count_past : (test : Kind → Bool) (xs : List Found) (i : ℕ) → length xs ≤ i → count_by (λ (e : Entry). test e.kind) (found_entries (drop i xs)) ≡ 0
count_past test [] zero past = refl
count_past test [] (suc i) past = refl
count_past test (x ∷ xs) zero past = absurd (omega (arith, past))
count_past test (x ∷ xs) (suc i) past = count_past test xs i (omega (arith, past))
