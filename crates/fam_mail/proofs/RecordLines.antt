-- Lines of records: which they are, and that each is read as its record.
use Rattle.std.proofs.Common.{◌≡◌, ℕ, zero, suc, ◌+◌, ◌-◌, ◌≤◌, ◌⊎◌, inl, inr, List, [], ◌∷◌, ◌++◌, length, take, drop, replicate, refl, sym, ap, subst, ◌∙◌, arith, add-one}
use Rattle.std.specs.Prelude.{◌==◌, cond, Bool, true, false, Some, None, Ok}
use borrow.Rule.Slice.PartMut.{post_of}
use Rattle.std.proofs.lemmas.List.{drop-replicate, take-append-drop, length-append, length-replicate, length-drop, length-take-le, take_at, drop_at}
use Rattle.std.proofs.lemmas.Bool.Decides.{nat_tests, eqb_tells}
use Rattle.fam_mail.specs.Records.{IsRecord, IsRecordLine, first_set, is_count, numbers_in, numbers_or, record_in, record_line, wrong_word}

-- a zero before zeros
zero_before : (w : ℕ) (words : List ℕ) (k : ℕ) → (first_set words (k + 1) ≡ None → words ≡ replicate (length words) 0) → cond (w == 0) (first_set words (k + 1)) (Some k) ≡ None
    → w ∷ words ≡ replicate (length (w ∷ words)) 0
zero_before w words k rest = go (w == 0) (eqb_tells w 0)
  where
    go : (t : Bool) → ((t ≡ true) × (w ≡ 0)) ⊎ ((t ≡ false) × (w ≡ 0 → ⊥)) → cond t (first_set words (k + 1)) (Some k) ≡ None → w ∷ words ≡ replicate (length (w ∷ words)) 0
    go true (inl h) n = ap (λ (v : ℕ). v ∷ words) h.1 ∙ ap (λ (ws : List ℕ). 0 ∷ ws) (rest n)
    go true (inr h) n = absurd cc
    go false h n = absurd cc

-- words of which none is set are zeros
none_set : (words : List ℕ) (k : ℕ) → first_set words k ≡ None → words ≡ replicate (length words) 0
none_set [] k is = refl
none_set (w ∷ words) k is = zero_before w words k (none_set words (k + 1)) is

-- and of zeros none is set
zeros_unset : (n k : ℕ) → first_set (replicate n 0) k ≡ None
zeros_unset zero k = refl
zeros_unset (suc n) k = zeros_unset n (k + 1)

count_fits : (count : ℕ) → is_count count ≡ true → (1 ≤ count) × (count ≤ 7)
count_fits count is = (grind (arith, nat_tests), grind (arith, nat_tests))

fits_count : (count : ℕ) → 1 ≤ count → count ≤ 7 → is_count count ≡ true
fits_count count low high = grind (arith, nat_tests)

-- a line of eight words of which none is wrong is its record's line
pub right_line : (words : List ℕ) → length words ≡ 8 → wrong_word words ≡ None → IsRecordLine words
right_line [] long right = absurd (omega (arith, long))
right_line (count ∷ rest) long right = go (is_count count) refl right
  where
    go : (t : Bool) → is_count count ≡ t → cond t (first_set (drop (count + 1) (count ∷ rest)) (count + 1)) (Some 0) ≡ None → IsRecordLine (count ∷ rest)
    go false is n = absurd cc
    go true is n =
        let fits = count_fits count is in
        let whole : length rest ≡ 7 = omega (arith, long) in
        let taken : length (take count rest) ≡ count = length-take-le count rest (omega (arith, fits.1, whole)) in
        let unset : first_set (drop count rest) (count + 1) ≡ None = subst (λ (k : ℕ). first_set (drop k (count ∷ rest)) (count + 1) ≡ None) (add-one count) n in
        let zeros : drop count rest ≡ replicate (length (drop count rest)) 0 = none_set (drop count rest) (count + 1) unset in
        let many : length (drop count rest) ≡ 7 - length (take count rest) = omega (arith, length-drop count rest, whole, taken) in
        let tail : drop count rest ≡ replicate (7 - length (take count rest)) 0 = zeros ∙ ap (λ (n : ℕ). replicate n 0) many in
        record {
          right = right;
          numbers = record { some = omega (arith, taken, fits.0); few = omega (arith, taken, fits.1) };
          line = ap (λ (ws : List ℕ). count ∷ ws) (sym (take-append-drop count rest) ∙ ap (λ (ws : List ℕ). take count rest ++ ws) tail)
              ∙ ap (λ (n : ℕ). (n ∷ take count rest) ++ replicate (7 - length (take count rest)) 0) (sym taken);
        }

-- how many zeros stand behind a record
abbrev zeros_behind : List ℕ → List ℕ
zeros_behind numbers = replicate (7 - length numbers) 0

-- a record's line has no wrong word, and its numbers are the record
own_line : (numbers : List ℕ) → IsRecord numbers → (wrong_word (record_line numbers) ≡ None) × (numbers_in (record_line numbers) ≡ numbers)
own_line numbers is =
    let counted : is_count (length numbers) ≡ true = fits_count (length numbers) is.some is.few in
    let behind : drop (length numbers + 1) (record_line numbers) ≡ zeros_behind numbers =
    ap (λ (k : ℕ). drop k (record_line numbers)) (add-one (length numbers)) ∙ drop_at numbers (zeros_behind numbers) (length numbers) refl in
    let unset : first_set (drop (length numbers + 1) (record_line numbers)) (length numbers + 1) ≡ None =
    ap (λ (ws : List ℕ). first_set ws (length numbers + 1)) behind ∙ zeros_unset (7 - length numbers) (length numbers + 1) in (
      ap (λ (t : Bool). cond t (first_set (drop (length numbers + 1) (record_line numbers)) (length numbers + 1)) (Some 0)) counted ∙ unset,
      take_at numbers (zeros_behind numbers) (length numbers) refl,
    )

-- so it is a record's line
pub is_own_line : (numbers : List ℕ) → IsRecord numbers → IsRecordLine (record_line numbers)
is_own_line numbers is =
    let own = own_line numbers is in
    record { right = own.0; numbers = subst IsRecord (sym own.1) is; line = sym (ap record_line own.1) }

-- and is read as the record
pub record_back : (numbers : List ℕ) → IsRecord numbers → record_in (record_line numbers) ≡ Ok numbers
record_back numbers is =
    let own = own_line numbers is in ap (numbers_or (numbers_in (record_line numbers))) own.0 ∙ ap (λ (ns : List ℕ). Ok ns) own.1

-- it has eight words
pub line_length : (numbers : List ℕ) → IsRecord numbers → length (record_line numbers) ≡ 8
line_length numbers is =
    let zeros : length (zeros_behind numbers) ≡ 7 - length numbers = length-replicate {A = ℕ} (7 - length numbers) 0 in
    omega (arith, length-append (length numbers ∷ numbers) (zeros_behind numbers), zeros, is.some, is.few)

-- numbers that are written into a line of zeros, behind their count
pub new_line : (numbers : List ℕ) → IsRecord numbers → IsRecordLine (length numbers ∷ (numbers ++ post_of 1 (length numbers + 1 - 1) (replicate 8 0)))
new_line numbers is =
    let few : length numbers + 1 - 1 ≡ length numbers = omega arith in
    let behind : post_of 1 (length numbers) (replicate 8 0) ≡ zeros_behind numbers = drop-replicate (length numbers) 7 0 in
    subst (λ (ws : List ℕ). IsRecordLine (length numbers ∷ (numbers ++ ws))) (sym (ap (λ (n : ℕ). post_of 1 n (replicate 8 0)) few ∙ behind)) (is_own_line numbers is)
