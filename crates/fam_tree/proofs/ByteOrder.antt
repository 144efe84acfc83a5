-- Lists of bytes whose fronts are the same compare as what lies behind those, and as the numbers which that spells.
use Rattle.std.proofs.Common.{◌≡◌, ◌≢◌, ℕ, zero, suc, ◌+◌, ◌-◌, ◌<◌, ◌≤◌, min, List, [], ◌∷◌, ◌++◌, length, get_or, take, drop, refl, sym, ap, ap₂, subst, ◌∙◌, inl, inr, arith}
use Rattle.std.specs.Prelude.{slice_range}
use Rattle.std.specs.Ordering.{nat_cmp, ordering_then}
use Rattle.std.specs.declared.cmp.Ordering.{Ordering}
use Rattle.std.specs.declared.cmp.Ordering.TheVariants.{Less, Equal, Greater}
use Rattle.std.proofs.lemmas.Bool.{cases_order, eq-eqb, le-ltb, lt-ltb, ne_eqb}
use Rattle.std.proofs.lemmas.List.{drop-take, drop_more, get_or-drop, length-drop, length-take-le, take-append-drop, take-take}
use Rattle.std.proofs.lemmas.List.Folds.{drop_split}
use Rattle.fam_base.specs.PathOrder.{big, path_cmp}
use Rattle.fam_base.proofs.FieldOrder.{AreBytes, prefixes, spelled}
use Rattle.fam_tree.proofs.Views.{path_cmp-IsAntisymmetric}

-- ---- numbers

less : (k x : ℕ) → k < x → nat_cmp k x ≡ Less
less k x h = rw (lt-ltb k x h) refl

greater : (k x : ℕ) → x < k → nat_cmp k x ≡ Greater
greater k x h = rw (le-ltb k x (omega arith), ne_eqb k x (omega arith)) refl

equal : (k x : ℕ) → k ≡ x → nat_cmp k x ≡ Equal
equal k x h = rw (le-ltb k x (omega arith), eq-eqb k x h) refl

-- numbers that differ decide
decided : (x y : ℕ) (o : Ordering) → x ≢ y → ordering_then (nat_cmp x y) o ≡ nat_cmp x y
decided x y o other = elim (cases_order x y) [
  | inl e ↦ absurd (other e)
  | inr d ↦ elim d [
    | inl up ↦ ap (λ (r : Ordering). ordering_then r o) (less x y up) ∙ sym (less x y up)
    | inr down ↦ ap (λ (r : Ordering). ordering_then r o) (greater x y down) ∙ sym (greater x y down)
  ]
]

-- one more on both sides
both_more : (m n : ℕ) → nat_cmp m n ≡ nat_cmp (suc m) (suc n)
both_more m n = elim (cases_order m n) [
  | inl e ↦ equal m n e ∙ sym (equal (suc m) (suc n) (omega arith))
  | inr d ↦ elim d [
    | inl up ↦ less m n up ∙ sym (less (suc m) (suc n) (omega arith))
    | inr down ↦ greater m n down ∙ sym (greater (suc m) (suc n) (omega arith))
  ]
]

itself : (xs : List ℕ) → path_cmp xs xs ≡ Equal
itself [] = refl
itself (x ∷ xs) = ap (λ (r : Ordering). ordering_then r (path_cmp xs xs)) (equal x x refl) ∙ itself xs

-- ---- the same front

-- so many bytes in front are the same
pub record SameFront (a b : List ℕ) (n : ℕ) : Type 0 where
  pub front : take n a ≡ take n b

pub no_front : (a b : List ℕ) → SameFront a b 0
no_front a b = record { front = refl }

-- and fewer of them
pub shorter : (a b : List ℕ) (m n : ℕ) → m ≤ n → SameFront a b n → SameFront a b m
shorter a b m n most same = record {
  front = sym (take-take m n a most) ∙ ap (take m) same.front ∙ take-take m n b most;
}

-- what is behind decides
behind : (a b : List ℕ) (n : ℕ) → SameFront a b n → path_cmp a b ≡ path_cmp (drop n a) (drop n b)
behind a b n same =
    ap₂ path_cmp (sym (take-append-drop n a)) (sym (take-append-drop n b))
    ∙ prefixes (take n a) (take n b) (drop n a) (drop n b) (ap (λ (l : List ℕ). length l) same.front)
    ∙ ap (λ (r : Ordering). ordering_then r (path_cmp (drop n a) (drop n b))) (ap (path_cmp (take n a)) (sym same.front) ∙ itself (take n a))

-- one that ends there is below the other, if that goes on
pub ended : (a b : List ℕ) (n : ℕ) → n ≡ min (length a) (length b) → SameFront a b n → nat_cmp (length a) (length b) ≡ path_cmp a b
ended [] [] n is same = refl
ended [] (y ∷ b) n is same = less 0 (length (y ∷ b)) (omega arith)
ended (x ∷ a) [] n is same = greater (length (x ∷ a)) 0 (omega arith)
ended (x ∷ a) (y ∷ b) zero is same = absurd (omega (arith, is))
ended (x ∷ a) (y ∷ b) (suc n) is same =
    let first : x ≡ y = cc (same.front) in
    let rest : take n a ≡ take n b = cc (same.front) in
    sym (both_more (length a) (length b))
    ∙ ended a b n (omega (arith, is)) (record { front = rest })
    ∙ sym (ap (λ (r : Ordering). ordering_then r (path_cmp a b)) (equal x y first))

-- ---- one byte

module _ (a b : List ℕ) (n : ℕ) (within : n < length a) (inside : n < length b) (same : SameFront a b n) where
  -- that differs
  pub byte_decides : get_or a n 0 ≢ get_or b n 0 → nat_cmp (get_or a n 0) (get_or b n 0) ≡ path_cmp a b
  byte_decides other =
      sym (decided (get_or a n 0) (get_or b n 0) (path_cmp (drop (n + 1) a) (drop (n + 1) b)) other)
      ∙ sym (ap₂ path_cmp (drop_more a n 0 within) (drop_more b n 0 inside))
      ∙ sym (behind a b n same)

-- ---- eight bytes

drop_bytes : (n : ℕ) (xs : List ℕ) → AreBytes xs → AreBytes (drop n xs)
drop_bytes n xs b i = subst (λ (x : ℕ). x < 256) (sym (get_or-drop n xs i 0)) (b (n + i))

take_bytes : (n : ℕ) (xs : List ℕ) → AreBytes xs → AreBytes (take n xs)
take_bytes zero xs b i = omega arith
take_bytes (suc n) [] b i = b i
take_bytes (suc n) (x ∷ xs) b zero = b 0
take_bytes (suc n) (x ∷ xs) b (suc i) = take_bytes n xs (λ k. b (suc k)) i

module _ (xs : List ℕ) (n : ℕ) (within : n + 8 ≤ length xs) where
  word_count : length (slice_range xs n (n + 8)) ≡ 8
  word_count = length-take-le (n + 8 - n) (drop n xs) (omega (arith, length-drop n xs, within)) ∙ omega arith

  -- the front with the word behind it
  front_more : take (n + 8) xs ≡ take n xs ++ slice_range xs n (n + 8)
  front_more =
      sym (take-append-drop n (take (n + 8) xs))
      ∙ ap₂ (λ (f g : List ℕ). f ++ g) (take-take n (n + 8) xs (omega arith)) (drop-take n 8 xs ∙ ap (λ (k : ℕ). take k (drop n xs)) {x = 8} (omega arith))

module _ (a b : List ℕ) (n : ℕ) (within : n + 8 ≤ length a) (inside : n + 8 ≤ length b) (are : AreBytes a) (be : AreBytes b) (x y : ℕ)
    (is : x ≡ big 0 (slice_range a n (n + 8))) (it : y ≡ big 0 (slice_range b n (n + 8))) where
  abbrev one : List ℕ
  one = slice_range a n (n + 8)

  abbrev two : List ℕ
  two = slice_range b n (n + 8)

  as_many : length one ≡ length two
  as_many = word_count a n within ∙ sym (word_count b n inside)

  word_order : nat_cmp x y ≡ path_cmp one two
  word_order =
      ap₂ nat_cmp is it
      ∙ spelled one two 0 0 as_many (take_bytes (n + 8 - n) (drop n a) (drop_bytes n a are)) (take_bytes (n + 8 - n) (drop n b) (drop_bytes n b be))

  module _ (same : SameFront a b n) where
    -- that differ
    pub word_decides : x ≢ y → nat_cmp x y ≡ path_cmp a b
    word_decides other =
        let after : Ordering = path_cmp (drop (n + 8) a) (drop (n + 8) b) in
        sym (decided x y after other)
        ∙ ap (λ (r : Ordering). ordering_then r after) word_order
        ∙ sym (prefixes one two (drop (n + 8) a) (drop (n + 8) b) as_many)
        ∙ sym (ap₂ path_cmp (drop_split a n (n + 8) (omega arith)) (drop_split b n (n + 8) (omega arith)))
        ∙ sym (behind a b n same)

    -- that are one
    pub word_same : x ≡ y → SameFront a b (n + 8)
    word_same eq =
        let words : one ≡ two = path_cmp-IsAntisymmetric one two (sym word_order ∙ equal x y eq) in
        record { front = front_more a n within ∙ ap₂ (λ (f g : List ℕ). f ++ g) same.front words ∙ sym (front_more b n inside) }
