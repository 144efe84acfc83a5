-- One name of eight bytes or more is a path.
use Rattle.std.proofs.Common.{◌≡◌, ℕ, zero, suc, ◌+◌, ◌-◌, ◌<◌, ◌≤◌, Bool, true, false, ◌&&◌, List, [], ◌∷◌, length, get_or, take, drop, refl, sym, ap, ◌∙◌, arith, inl, inr}
use Rattle.std.proofs.lemmas.Bool.{cases_lt, false≢true}
use Rattle.std.proofs.lemmas.List.{get_or-drop, get_or-take, take_all}
use Rattle.std.proofs.lemmas.List.Elements.{All-nil}
use Rattle.std.specs.List.{list_all}
use Rattle.fam_base.specs.Paths.{is_name, is_path, has_no_nul, names}
use Rattle.fam_base.proofs.PathLemmas.{path_of_parts}
use Rattle.fam_base.proofs.PathTests.{Passed, part, byte_passed, all_passed}

-- the bytes that were looked at are no 0 and no slash
module _ (bytes : List ℕ) (fits : (k : ℕ) → get_or bytes k 0 < 256) (some : (k : ℕ) → k < length bytes → get_or bytes k 0 ≡ 0 → ⊥) (none : (k : ℕ) → k < length bytes → get_or bytes k 0 ≡ 47 → ⊥) where
  passed : (n : ℕ) → n ≤ length bytes → Passed bytes 0 n
  passed zero within = record { within = omega arith; no_nul = refl; name = All-nil _; names = refl }
  passed (suc n) within =
      let e : n + 1 ≡ suc n = omega arith in
      rw (← e) (byte_passed bytes 0 n (passed n (omega arith)) (omega arith) (fits n) (some n (omega arith)) (none n (omega arith)))

  whole : part bytes 0 (length bytes) ≡ bytes
  whole = take_all (length bytes - 0) bytes (omega arith)

  left_true : (a b : Bool) → (a && b) ≡ true → a ≡ true
  left_true true b h = refl
  left_true false b h = h

  right_true : (a b : Bool) → (a && b) ≡ true → b ≡ true
  right_true true b h = h
  right_true false b h = absurd (false≢true h)

  long_name : (xs : List ℕ) → 8 ≤ length xs → is_name xs ≡ true
  long_name [] long = absurd (omega arith)
  long_name (a ∷ []) long = absurd (omega arith)
  long_name (a ∷ b ∷ []) long = absurd (omega arith)
  long_name (a ∷ b ∷ c ∷ rest) long = refl

  pub long_path : 8 ≤ length bytes → length bytes ≤ 512 → is_path bytes ≡ true
  long_path long short =
      let all : (has_no_nul bytes && list_all is_name (names bytes)) ≡ true =
      sym (all_passed bytes 0 (length bytes) (passed (length bytes) (omega arith)) refl) ∙ ap is_name whole ∙ long_name bytes long in
      path_of_parts bytes (record { some = omega arith; fits = omega arith; no_nul = left_true _ _ all; names = right_true _ _ all })

-- a byte that is one of the eight from a place on
pub is_other : (bytes : List ℕ) (at k mark : ℕ) → at ≤ k → k < at + 8 → k < length bytes
    → ((j : ℕ) → j < 8 → get_or (take (length bytes - at) (drop at bytes)) j 0 ≡ mark → ⊥) → get_or bytes k 0 ≡ mark → ⊥
is_other bytes at k mark from below within each same =
    let place : at + (k - at) ≡ k = omega arith in
    each (k - at) (omega arith) (get_or-take (length bytes - at) (drop at bytes) (k - at) 0 (omega arith) ∙ get_or-drop at bytes (k - at) 0 ∙ ap (λ (m : ℕ). get_or bytes m 0) place ∙ same)

-- the bytes before a place and the eight from one at or before it on
pub eight_more : (bytes : List ℕ) (at from mark : ℕ) → from ≤ at → ((k : ℕ) → k < at → get_or bytes k 0 ≡ mark → ⊥)
    → ((j : ℕ) → j < 8 → get_or (take (length bytes - from) (drop from bytes)) j 0 ≡ mark → ⊥) → (k : ℕ) → k < from + 8 → k < length bytes
    → get_or bytes k 0 ≡ mark → ⊥
eight_more bytes at from mark order before each k below within =
    elim (cases_lt k at) [ inl low ↦ before k low | inr high ↦ is_other bytes from k mark (omega arith) below within each ]
