-- The first of a list that passes a test.
use Rattle.std.proofs.Common.{◌≡◌, ℕ, zero, suc, ◌+◌, ◌<◌, Bool, true, false, cond, List, [], ◌∷◌, ◌++◌, length, take, get_or, find, Option, Some, None, refl, sym, ap, ap₂, ◌∙◌, arith}
use Rattle.std.specs.Option.{option_or}
use Rattle.std.proofs.lemmas.List.{take_more}
use Rattle.std.proofs.lemmas.List.Folds.{find-append}

module _ {X : Type 0} (p : X → Bool) where
  -- one more fails
  pub none_more : (xs : List X) (i : ℕ) (x : X) → i < length xs → get_or xs i x ≡ x → p x ≡ false → find p (take i xs) ≡ None → find p (take (i + 1) xs) ≡ None
  none_more xs i x below at fails none =
      ap (find p) (take_more xs i x below ∙ ap (λ (y : X). take i xs ++ y ∷ []) at)
      ∙ find-append p (take i xs) (x ∷ [])
      ∙ ap₂ (λ (o : Option X) (b : Bool). option_or o (cond b (Some x) None)) none fails

  -- the first passes
  first_passes : (xs : List X) (x : X) → p x ≡ true → find p (x ∷ xs) ≡ Some x
  first_passes xs x is = ap (λ (b : Bool). cond b (Some x) (find p xs)) is

  -- the first doesn't
  first_fails : (b : Bool) (x : X) (o : Option X) → cond b (Some x) o ≡ None → b ≡ false
  first_fails true x o none = absurd (let e = none in cc)
  first_fails false x o none = refl

  -- the next one passes
  pub found_next : (xs : List X) (n i : ℕ) (x : X) → i < n → i < length xs → get_or xs i x ≡ x → p x ≡ true → find p (take i xs) ≡ None → find p (take n xs) ≡ Some x
  found_next [] n i x inside below at passes none = absurd (omega arith)
  found_next (y ∷ xs) zero i x inside below at passes none = absurd (omega arith)
  found_next (y ∷ xs) (suc n) zero x inside below at passes none = ap (λ (z : X). find p (z ∷ take n xs)) at ∙ first_passes (take n xs) x passes
  found_next (y ∷ xs) (suc n) (suc i) x inside below at passes none =
      let fails : p y ≡ false = first_fails (p y) y (find p (take i xs)) none in
      ap (λ (b : Bool). cond b (Some y) (find p (take n xs))) fails
      ∙ found_next xs n i x (omega arith) (omega arith) at passes (sym (ap (λ (b : Bool). cond b (Some y) (find p (take i xs))) fails) ∙ none)
