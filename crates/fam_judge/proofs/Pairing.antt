-- Lists of pairs of which one changes.
use Prim.Native.Nat.{zero, suc}
use Rattle.std.proofs.Common.{◌≡◌, ◌≢◌, ℕ, List, [], ◌∷◌, ◌++◌, Some, refl, subst}
use Rattle.std.specs.Prelude.{slice_get}
use Rattle.std.proofs.lemmas.Option.{same_Some}
use Rattle.fam_journal.specs.Members.{changed_at}
use Rattle.fam_journal.specs.Shapes.{Pairs}

no_next : (i : ℕ) → suc i ≡ zero → ⊥
no_next i e = cc

no_first : (i : ℕ) → zero ≡ suc i → ⊥
no_first i e = cc

next_same : (i j : ℕ) → suc i ≡ suc j → i ≡ j
next_same i j e = cc

module _ {A B : Type 0} (P Q : A → B → Type 0) where
  -- each pair stays one
  pub pairs_all : (xs : List A) (ys : List B) → Pairs P xs ys → ((i : ℕ) (x : A) (y : B) → slice_get xs i ≡ Some x → slice_get ys i ≡ Some y → P x y → Q x y) → Pairs Q xs ys
  pairs_all [] [] pairs each = tt
  pairs_all [] (y ∷ ys) pairs each = absurd pairs
  pairs_all (x ∷ xs) [] pairs each = absurd pairs
  pairs_all (x ∷ xs) (y ∷ ys) pairs each = (each zero x y refl refl pairs.0, pairs_all xs ys pairs.1 (λ i. each (suc i)))

  -- one pair changes, and the others stay such
  pub pairs_step : (xs : List A) (ys : List B) (h : ℕ) (f : A → A) (g : B → B) → Pairs P xs ys
      → ((i : ℕ) (x : A) (y : B) → i ≢ h → slice_get xs i ≡ Some x → slice_get ys i ≡ Some y → P x y → Q x y)
      → ((x : A) (y : B) → slice_get xs h ≡ Some x → slice_get ys h ≡ Some y → P x y → Q (f x) (g y)) → Pairs Q (changed_at h f xs) (changed_at h g ys)
  pairs_step [] [] h f g pairs others mine = tt
  pairs_step [] (y ∷ ys) h f g pairs others mine = absurd pairs
  pairs_step (x ∷ xs) [] h f g pairs others mine = absurd pairs
  pairs_step (x ∷ xs) (y ∷ ys) zero f g pairs others mine =
      (mine x y refl refl pairs.0, pairs_all xs ys pairs.1 (λ i a b. others (suc i) a b (no_next i)))
  pairs_step (x ∷ xs) (y ∷ ys) (suc h) f g pairs others mine =
      (others zero x y (no_first h) refl refl pairs.0, pairs_step xs ys h f g pairs.1 (λ i a b ne. others (suc i) a b (λ e. ne (next_same i h e))) mine)

  -- one more pair
  pub pairs_more : (xs : List A) (ys : List B) (x : A) (y : B) → Pairs P xs ys
      → ((i : ℕ) (x : A) (y : B) → slice_get xs i ≡ Some x → slice_get ys i ≡ Some y → P x y → Q x y) → Q x y → Pairs Q (xs ++ x ∷ []) (ys ++ y ∷ [])
  pairs_more [] [] x y pairs each new = (new, tt)
  pairs_more [] (b ∷ ys) x y pairs each new = absurd pairs
  pairs_more (a ∷ xs) [] x y pairs each new = absurd pairs
  pairs_more (a ∷ xs) (b ∷ ys) x y pairs each new = (each zero a b refl refl pairs.0, pairs_more xs ys x y pairs.1 (λ i. each (suc i)) new)

-- the other one of a pair
pub paired : {A B : Type 0} (P : A → B → Type 0) (xs : List A) (ys : List B) (h : ℕ) (y : B) → Pairs P xs ys → slice_get ys h ≡ Some y
    → (x : A) × (slice_get xs h ≡ Some x) × P x y
paired P [] [] h y pairs is = absurd cc
paired P [] (b ∷ ys) h y pairs is = absurd pairs
paired P (a ∷ xs) [] h y pairs is = absurd pairs
paired P (a ∷ xs) (b ∷ ys) zero y pairs is = (a, refl, subst (P a) (same_Some b y is) pairs.0)
paired P (a ∷ xs) (b ∷ ys) (suc h) y pairs is = paired P xs ys h y pairs.1 is
