-- Lists of which a member changes, or that one more joins, and the places that tests find in them.
use Prim.Native.Nat.{zero, suc}
use Rattle.std.proofs.Common.{◌≡◌, ◌≢◌, ◌+◌, ◌≤◌, ◌<◌, ℕ, Bool, true, false, List, [], ◌∷◌, ◌++◌, length, map, Option, Some, None, refl, ap, ◌∙◌, arith}
use Rattle.std.specs.Prelude.{if◌then◌else◌, slice_get}
use Rattle.std.proofs.lemmas.List.{length-append}
use Rattle.std.proofs.lemmas.Option.{same_Some}
use Rattle.fam_journal.specs.Members.{changed_at, index_from}
use Rattle.fam_journal.proofs.Calls.WorldRows.{place_found}

-- Members.

-- changes of two members come in either order
pub changed_apart : {A : Type 0} (i j : ℕ) (f g : A → A) (xs : List A) → i ≢ j → changed_at i f (changed_at j g xs) ≡ changed_at j g (changed_at i f xs)
changed_apart i j f g [] ne = refl
changed_apart zero zero f g (x ∷ xs) ne = absurd (ne refl)
changed_apart zero (suc j) f g (x ∷ xs) ne = refl
changed_apart (suc i) zero f g (x ∷ xs) ne = refl
changed_apart (suc i) (suc j) f g (x ∷ xs) ne = ap (λ l. x ∷ l) (changed_apart i j f g xs (λ e. ne (ap suc e)))

-- and so do a change and a new member
pub changed_append : {A : Type 0} (i : ℕ) (f : A → A) (xs : List A) (y : A) → i < length xs → changed_at i f (xs ++ y ∷ []) ≡ changed_at i f xs ++ y ∷ []
changed_append i f [] y below = absurd (omega (arith, below))
changed_append zero f (x ∷ xs) y below = refl
changed_append (suc i) f (x ∷ xs) y below = ap (λ l. x ∷ l) (changed_append i f xs y (omega (arith, below)))

-- a change leaves as many
pub changed_count : {A : Type 0} (i : ℕ) (f : A → A) (xs : List A) → length (changed_at i f xs) ≡ length xs
changed_count i f [] = refl
changed_count zero f (x ∷ xs) = refl
changed_count (suc i) f (x ∷ xs) = ap suc (changed_count i f xs)

-- a new member makes one more
pub count_last : {A : Type 0} (xs : List A) (y : A) → length (xs ++ y ∷ []) ≡ length xs + 1
count_last xs y = length-append xs (y ∷ [])

-- what changes nothing
pub changed_same : {A : Type 0} (i : ℕ) (f : A → A) (xs : List A) → ((x : A) → slice_get xs i ≡ Some x → f x ≡ x) → changed_at i f xs ≡ xs
changed_same i f [] same = refl
changed_same zero f (x ∷ xs) same = ap (λ y. y ∷ xs) (same x refl)
changed_same (suc i) f (x ∷ xs) same = ap (λ l. x ∷ l) (changed_same i f xs same)

-- a member stays behind a new one
pub front_member : {A : Type 0} (i : ℕ) (xs : List A) (y : A) → i < length xs → slice_get (xs ++ y ∷ []) i ≡ slice_get xs i
front_member i [] y below = absurd (omega (arith, below))
front_member zero (x ∷ xs) y below = refl
front_member (suc i) (x ∷ xs) y below = front_member i xs y (omega (arith, below))

-- a change that is seen as a change of what is seen
pub map_changed : {A B : Type 0} (g : A → B) (i : ℕ) (f : A → A) (k : B → B) → ((x : A) → g (f x) ≡ k (g x)) → (xs : List A)
    → map g (changed_at i f xs) ≡ changed_at i k (map g xs)
map_changed g i f k same [] = refl
map_changed g zero f k same (x ∷ xs) = ap (λ y. y ∷ map g xs) (same x)
map_changed g (suc i) f k same (x ∷ xs) = ap (λ l. g x ∷ l) (map_changed g i f k same xs)

-- Places. The members are seen by g.

-- the first member passes, or the place is one of the rest's
by_test : (b : Bool) (i k : ℕ) (old new : Option ℕ) → (old ≡ Some k → new ≡ Some k) → (if b then Some i else old) ≡ Some k → (if b then Some i else new) ≡ Some k
by_test true i k old new rest e = e
by_test false i k old new rest e = rest e

module _ {A B : Type 0} (g : A → B) (t : B → Bool) where
  -- a change that the test doesn't see
  pub place_kept : (h : ℕ) (f : A → A) → ((x : A) → t (g (f x)) ≡ t (g x)) → (xs : List A) (i : ℕ) → index_from i t (map g (changed_at h f xs)) ≡ index_from i t (map g xs)
  place_kept h f same [] i = refl
  place_kept zero f same (x ∷ xs) i = ap (λ (b : Bool). if b then Some i else index_from (i + 1) t (map g xs)) (same x)
  place_kept (suc h) f same (x ∷ xs) i = ap (λ (o : Option ℕ). if t (g x) then Some i else o) (place_kept h f same xs (i + 1))

  -- a place before a new member was found before it
  pub place_front : (xs : List A) (y : A) (i k : ℕ) → k < i + length xs → index_from i t (map g (xs ++ y ∷ [])) ≡ Some k → index_from i t (map g xs) ≡ Some k
  place_front [] y i k below e = by (t (g y)) e
    where
      by : (b : Bool) → (if b then Some i else None) ≡ Some k → None ≡ Some k
      by true e = let same : i ≡ k = same_Some i k e in absurd (omega (arith, below, same))
      by false e = e
  place_front (x ∷ xs) y i k below e = by_test (t (g x)) i k _ _ (place_front xs y (i + 1) k (omega (arith, below))) e

  -- a place stays behind a new member
  pub place_more : (xs : List A) (y : A) (i k : ℕ) → index_from i t (map g xs) ≡ Some k → index_from i t (map g (xs ++ y ∷ [])) ≡ Some k
  place_more [] y i k e = absurd cc
  place_more (x ∷ xs) y i k e = by_test (t (g x)) i k _ _ (place_more xs y (i + 1) k) e

  -- a first place that is h at most stays the first one where h passes
  pub place_first : (h : ℕ) (f k : A → A) (xs : List A) (i j : ℕ) → ((x : A) → slice_get xs h ≡ Some x → t (g (f x)) ≡ true) → j ≤ i + h
      → index_from i t (map g (changed_at h k xs)) ≡ Some j → index_from i t (map g (changed_at h f xs)) ≡ Some j
  place_first h f k [] i j passes below e = e
  place_first zero f k (y ∷ xs) i j passes below e =
      let found = place_found t (map g (k y ∷ xs)) i j e in
      let at : j ≡ i + found.k = found.at in
      let same : i ≡ j = omega (arith, at, below) in
      ap (λ (b : Bool). if b then Some i else index_from (i + 1) t (map g xs)) (passes y refl) ∙ ap Some same
  place_first (suc h) f k (y ∷ xs) i j passes below e = by_test (t (g y)) i j _ _ (place_first h f k xs (i + 1) j passes (omega (arith, below))) e
