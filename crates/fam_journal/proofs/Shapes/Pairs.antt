-- Two lists of which each two members of a place are such: when one member changes, or one is added.
use Prim.Native.Nat.{zero, suc}
use Rattle.std.proofs.Common.{◌≡◌, ◌≢◌, ℕ, ◌+◌, ◌<◌, Bool, true, false, List, [], ◌∷◌, ◌++◌, length, Some, refl, ap, sym, subst, arith}
use Rattle.std.specs.Prelude.{slice_get, not, ◌==◌, ◌&&◌, nat_lt, if◌then◌else◌}
use Rattle.std.proofs.lemmas.Bool.Decides.{nat_tests}
use Rattle.std.proofs.lemmas.Option.{same_Some}
use Rattle.fam_journal.specs.Calls.{dirty_from}
use Rattle.fam_machine.specs.Caches.{dirty_count}
use Rattle.fam_journal.specs.Shapes.{Pairs}
use Rattle.fam_journal.specs.Machines.{HostState}
use Rattle.fam_journal.specs.Members.{changed_at}

module _ {A B : Type 0} (P : A → B → Type 0) where
  pub pairs_last : (xs : List A) (ys : List B) (x : A) (y : B) → Pairs P xs ys → P x y → Pairs P (xs ++ x ∷ []) (ys ++ y ∷ [])
  pairs_last [] [] x y all is = (is, tt)
  pairs_last [] (b ∷ ys) x y all is = absurd all
  pairs_last (a ∷ xs) [] x y all is = absurd all
  pairs_last (a ∷ xs) (b ∷ ys) x y all is = (all.0, pairs_last xs ys x y all.1 is)

  pub pairs_length : (xs : List A) (ys : List B) → Pairs P xs ys → length xs ≡ length ys
  pairs_length [] [] all = refl
  pairs_length [] (b ∷ ys) all = absurd all
  pairs_length (a ∷ xs) [] all = absurd all
  pairs_length (a ∷ xs) (b ∷ ys) all = ap suc (pairs_length xs ys all.1)

  -- the other one of a place
  pub pairs_at : (xs : List A) (ys : List B) (h : ℕ) (x : A) → Pairs P xs ys → slice_get xs h ≡ Some x → (y : B) × (slice_get ys h ≡ Some y) × P x y
  pairs_at [] [] h x all is = absurd cc
  pairs_at [] (b ∷ ys) h x all is = absurd all
  pairs_at (a ∷ xs) [] h x all is = absurd all
  pairs_at (a ∷ xs) (b ∷ ys) zero x all is = (b, refl, subst (λ (z : A). P z b) (same_Some a x is) all.0)
  pairs_at (a ∷ xs) (b ∷ ys) (suc h) x all is = pairs_at xs ys h x all.1 is

  -- both change there
  pub pairs_changed : (xs : List A) (ys : List B) (h : ℕ) (x : A) (y : B) (g : A → A) (k : B → B) → Pairs P xs ys → slice_get xs h ≡ Some x
      → slice_get ys h ≡ Some y → P (g x) (k y) → Pairs P (changed_at h g xs) (changed_at h k ys)
  pairs_changed [] [] h x y g k all x_is y_is here = absurd cc
  pairs_changed [] (b ∷ ys) h x y g k all x_is y_is here = absurd all
  pairs_changed (a ∷ xs) [] h x y g k all x_is y_is here = absurd all
  pairs_changed (a ∷ xs) (b ∷ ys) zero x y g k all x_is y_is here =
      (subst (λ (z : A). P (g z) (k b)) (sym (same_Some a x x_is)) (subst (λ (z : B). P (g x) (k z)) (sym (same_Some b y y_is)) here), all.1)
  pairs_changed (a ∷ xs) (b ∷ ys) (suc h) x y g k all x_is y_is here = (all.0, pairs_changed xs ys h x y g k all.1 x_is y_is here)

  -- only the first one changes
  pub pairs_moved : (xs : List A) (ys : List B) (h : ℕ) (x : A) (y : B) (g : A → A) → Pairs P xs ys → slice_get xs h ≡ Some x → slice_get ys h ≡ Some y → P (g x) y → Pairs P (changed_at h g xs) ys
  pairs_moved [] [] h x y g all x_is y_is here = absurd cc
  pairs_moved [] (b ∷ ys) h x y g all x_is y_is here = absurd all
  pairs_moved (a ∷ xs) [] h x y g all x_is y_is here = absurd all
  pairs_moved (a ∷ xs) (b ∷ ys) zero x y g all x_is y_is here =
      (subst (λ (z : A). P (g z) b) (sym (same_Some a x x_is)) (subst (λ (z : B). P (g x) z) (sym (same_Some b y y_is)) here), all.1)
  pairs_moved (a ∷ xs) (b ∷ ys) (suc h) x y g all x_is y_is here = (all.0, pairs_moved xs ys h x y g all.1 x_is y_is here)

-- Dirty lines.

-- the first one is another host than the maker
pub dirty_other : (maker i : ℕ) (xs : List HostState) (k : ℕ) → dirty_from maker i xs ≡ Some k → (k ≢ maker) × (k < i + length xs)
dirty_other maker i [] k is = absurd cc
dirty_other maker i (x ∷ xs) k is = by_test (i == maker) refl (nat_lt 0 (dirty_count x.cache)) (λ found. dirty_other maker (i + 1) xs k found) is
  where
    further : (k ≢ maker) × (k < (i + 1) + length xs) → (k ≢ maker) × (k < i + length (x ∷ xs))
    further rest = let below = rest.1 in (rest.0, omega (arith, below))

    by_test : (b : Bool) → (i == maker) ≡ b → (d : Bool) → (dirty_from maker (i + 1) xs ≡ Some k → (k ≢ maker) × (k < (i + 1) + length xs))
        → (if not b && d then Some i else dirty_from maker (i + 1) xs) ≡ Some k → (k ≢ maker) × (k < i + length (x ∷ xs))
    by_test true e d rest is = further (rest is)
    by_test false e false rest is = further (rest is)
    by_test false e true rest is =
        let here : i ≡ k = same_Some i k is in
        ((λ same. absurd (let differ = e in grind (arith, nat_tests, differ, here, same))), omega (arith, here))
