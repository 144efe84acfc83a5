-- Hosts of which one is written: how they look, and what stays of all of them.
use Rattle.std.proofs.Common.{◌≡◌, ℕ, inl, inr, set, List, [], ◌∷◌, length, map, Some, refl, ap, sym, ◌∙◌, subst}
use Prim.Native.Nat.{zero, suc}
use Rattle.std.specs.Prelude.{slice_get, option_map}
use Rattle.std.proofs.lemmas.Bool.{cases_eq}
use Rattle.std.proofs.lemmas.Option.{same_Some}
use Rattle.fam_journal.specs.CallRecords.{FitsMedia, HostFits}
use Rattle.fam_journal.specs.Shapes.{HostShape, HostShaped, Pairs}
use Rattle.fam_journal.specs.Members.{changed_at}
use Rattle.fam_journal.specs.View.{HostView}
use Rattle.fam_journal.proofs.Calls.Members.{changed_at_member, changed_other}

-- a member of a list, and how it looks
pub map_at : {A B : Type 0} (f : A → B) (xs : List A) (at : ℕ) (x : A) → slice_get xs at ≡ Some x → slice_get (map f xs) at ≡ Some (f x)
map_at f [] at x is = absurd cc
map_at f (a ∷ xs) zero x is = ap (option_map f) is
map_at f (a ∷ xs) (suc at) x is = map_at f xs at x is

-- a list of which one member is written
pub map_set : {A B : Type 0} (f : A → B) (g : B → B) (xs : List A) (at : ℕ) (y x : A) → slice_get xs at ≡ Some x → f y ≡ g (f x) → map f (set xs at y) ≡ changed_at at g (map f xs)
map_set f g [] at y x is e = absurd cc
map_set f g (a ∷ xs) zero y x is e = ap (λ z. z ∷ map f xs) (e ∙ ap (λ w. g (f w)) (sym (same_Some a x is)))
map_set f g (a ∷ xs) (suc at) y x is e = ap (λ zs. f a ∷ zs) (map_set f g xs at y x is e)

-- with one that looks the same
pub map_same : {A B : Type 0} (f : A → B) (xs : List A) (at : ℕ) (y x : A) → slice_get xs at ≡ Some x → f y ≡ f x → map f (set xs at y) ≡ map f xs
map_same f [] at y x is e = absurd cc
map_same f (a ∷ xs) zero y x is e = ap (λ z. z ∷ map f xs) (e ∙ ap f (sym (same_Some a x is)))
map_same f (a ∷ xs) (suc at) y x is e = ap (λ zs. f a ∷ zs) (map_same f xs at y x is e)

-- what a change keeps of each member
pub map_kept : {A B : Type 0} (f : A → B) (g : A → A) → ((x : A) → f (g x) ≡ f x) → (at : ℕ) (xs : List A) → map f (changed_at at g xs) ≡ map f xs
map_kept f g same at [] = refl
map_kept f g same zero (x ∷ xs) = ap (λ y. y ∷ map f xs) (same x)
map_kept f g same (suc at) (x ∷ xs) = ap (λ ys. f x ∷ ys) (map_kept f g same at xs)

pub length_kept : {A : Type 0} (g : A → A) (at : ℕ) (xs : List A) → length (changed_at at g xs) ≡ length xs
length_kept g at [] = refl
length_kept g zero (x ∷ xs) = refl
length_kept g (suc at) (x ∷ xs) = ap suc (length_kept g at xs)

-- the notes before don't see a change that keeps name, UUID and task
pub shapes_kept : (g : HostView → HostView) → ((v : HostView) (f : HostShape) → HostShaped v f → HostShaped (g v) f)
    → (at : ℕ) (xs : List HostView) (shapes : List HostShape) → Pairs HostShaped xs shapes → Pairs HostShaped (changed_at at g xs) shapes
shapes_kept g each at [] [] all = tt
shapes_kept g each at [] (f ∷ shapes) all = absurd all
shapes_kept g each at (v ∷ xs) [] all = absurd all
shapes_kept g each zero (v ∷ xs) (f ∷ shapes) all = (each v f all.0, all.1)
shapes_kept g each (suc at) (v ∷ xs) (f ∷ shapes) all = (all.0, shapes_kept g each at xs shapes all.1)

-- all lines fit the media still, where those of the one do
pub fits_kept : (lines at : ℕ) (g : HostView → HostView) (xs : List HostView) (view : HostView) → slice_get xs at ≡ Some view
    → (HostFits lines view → HostFits lines (g view)) → FitsMedia lines xs → FitsMedia lines (changed_at at g xs)
fits_kept lines at g xs view is here all k v v_is =
    elim (cases_eq k at) [
      | inl e ↦
          subst (HostFits lines) (same_Some (g view) v (sym (changed_at_member at g xs view is) ∙ ap (λ (n : ℕ). slice_get (changed_at at g xs) n) (sym e) ∙ v_is)) (here (all at view is))
      | inr ne ↦ all k v (sym (changed_other at k g xs ne) ∙ v_is)
    ]

-- a member that is put where it stands
pub put_own : {A : Type 0} (at : ℕ) (x : A) (xs : List A) → slice_get xs at ≡ Some x → changed_at at (λ v. x) xs ≡ xs
put_own at x [] is = refl
put_own {A = A} zero x (y ∷ xs) is = ap (λ (z : A). z ∷ xs) (sym (same_Some y x is))
put_own {A = A} (suc at) x (y ∷ xs) is = ap (λ (zs : List A). y ∷ zs) (put_own at x xs is)

-- of two that are put behind each other the second stays
pub put_twice : {A : Type 0} (at : ℕ) (x y : A) (xs : List A) → changed_at at (λ v. y) (changed_at at (λ v. x) xs) ≡ changed_at at (λ v. y) xs
put_twice at x y [] = refl
put_twice zero x y (z ∷ xs) = refl
put_twice {A = A} (suc at) x y (z ∷ xs) = ap (λ (zs : List A). z ∷ zs) (put_twice at x y xs)
