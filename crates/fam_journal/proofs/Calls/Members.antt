-- Members of a list of which one is changed.
use Rattle.std.proofs.Common.{◌≡◌, ◌≢◌, ℕ, zero, suc, List, [], ◌∷◌, Some, refl, sym, ap, ◌∙◌}
use Rattle.std.specs.Prelude.{option_map, slice_get}
use Rattle.std.proofs.lemmas.Option.{same_Some}
use Rattle.fam_journal.specs.Members.{changed_at}

-- the changed one
pub changed_here : {A : Type 0} (i : ℕ) (f : A → A) (xs : List A) → slice_get (changed_at i f xs) i ≡ option_map f (slice_get xs i)
changed_here i f [] = refl
changed_here zero f (x ∷ xs) = refl
changed_here (suc i) f (x ∷ xs) = changed_here i f xs

-- the others
pub changed_other : {A : Type 0} (i j : ℕ) (f : A → A) (xs : List A) → j ≢ i → slice_get (changed_at i f xs) j ≡ slice_get xs j
changed_other i j f [] ne = refl
changed_other zero zero f (x ∷ xs) ne = absurd (ne refl)
changed_other zero (suc j) f (x ∷ xs) ne = refl
changed_other (suc i) zero f (x ∷ xs) ne = refl
changed_other (suc i) (suc j) f (x ∷ xs) ne = changed_other i j f xs (λ e. ne (ap suc e))

-- where there is one
pub changed_at_member : {A : Type 0} (i : ℕ) (f : A → A) (xs : List A) (x : A) → slice_get xs i ≡ Some x → slice_get (changed_at i f xs) i ≡ Some (f x)
changed_at_member i f xs x is = changed_here i f xs ∙ ap (option_map f) is

-- two changes that make the same of the one that is there
pub changed_alike : {A : Type 0} (i : ℕ) (f g : A → A) (xs : List A) (x : A) → slice_get xs i ≡ Some x → f x ≡ g x → changed_at i f xs ≡ changed_at i g xs
changed_alike i f g [] x is same = refl
changed_alike zero f g (y ∷ xs) x is same =
    let here : y ≡ x = same_Some y x is in ap (λ z. z ∷ xs) (ap f here ∙ same ∙ ap g (sym here))
changed_alike (suc i) f g (y ∷ xs) x is same = ap (λ zs. y ∷ zs) (changed_alike i f g xs x is same)
