-- Members of lists by their places: the first that passes, found by a loop, and one that is changed.
use Rattle.std.proofs.Common.{◌≡◌, ◌≢◌, ℕ, ◌+◌, ◌<◌, ◌≤◌, Bool, true, false, List, [], ◌∷◌, length, drop, map, set, Some, None, refl, sym, ap, ◌∙◌, arith}
use Prim.Native.Nat.{zero, suc}
use Rattle.std.specs.Prelude.{slice_get, option_map, if◌then◌else◌}
use Rattle.std.proofs.lemmas.Option.{same_Some}
use Rattle.fam_mail.specs.World.{changed_member, member_place_from}

-- the member passes
pub place_here : {A : Type 0} (test : A → Bool) (xs : List A) (i at : ℕ) (x : A) → slice_get xs at ≡ Some x → test x ≡ true → member_place_from i test (drop at xs) ≡ Some i
place_here test [] i at x is e = absurd cc
place_here test (a ∷ xs) i zero x is e = ap (λ (b : Bool). if b then Some i else member_place_from (i + 1) test xs) (ap test (same_Some a x is) ∙ e)
place_here test (a ∷ xs) i (suc at) x is e = place_here test xs i at x is e

-- the member doesn't
next_suc : {A : Type 0} (test : A → Bool) (xs : List A) (i at : ℕ) (x : A) → slice_get xs at ≡ Some x → test x ≡ false
    → member_place_from i test (drop at xs) ≡ member_place_from (i + 1) test (drop (suc at) xs)
next_suc test [] i at x is e = absurd cc
next_suc test (a ∷ xs) i zero x is e = ap (λ (b : Bool). if b then Some i else member_place_from (i + 1) test xs) (ap test (same_Some a x is) ∙ e)
next_suc test (a ∷ xs) i (suc at) x is e = next_suc test xs i at x is e

-- a member that doesn't pass is gone over in the search for the first that does
pub place_next : {A : Type 0} (test : A → Bool) (xs : List A) (i at : ℕ) (x : A) → slice_get xs at ≡ Some x → test x ≡ false
    → member_place_from i test (drop at xs) ≡ member_place_from (i + 1) test (drop (at + 1) xs)
place_next test xs i at x is e =
    let one : suc at ≡ at + 1 = omega arith in
    next_suc test xs i at x is e ∙ ap (λ (n : ℕ). member_place_from (i + 1) test (drop n xs)) one

-- there is none
pub place_past : {A : Type 0} (test : A → Bool) (xs : List A) (i at : ℕ) → length xs ≤ at → member_place_from i test (drop at xs) ≡ None
place_past test [] i zero past = refl
place_past test [] i (suc at) past = refl
place_past test (a ∷ xs) i zero past = absurd (omega (arith, past))
place_past test (a ∷ xs) i (suc at) past = place_past test xs i at (omega (arith, past))

-- a member of a list, and how it looks
pub map_at : {A B : Type 0} (f : A → B) (xs : List A) (at : ℕ) (x : A) → slice_get xs at ≡ Some x → slice_get (map f xs) at ≡ Some (f x)
map_at f [] at x is = absurd cc
map_at f (a ∷ xs) zero x is = ap (option_map f) is
map_at f (a ∷ xs) (suc at) x is = map_at f xs at x is

-- a list of which one member is written
pub map_set : {A B : Type 0} (f : A → B) (g : B → B) (xs : List A) (at : ℕ) (y x : A) → slice_get xs at ≡ Some x → f y ≡ g (f x) → map f (set xs at y) ≡ changed_member at g (map f xs)
map_set f g [] at y x is e = absurd cc
map_set f g (a ∷ xs) zero y x is e = ap (λ z. z ∷ map f xs) (e ∙ ap (λ w. g (f w)) (sym (same_Some a x is)))
map_set f g (a ∷ xs) (suc at) y x is e = ap (λ zs. f a ∷ zs) (map_set f g xs at y x is e)

-- with one that looks the same
pub map_same : {A B : Type 0} (f : A → B) (xs : List A) (at : ℕ) (y x : A) → slice_get xs at ≡ Some x → f y ≡ f x → map f (set xs at y) ≡ map f xs
map_same f [] at y x is e = absurd cc
map_same f (a ∷ xs) zero y x is e = ap (λ z. z ∷ map f xs) (e ∙ ap f (sym (same_Some a x is)))
map_same f (a ∷ xs) (suc at) y x is e = ap (λ zs. f a ∷ zs) (map_same f xs at y x is e)

-- there is a member at a place within
pub member_at : {A : Type 0} (xs : List A) (at : ℕ) → at < length xs → (x : A) × (slice_get xs at ≡ Some x)
member_at [] at below = absurd (omega (arith, below))
member_at (x ∷ xs) zero below = (x, refl)
member_at (x ∷ xs) (suc at) below = member_at xs at (omega (arith, below))

-- the changed member
pub changed_here : {A : Type 0} (i : ℕ) (f : A → A) (xs : List A) (x : A) → slice_get xs i ≡ Some x → slice_get (changed_member i f xs) i ≡ Some (f x)
changed_here i f [] x is = absurd cc
changed_here zero f (y ∷ xs) x is = ap (option_map f) is
changed_here (suc i) f (y ∷ xs) x is = changed_here i f xs x is

-- the others
pub changed_other : {A : Type 0} (i j : ℕ) (f : A → A) (xs : List A) → j ≢ i → slice_get (changed_member i f xs) j ≡ slice_get xs j
changed_other i j f [] ne = refl
changed_other zero zero f (x ∷ xs) ne = absurd (ne refl)
changed_other zero (suc j) f (x ∷ xs) ne = refl
changed_other (suc i) zero f (x ∷ xs) ne = refl
changed_other (suc i) (suc j) f (x ∷ xs) ne = changed_other i j f xs (λ e. ne (ap suc e))

-- a test that a change keeps finds the same place
pub index_changed : {A : Type 0} (test : A → Bool) (f : A → A) → ((x : A) → test (f x) ≡ test x) → (n i : ℕ) (xs : List A)
    → member_place_from n test (changed_member i f xs) ≡ member_place_from n test xs
index_changed test f same n i [] = refl
index_changed test f same n zero (x ∷ xs) = ap (λ (b : Bool). if b then Some n else member_place_from (n + 1) test xs) (same x)
index_changed test f same n (suc i) (x ∷ xs) = ap (λ r. if test x then Some n else r) (index_changed test f same (n + 1) i xs)
