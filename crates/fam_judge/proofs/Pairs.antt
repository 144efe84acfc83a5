-- Lists whose members are related one by one.
use Prim.Native.Nat.{zero, suc}
use Rattle.std.proofs.Common.{◌≡◌, ℕ, Bool, true, false, List, [], ◌∷◌, map, Option, Some, None, refl}
use Rattle.std.specs.List.{AllZip}
use Rattle.std.specs.Prelude.{⊤, cond, find, slice_get, take}
use Rattle.fam_journal.specs.Members.{changed_at}

-- of one member or none, as `AllZip` has it of lists
abbrev pub Pairs : {A B : Type 0} (R : A → B → Type 0) → Option A → Option B → Type 0
Pairs R None None = ⊤
Pairs R None (Some y) = ⊥
Pairs R (Some x) None = ⊥
Pairs R (Some x) (Some y) = R x y

module _ {A B : Type 0} (R : A → B → Type 0) where
  -- the first n
  pub pairs_take : (n : ℕ) (xs : List A) (ys : List B) → AllZip R xs ys → AllZip R (take n xs) (take n ys)
  pairs_take zero xs ys both = tt
  pairs_take (suc n) [] [] both = tt
  pairs_take (suc n) [] (y ∷ ys) both = absurd both
  pairs_take (suc n) (x ∷ xs) [] both = absurd both
  pairs_take (suc n) (x ∷ xs) (y ∷ ys) both = (both.0, pairs_take n xs ys both.1)

  -- the members at a place
  pub pairs_get : (xs : List A) (ys : List B) (i : ℕ) → AllZip R xs ys → Pairs R (slice_get xs i) (slice_get ys i)
  pairs_get [] [] i both = tt
  pairs_get [] (y ∷ ys) i both = absurd both
  pairs_get (x ∷ xs) [] i both = absurd both
  pairs_get (x ∷ xs) (y ∷ ys) zero both = both.0
  pairs_get (x ∷ xs) (y ∷ ys) (suc i) both = pairs_get xs ys i both.1

  -- with other members at a place
  pub pairs_changed : (i : ℕ) (f : A → A) (g : B → B) → ((x : A) (y : B) → R x y → R (f x) (g y)) → (xs : List A) (ys : List B) → AllZip R xs ys
      → AllZip R (changed_at i f xs) (changed_at i g ys)
  pairs_changed i f g kept [] [] both = tt
  pairs_changed i f g kept [] (y ∷ ys) both = absurd both
  pairs_changed i f g kept (x ∷ xs) [] both = absurd both
  pairs_changed zero f g kept (x ∷ xs) (y ∷ ys) both = (kept x y both.0, both.1)
  pairs_changed (suc i) f g kept (x ∷ xs) (y ∷ ys) both = (both.0, pairs_changed i f g kept xs ys both.1)

  either : (a b : Bool) → a ≡ b → (x : A) (y : B) (o : Option A) (k : Option B) → R x y → Pairs R o k
      → Pairs R (cond a (Some x) o) (cond b (Some y) k)
  either true true same x y o k one more = one
  either false false same x y o k one more = more
  either true false same x y o k one more = absurd (cc)
  either false true same x y o k one more = absurd (cc)

  -- the first that pass tests which see the same
  pub pairs_find : (p : A → Bool) (q : B → Bool) → ((x : A) (y : B) → R x y → p x ≡ q y) → (xs : List A) (ys : List B) → AllZip R xs ys
      → Pairs R (find p xs) (find q ys)
  pairs_find p q same [] [] both = tt
  pairs_find p q same [] (y ∷ ys) both = absurd both
  pairs_find p q same (x ∷ xs) [] both = absurd both
  pairs_find p q same (x ∷ xs) (y ∷ ys) both = either (p x) (q y) (same x y both.0) x y _ _ both.0 (pairs_find p q same xs ys both.1)

  -- what is seen of them is the same, where it is of each two
  pub pairs_map : {C : Type 0} (f : A → C) (g : B → C) → ((x : A) (y : B) → R x y → f x ≡ g y) → (xs : List A) (ys : List B)
      → AllZip R xs ys → map f xs ≡ map g ys
  pairs_map f g same [] [] both = refl
  pairs_map f g same [] (y ∷ ys) both = absurd both
  pairs_map f g same (x ∷ xs) [] both = absurd both
  pairs_map f g same (x ∷ xs) (y ∷ ys) both = let one = same x y both.0 in let rest = pairs_map f g same xs ys both.1 in cc (one, rest)
