-- Fronts and members of lists.
use Rattle.std.proofs.Common.{◌≡◌, ℕ, zero, suc, ◌<◌, ◌≤◌, ◌⊎◌, inl, inr, List, [], ◌∷◌, ◌++◌, length, take, refl, ap, arith}
use Rattle.std.specs.Prelude.{◌==◌, cond, Bool, true, false, ◌≢◌, slice_get, Option, Some, None}
use Rattle.std.proofs.lemmas.Bool.Decides.{eqb_tells}
use Rattle.fam_mail.specs.Mail.{pending_list}

-- a member of the front of a list
pub front_member : {X : Type 0} (xs ys : List X) (i : ℕ) → i < length xs → slice_get (xs ++ ys) i ≡ slice_get xs i
front_member [] ys i lt = absurd (omega (arith, lt))
front_member (x ∷ xs) ys zero lt = refl
front_member (x ∷ xs) ys (suc i) lt = front_member xs ys i (omega (arith, lt))

-- the member behind a list
pub member_behind : {X : Type 0} (xs : List X) (x : X) → slice_get (xs ++ x ∷ []) (length xs) ≡ Some x
member_behind [] x = refl
member_behind (y ∷ xs) x = member_behind xs x

-- the front with one member more
pub take_member : {X : Type 0} (xs : List X) (i : ℕ) (x : X) → slice_get xs i ≡ Some x → take (suc i) xs ≡ take i xs ++ x ∷ []
take_member {X} [] i x is = absurd cc
take_member {X} (y ∷ xs) zero x is = ap (λ (z : X). z ∷ []) (cc)
take_member {X} (y ∷ xs) (suc i) x is = ap (λ (zs : List X). y ∷ zs) (take_member xs i x is)

-- at most one record is pending
pub few_listed : (p : Option (List ℕ)) → length (pending_list p) ≤ 1
few_listed None = omega arith
few_listed (Some r) = omega arith

-- two choices by one test of equality
pub by_equal_both : {X Y : Type 0} (P : X → Y → Type 0) (a b : ℕ) (x y : X) (u v : Y) → (a ≡ b → P x u) → (a ≢ b → P y v) → P (cond (a == b) x y) (cond (a == b) u v)
by_equal_both {X} {Y} P a b x y u v same other = go (a == b) (eqb_tells a b)
  where
    go : (t : Bool) → ((t ≡ true) × (a ≡ b)) ⊎ ((t ≡ false) × (a ≢ b)) → P (cond t x y) (cond t u v)
    go true (inl h) = same h.1
    go true (inr h) = absurd cc
    go false (inl h) = absurd cc
    go false (inr h) = other h.1

-- one
pub by_equal : {X : Type 0} (P : X → Type 0) (a b : ℕ) (x y : X) → (a ≡ b → P x) → (a ≢ b → P y) → P (cond (a == b) x y)
by_equal {X} P a b x y same other = by_equal_both (λ (z : X) (n : ℕ). P z) a b x y 0 0 same other
