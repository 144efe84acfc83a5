-- Where few hosts are declared there is a UUID that none of them has.
use Rattle.std.proofs.Common.{◌≡◌, ◌≢◌, ◌⊎◌, ◌+◌, ◌<◌, ◌≤◌, inl, inr, ℕ, zero, suc, List, [], ◌∷◌, length, map, Some, refl, ap, sym, ◌∙◌, subst, arith}
use Rattle.std.specs.Prelude.{replicate, slice_get, slice_index}
use Rattle.std.proofs.lemmas.Bool.{cases_eq}
use Rattle.std.proofs.lemmas.List.{length-map}
use Rattle.std.proofs.lemmas.Option.{same_Some}
use Rattle.fam_format.specs.Params.{IsUuid}
use Rattle.fam_journal.specs.Calls.{host_limit}
use Rattle.fam_judge.specs.Standing.{Face}
use Rattle.fam_judge.proofs.Standing.Sound.{zeros}

-- Numbers.

-- one of these
abbrev IsIn : ℕ → List ℕ → Type 0
IsIn n [] = ⊥
IsIn n (x ∷ xs) = (n ≡ x) ⊎ IsIn n xs

is_in : (n : ℕ) (xs : List ℕ) → IsIn n xs ⊎ (IsIn n xs → ⊥)
is_in n [] = inr (λ none. none)
is_in n (x ∷ xs) = elim (cases_eq n x) [
  | inl e ↦ inl (inl e)
  | inr ne ↦ elim (is_in n xs) [ inl more ↦ inl (inr more) | inr none ↦ inr (out ne none) ]
]
  where
    out : n ≢ x → (IsIn n xs → ⊥) → (n ≡ x) ⊎ IsIn n xs → ⊥
    out ne none (inl e) = ne e
    out ne none (inr more) = none more

-- all but one of them
record Without (n : ℕ) (xs : List ℕ) : Type 0 where
  rest : List ℕ
  fewer : length rest + 1 ≡ length xs
  kept : (k : ℕ) → k ≢ n → IsIn k xs → IsIn k rest

-- the first one goes
without_first : (n x : ℕ) (xs : List ℕ) → n ≡ x → Without n (x ∷ xs)
without_first n x xs e = record { rest = xs; fewer = omega arith; kept = kept }
  where
    kept : (k : ℕ) → k ≢ n → IsIn k (x ∷ xs) → IsIn k xs
    kept k ne (inl same) = absurd (ne (same ∙ sym e))
    kept k ne (inr more) = more

-- or a later one
without_later : (n x : ℕ) (xs : List ℕ) → Without n xs → Without n (x ∷ xs)
without_later n x xs less = record { rest = x ∷ less.rest; fewer = let fewer = less.fewer in omega (arith, fewer); kept = kept }
  where
    kept : (k : ℕ) → k ≢ n → IsIn k (x ∷ xs) → IsIn k (x ∷ less.rest)
    kept k ne (inl same) = inl same
    kept k ne (inr is) = inr (less.kept k ne is)

without : (n : ℕ) (xs : List ℕ) → IsIn n xs → Without n xs
without n [] is = absurd is
without n (x ∷ xs) (inl e) = without_first n x xs e
without n (x ∷ xs) (inr more) = without_later n x xs (without n xs more)

-- a number up to n that is none of these
record Fresh (n : ℕ) (xs : List ℕ) : Type 0 where
  number : ℕ
  low : number ≤ n
  none : IsIn number xs → ⊥

-- one that none of the rest is, up to n, isn't n + 1
fresh_less : (n : ℕ) (xs : List ℕ) (w : Without (suc n) xs) → Fresh n w.rest → Fresh (suc n) xs
fresh_less n xs w one =
    let low = one.low in
    record { number = one.number; low = omega (arith, low); none = λ is. one.none (w.kept one.number (λ e. absurd (omega (arith, e, low))) is) }

fresh : (n : ℕ) (xs : List ℕ) → length xs ≤ n → Fresh n xs
fresh zero [] few = record { number = 0; low = omega arith; none = λ is. is }
fresh zero (x ∷ xs) few = absurd (omega (arith, few))
fresh (suc n) xs few = elim (is_in (suc n) xs) [
  | inr none ↦ record { number = suc n; low = omega arith; none = none }
  | inl is ↦
      let w = without (suc n) xs is in
      let fewer = w.fewer in
      fresh_less n xs w (fresh n w.rest (omega (arith, fewer, few)))
]

-- UUIDs.

-- the first byte of a host's is one of those
first_in : (all : List Face) (k : ℕ) (f : Face) → slice_get all k ≡ Some f → IsIn (slice_index f.uuid 0) (map (λ (g : Face). slice_index g.uuid 0) all)
first_in [] k f is = absurd cc
first_in (g ∷ all) zero f is = inl (ap (λ (x : Face). slice_index x.uuid 0) (sym (same_Some g f is)))
first_in (g ∷ all) (suc k) f is = inr (first_in all k f is)

-- a UUID that no host has
pub record FreshUuid (all : List Face) : Type 0 where
  pub uuid : List ℕ
  pub valid : IsUuid uuid
  pub other : (k : ℕ) (f : Face) → slice_get all k ≡ Some f → f.uuid ≡ uuid → ⊥

-- the first bytes of all
abbrev firsts : List Face → List ℕ
firsts all = map (λ (g : Face). slice_index g.uuid 0) all

-- a UUID of this first byte, and zeros
abbrev begins_with : ℕ → List ℕ
begins_with n = n ∷ replicate 15 0

-- its first byte is none of theirs
of_first : (all : List Face) → Fresh 64 (firsts all) → FreshUuid all
of_first all one = record { uuid = begins_with one.number; valid = record { count = refl; fits = fits }; other = other }
  where
    fits : (i : ℕ) → slice_index (begins_with one.number) i < 256
    fits zero = let low = one.low in omega (arith, low)
    fits (suc i) = zeros 15 i

    other : (k : ℕ) (f : Face) → slice_get all k ≡ Some f → f.uuid ≡ begins_with one.number → ⊥
    other k f is e = one.none (subst (λ (n : ℕ). IsIn n (firsts all)) (ap (λ (u : List ℕ). slice_index u 0) e) (first_in all k f is))

-- where there are no more hosts than may be
pub fresh_uuid : (all : List Face) → length all ≤ host_limit → FreshUuid all
fresh_uuid all few = of_first all (fresh 64 (firsts all) (subst (λ (n : ℕ). n ≤ 64) (sym (length-map all (λ (g : Face). slice_index g.uuid 0))) few))
