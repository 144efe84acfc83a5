-- What loops over candidates keep.
use Rattle.std.proofs.Common.{◌≡◌, ◌+◌, ◌<◌, ℕ, List, [], ◌∷◌, length, Option, Some, None, refl, sym, ap, subst, ◌∙◌, inl, inr, arith}
use Rattle.std.specs.Option.{IfSome, MatchOption}
use Rattle.std.specs.Prelude.{◌==◌, false, get_or, is_some, slice_get}
use Rattle.std.proofs.lemmas.Bool.{cases_lt, true≢false}
use Rattle.std.proofs.lemmas.Option.{same_Some}
use Rattle.fam_judging.specs.declared.candidate.Candidate.{Candidate}

-- a fact of the first i candidates and of the next one is one of the first i + 1
pub first_more : (P : Candidate → Type 0) (cs : List Candidate) (i : ℕ) (d : Candidate) → slice_get cs i ≡ Some d → P d
    → ((k : ℕ) (c : Candidate) → k < i → slice_get cs k ≡ Some c → P c)
    → (k : ℕ) (c : Candidate) → k < i + 1 → slice_get cs k ≡ Some c → P c
first_more P cs i d is here before k c below at =
    elim (cases_lt k i) [
      | inl less ↦ before k c less at
      | inr from ↦
          let same : k ≡ i = omega (arith, below, from) in
          let one : slice_get cs i ≡ Some c = ap (slice_get cs) (sym same) ∙ at in
          subst P (same_Some d c (sym is ∙ one)) here
    ]

-- the first member, where there is one
pub first_read : {A : Type 0} (xs : List A) (d : A) (n : ℕ) → n ≡ length xs → (n == 0) ≡ false → d ≡ get_or xs 0 d → slice_get xs 0 ≡ Some d
first_read [] d n count some is = absurd (true≢false (sym (ap (λ k. k == 0) count) ∙ some))
first_read (x ∷ xs) d n count some is = ap Some (sym is)

-- so of a list of one member
pub one_read : {A : Type 0} (xs : List A) (d : A) → length xs ≡ 1 → d ≡ get_or xs 0 d → slice_get xs 0 ≡ Some d
one_read [] d one is = absurd (omega (arith, one))
one_read (x ∷ xs) d one is = ap Some (sym is)

-- what is found, and what follows of it
pub found_then : {X : Type 0} (r : Option X) (N : Type 0) {P Q : X → Type 0} → MatchOption r N P → ((x : X) → P x → Q x) → IfSome r Q
found_then None N is more = tt
found_then (Some x) N is more = more x is

-- where nothing is found
pub none_then : {X : Type 0} (r : Option X) {N : Type 0} (P : X → Type 0) → is_some r ≡ false → MatchOption r N P → N
none_then None P none is = is
none_then (Some x) P none is = absurd cc

-- what follows of a value that is found
pub some_is : {X : Type 0} (r : Option X) {Q : X → Type 0} → ((x : X) → r ≡ Some x → Q x) → IfSome r Q
some_is None more = tt
some_is (Some x) more = more x refl

-- what is known of it, and what follows
pub some_then : {X : Type 0} (r : Option X) {P Q : X → Type 0} → IfSome r P → ((x : X) → P x → Q x) → IfSome r Q
some_then None is more = tt
some_then (Some x) is more = more x is
