-- Used units, and the first overlap.
use Prim.Native.Nat.{zero, suc}
use Rattle.std.proofs.Common.{◌≡◌, ◌≢◌, ℕ, ◌<◌, ◌==◌, ◌||◌, ◌⊎◌, Bool, true, false, if◌then◌else◌, nat_lt, IsTrue, List, [], ◌∷◌, length, get_or, take, Option, Some, None, inl, inr, refl, sym, arith}
use Rattle.std.specs.Prelude.{MatchOption, Contains}
use Rattle.std.specs.List.{list_any}
use Rattle.std.proofs.lemmas.Bool.{eqb-true}
use Rattle.std.proofs.lemmas.Bool.Decides.{nat_tests}
use Rattle.std.proofs.lemmas.List.Folds.{list_any_at}
use Rattle.std.proofs.lemmas.Map.Views.{Contains-from_any}
use Rattle.fam_base.specs.declared.entry.Params.{Params}
use Rattle.fam_base.specs.declared.entry.Entry.{Entry}
use Rattle.fam_format.specs.Layout.{head_units}
use Rattle.fam_format.specs.Units.{Used, is_used, list_units, first_overlap}
use Rattle.fam_format.specs.ReadingLaws.{AreFree, IsTaken, IsFirstOverlap}

-- neither of two tests passes
neither : (a b : Bool) → (a || b) ≡ false → (a ≡ false) × (b ≡ false)
neither true b h = absurd (cc)
neither false b h = (refl, h)

-- one of two tests passes
either : (a b : Bool) → (a || b) ≡ true → (a ≡ true) ⊎ (b ≡ true)
either true b h = inl refl
either false b h = inr h

either_from : (a b : Bool) → ((a ≡ true) ⊎ (b ≡ true)) → (a || b) ≡ true
either_from true b h = refl
either_from false b (inl h) = absurd (cc)
either_from false b (inr h) = h

other : (a b : ℕ) → (b == a) ≡ false → a ≡ b → ⊥
other a b h same = grind (arith, nat_tests)

-- a test for units that one more unit passes
abbrev with_unit : (ℕ → Bool) → ℕ → ℕ → Bool
with_unit used u v = (v == u) || used v

free_at : (used : ℕ → Bool) (u : ℕ) (us : List ℕ) → used u ≡ false → ((k : ℕ) → k < length us → with_unit used u (get_or us k 0) ≡ false) → (k : ℕ)
    → k < length (u ∷ us) → used (get_or (u ∷ us) k 0) ≡ false
free_at used u us new rest zero below = new
free_at used u us new rest (suc k) below = (neither (get_or us k 0 == u) (used (get_or us k 0)) (rest k (omega arith))).1

once_at : (used : ℕ → Bool) (u : ℕ) (us : List ℕ) → ((k : ℕ) → k < length us → with_unit used u (get_or us k 0) ≡ false)
    → ((i j : ℕ) → i < j → j < length us → get_or us i 0 ≢ get_or us j 0) → (i j : ℕ) → i < j → j < length (u ∷ us)
    → get_or (u ∷ us) i 0 ≢ get_or (u ∷ us) j 0
once_at used u us new rest zero zero less below = absurd (omega arith)
once_at used u us new rest (suc i) zero less below = absurd (omega arith)
once_at used u us new rest zero (suc j) less below = other u (get_or us j 0) (neither (get_or us j 0 == u) (used (get_or us j 0)) (new j (omega arith))).0
once_at used u us new rest (suc i) (suc j) less below = rest i j (omega arith) (omega arith)

-- one free unit before free ones that it isn't among
free_more : (used : ℕ → Bool) (u : ℕ) (us : List ℕ) → used u ≡ false → AreFree (with_unit used u) us → AreFree used (u ∷ us)
free_more used u us new rest = record { free = free_at used u us new rest.free; once = once_at used u us rest.free rest.once }

none_free : (used : ℕ → Bool) → AreFree used []
none_free used = record { free = λ k below. absurd (omega arith); once = λ i j less below. absurd (omega arith) }

taken_more : (used : ℕ → Bool) (u : ℕ) (us : List ℕ) (k x : ℕ) → IsTaken (with_unit used u) us k x → IsTaken used (u ∷ us) (suc k) x
taken_more used u us k x (inl h) =
    elim (either (x == u) (used x) h) [ inl same ↦ inr (0, omega arith, sym (eqb-true x u same)) | inr taken ↦ inl taken ]
taken_more used u us k x (inr (i, less, is)) = inr (suc i, omega arith, is)

by_rest : (used : ℕ → Bool) (u : ℕ) (us : List ℕ) → used u ≡ false → (r : Option ℕ)
    → MatchOption r (AreFree (with_unit used u) us) (IsFirstOverlap (with_unit used u) us)
    → MatchOption r (AreFree used (u ∷ us)) (IsFirstOverlap used (u ∷ us))
by_rest used u us new None rest = free_more used u us new rest
by_rest used u us new (Some x) rest =
    record {
      place = suc rest.place;
      below = let h = rest.below in omega arith;
      is = rest.is;
      taken = taken_more used u us rest.place x rest.taken;
      before = free_more used u (take rest.place us) new rest.before;
    }

by_first : (used : ℕ → Bool) (u : ℕ) (us : List ℕ) (b : Bool) → used u ≡ b
    → MatchOption (first_overlap (with_unit used u) us) (AreFree (with_unit used u) us) (IsFirstOverlap (with_unit used u) us)
    → MatchOption (if b then Some u else first_overlap (with_unit used u) us) (AreFree used (u ∷ us)) (IsFirstOverlap used (u ∷ us))
by_first used u us true is rest = record { place = 0; below = omega arith; is = refl; taken = inl is; before = none_free used }
by_first used u us false is rest = by_rest used u us is (first_overlap (with_unit used u) us) rest

-- the first overlap, or none
pub overlap_found : (used : ℕ → Bool) (units : List ℕ) → MatchOption (first_overlap used units) (AreFree used units) (IsFirstOverlap used units)
overlap_found used [] = none_free used
overlap_found used (u ∷ us) = by_first used u us (used u) refl (overlap_found (with_unit used u) us)

-- the test of a list's members
any_member : (units : List ℕ) (u : ℕ) → Contains units u → list_any (λ v. v == u) units ≡ true
any_member units u (k, below, is) =
    list_any_at (λ v. v == u) units k u below (let same = is in grind (arith, nat_tests))

-- used units pass the test, and others don't
pub used_tested : (p : Params) (list : List Entry) (u : ℕ) → IsTrue (is_used p list u) → Used p list u
used_tested p list u h =
    elim (either (nat_lt u (head_units p)) (list_any (λ v. v == u) (list_units p.unit list)) h) [
      | inl below ↦ inl (grind (arith, nat_tests))
      | inr among ↦ inr (Contains-from_any {eq = λ q v. v == q} (λ x y same. sym (eqb-true y x same)) u (list_units p.unit list) among)
    ]

pub tested_used : (p : Params) (list : List Entry) (u : ℕ) → Used p list u → IsTrue (is_used p list u)
tested_used p list u (inl below) = either_from (nat_lt u (head_units p)) (list_any (λ v. v == u) (list_units p.unit list)) (inl (grind (arith, nat_tests)))
tested_used p list u (inr among) = either_from (nat_lt u (head_units p)) (list_any (λ v. v == u) (list_units p.unit list)) (inr (any_member (list_units p.unit list) u among))
