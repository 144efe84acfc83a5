-- Floors and counts of the first candidates, one more at a time.
use Rattle.std.proofs.Common.{◌≡◌, ◌+◌, ◌≤◌, ℕ, min, max, List, Option, Some, None, refl, sym, subst, inl, inr, arith}
use Rattle.std.specs.Option.{IfSome}
use Rattle.std.specs.Prelude.{slice_get}
use Rattle.std.proofs.lemmas.Bool.{cases_lt}
use Rattle.fam_judging.specs.declared.candidate.Candidate.{Candidate}
use Rattle.fam_causes.proofs.Loops.{first_more}
use Rattle.fam_causes.specs.Bounds.{IsFrom, IsLeastFloor, IsMost, IsUpTo, LeastOfFirst, MostOfFirst, floor_at, greater, lesser, most_in}

-- a lesser number is no greater either
from_less : (a b : ℕ) (o : Option ℕ) → a ≤ b → IsFrom b o → IsFrom a o
from_less a b None le h = h
from_less a b (Some n) le h = omega (arith, le, h)

up_to_more : (a b : ℕ) (o : Option ℕ) → a ≤ b → IsUpTo a o → IsUpTo b o
up_to_more a b None le h = h
up_to_more a b (Some n) le h = omega (arith, le, h)

-- the least floor with one candidate more
pub least_more : (h : ℕ) (cs : List Candidate) (i : ℕ) (d : Candidate) (floor : ℕ) (least : Option ℕ) → slice_get cs i ≡ Some d → floor_at h d ≡ Some floor
    → LeastOfFirst h cs i least → IsLeastFloor h cs (i + 1) (lesser least floor)
least_more h cs i d floor None is at before = record {
  place = i;
  within = omega arith;
  one = d;
  is = is;
  floor_is = at;
  least = first_more (λ c. IsFrom floor (floor_at h c)) cs i d is (subst (IsFrom floor) (sym at) (omega arith))
      (λ k c below same. absurd (omega (arith, below, before)));
}
least_more h cs i d floor (Some m) is at before =
    elim (cases_lt floor m) [
      | inl less ↦
          let low : min m floor ≡ floor = omega (arith, less) in
          subst (IsLeastFloor h cs (i + 1)) (sym low) (record {
            place = i;
            within = omega arith;
            one = d;
            is = is;
            floor_is = at;
            least = first_more (λ c. IsFrom floor (floor_at h c)) cs i d is (subst (IsFrom floor) (sym at) (omega arith))
                (λ k c below same. from_less floor m (floor_at h c) (omega (arith, less)) (before.least k c below same));
          })
      | inr from ↦
          let low : min m floor ≡ m = omega (arith, from) in
          subst (IsLeastFloor h cs (i + 1)) (sym low) (record {
            place = before.place;
            within = omega (arith, before.within);
            one = before.one;
            is = before.is;
            floor_is = before.floor_is;
            least = first_more (λ c. IsFrom m (floor_at h c)) cs i d is (subst (IsFrom m) (sym at) from) before.least;
          })
    ]

-- the least floor of all
pub least_all : (h : ℕ) (cs : List Candidate) (i n : ℕ) (least : Option ℕ) → i ≡ n → LeastOfFirst h cs i least → IfSome least (IsLeastFloor h cs n)
least_all h cs i n None same is = tt
least_all h cs i n (Some floor) same is = subst (λ (j : ℕ). IsLeastFloor h cs j floor) same is

-- the most entries with one candidate more
pub most_more : (cs : List Candidate) (i : ℕ) (d : Candidate) (most : Option ℕ) → slice_get cs i ≡ Some d
    → MostOfFirst cs i most → MostOfFirst cs (i + 1) (greater most (most_in d.settled))
most_more cs i d most is before = by most (most_in d.settled) refl before
  where
    by : (most n : Option ℕ) → most_in d.settled ≡ n → MostOfFirst cs i most → MostOfFirst cs (i + 1) (greater most n)
    by None None at none = first_more (λ c. most_in c.settled ≡ None) cs i d is at none
    by None (Some n) at none = record {
      place = i;
      within = omega arith;
      one = d;
      is = is;
      most_is = at;
      greatest = first_more (λ c. IsUpTo n (most_in c.settled)) cs i d is (subst (IsUpTo n) (sym at) (omega arith))
          (λ k c below same. subst (IsUpTo n) (sym (none k c below same)) tt);
    }
    by (Some m) None at old = record {
      place = old.place;
      within = omega (arith, old.within);
      one = old.one;
      is = old.is;
      most_is = old.most_is;
      greatest = first_more (λ c. IsUpTo m (most_in c.settled)) cs i d is (subst (IsUpTo m) (sym at) tt) old.greatest;
    }
    by (Some m) (Some n) at old =
        elim (cases_lt m n) [
          | inl less ↦
              let high : max m n ≡ n = omega (arith, less) in
              subst (IsMost cs (i + 1)) (sym high) (record {
                place = i;
                within = omega arith;
                one = d;
                is = is;
                most_is = at;
                greatest = first_more (λ c. IsUpTo n (most_in c.settled)) cs i d is (subst (IsUpTo n) (sym at) (omega arith))
                    (λ k c below same. up_to_more m n (most_in c.settled) (omega (arith, less)) (old.greatest k c below same));
              })
          | inr from ↦
              let high : max m n ≡ m = omega (arith, from) in
              subst (IsMost cs (i + 1)) (sym high) (record {
                place = old.place;
                within = omega (arith, old.within);
                one = old.one;
                is = old.is;
                most_is = old.most_is;
                greatest = first_more (λ c. IsUpTo m (most_in c.settled)) cs i d is (subst (IsUpTo m) (sym at) from) old.greatest;
              })
        ]

-- the most entries of all
pub most_all : (cs : List Candidate) (i n : ℕ) (most : Option ℕ) → i ≡ n → MostOfFirst cs i most → IfSome most (IsMost cs n)
most_all cs i n None same is = tt
most_all cs i n (Some most) same is = subst (λ (j : ℕ). IsMost cs j most) same is
