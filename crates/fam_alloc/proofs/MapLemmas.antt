-- A test of units as a list that says of each whether it is used.
use Rattle.std.proofs.Common.{◌≡◌, ℕ, zero, suc, Bool, true, false, ◌+◌, ◌/◌, ◌%◌, ◌<◌, ◌≤◌, ◌==◌, ◌||◌, Option, Some, None, List, [], ◌∷◌, length, get_or, map, replicate, cond, ltb, count_by, refl, sym, ap, ◌∙◌, inl, inr, arith, add-one, min, leb}
use Rattle.std.proofs.lemmas.Option.{none-some}
use Rattle.std.specs.List.{range_with_len}
use Rattle.std.proofs.lemmas.Bool.{cases_Bool, cases_eq, cases_lt, cond-true, cond-false, ne_eqb, eq-eqb, lt-ltb, le-ltb, ltb-true, or_cases, or_left, or_right, and_parts, false≢true}
use Rattle.std.proofs.lemmas.Bool.Decides.{nat_tests}
use Rattle.std.proofs.lemmas.List.{get_or_past, get_or-replicate, length-replicate}
use Rattle.std.proofs.lemmas.List.FromFn.{length-map-range_with_len, get_or-map-range_with_len, map-range_with_len_more}
use Rattle.std.proofs.lemmas.List.Sums.{sum_by_push, count_by-le-length}
use Rattle.std.proofs.lemmas.Nat.Bits.{bit_at-zero}
use Rattle.fam_base.specs.declared.extents.Extent.{Extent}
use Rattle.fam_format.specs.Units.{units_in, first_overlap}
use Rattle.fam_rules.proofs.RoomSame.{map_range_same}
use Rattle.fam_alloc.specs.Next.{has_bit, is_bit_set}
use Rattle.fam_alloc.specs.Taken.{is_taken, holds, LieWithin, units_by}
use Rattle.fam_alloc.proofs.OverlapLemmas.{holds-append, holds-range, or_false, turned, quotients}

pub length-units_by : (used : ℕ → Bool) (units : ℕ) → length (units_by used units) ≡ units
unfolding units_by
length-units_by used units = length-map-range_with_len used 0 units

-- a unit of the device
pub taken_below : (used : ℕ → Bool) (units u : ℕ) → u < units → is_taken (units_by used units) u ≡ used u
unfolding units_by
taken_below used units u below = get_or-map-range_with_len used 0 units u u false below (omega arith)

-- none past its end
pub taken_past : (used : ℕ → Bool) (units u : ℕ) → units ≤ u → is_taken (units_by used units) u ≡ false
taken_past used units u past = get_or_past (units_by used units) u false (omega (arith, length-units_by used units))

-- a bitmap of zeros has no used unit
pub zeros_free : (n u : ℕ) → is_bit_set (replicate n 0) u ≡ false
zeros_free n u = ap (λ (w : ℕ). has_bit w (u % 64)) zero_at ∙ ap (λ (d : ℕ). let one : ℕ = 1 in d == one) (bit_at-zero (u % 64))
  where
    zero_at : ◌≡◌ {A = ℕ} (get_or (replicate n 0) (u / 64) 0) 0
    zero_at = elim (cases_lt (u / 64) n) [
      | inl below ↦ get_or-replicate n (u / 64) 0 0 below
      | inr past ↦ get_or_past (replicate n 0) (u / 64) 0 (omega (arith, length-replicate {A = ℕ} n 0))
    ]

-- how many of the first n numbers pass a test
abbrev pub passing : (ℕ → Bool) → ℕ → ℕ
passing f n = count_by (λ b. b) (map f (range_with_len 0 n))

-- one number more
pub passing-suc : (f : ℕ → Bool) (n : ℕ) → passing f (suc n) ≡ passing f n + cond (f n) 1 0
passing-suc f n =
    ap (passing f) (sym (add-one n))
    ∙ ap (λ (bs : List Bool). count_by (λ b. b) bs) (map-range_with_len_more f 0 n n (omega arith))
    ∙ sum_by_push (λ (b : Bool). cond b 1 0) (map f (range_with_len 0 n)) (f n)

-- tests that agree below n
pub passing_same : (f g : ℕ → Bool) (n : ℕ) → ((u : ℕ) → u < n → f u ≡ g u) → passing f n ≡ passing g n
passing_same f g n same =
    ap (λ (bs : List Bool). count_by (λ b. b) bs) (map_range_same f g 0 n (λ t low high. same t (omega arith)))

-- no more than n pass
pub passing_le : (f : ℕ → Bool) (n : ℕ) → passing f n ≤ n
passing_le f n = omega (arith, count_by-le-length (λ (b : Bool). b) (map f (range_with_len 0 n)), length-map-range_with_len f 0 n)

-- the first `used` numbers pass
pub passing_first : (used n : ℕ) → passing (λ u. ltb u used) n ≡ min used n
passing_first used zero = omega arith
passing_first used (suc n) = passing-suc (λ u. ltb u used) n ∙ ap (λ (k : ℕ). k + cond (ltb n used) 1 0) (passing_first used n) ∙ one_more used n
  where
    one_more : (used n : ℕ) → min used n + cond (ltb n used) 1 0 ≡ min used (suc n)
    one_more used n = grind (arith, nat_tests)

-- one number more passes
passing_one : (f : ℕ → Bool) (u n : ℕ) → f u ≡ false → passing (λ v. (v == u) || f v) n ≡ passing f n + cond (ltb u n) 1 0
passing_one f u zero clear = ap (λ (b : Bool). 0 + cond b 1 0) (sym (le-ltb u 0 (omega arith)))
passing_one f u (suc n) clear =
    passing-suc (λ v. (v == u) || f v) n
    ∙ ap (λ (k : ℕ). k + cond ((n == u) || f n) 1 0) (passing_one f u n clear)
    ∙ at_end
    ∙ ap (λ (k : ℕ). k + cond (ltb u (suc n)) 1 0) (sym (passing-suc f n))
  where
    at_end : passing f n + cond (ltb u n) 1 0 + cond ((n == u) || f n) 1 0 ≡ passing f n + cond (f n) 1 0 + cond (ltb u (suc n)) 1 0
    at_end = elim (cases_eq n u) [
      | inl at ↦
          let none : f n ≡ false = ap f at ∙ clear in
          rw (none, eq-eqb n u at, le-ltb u n (omega arith), lt-ltb u (suc n) (omega arith)) refl
      | inr other ↦
          let tests : ltb u n ≡ ltb u (suc n) = grind (arith, nat_tests) in
          rw (ne_eqb n u other, tests) (omega arith)
    ]

-- a list that doesn't overlap begins with a free unit
pub overlap_head : (f : ℕ → Bool) (u : ℕ) (us : List ℕ) → first_overlap f (u ∷ us) ≡ None → f u ≡ false
overlap_head f u us h = elim (cases_Bool (f u)) [
  | inl taken ↦ absurd (none-some u (sym h ∙ cond-true (f u) (Some u) (first_overlap (λ v. (v == u) || f v) us) taken))
  | inr clear ↦ clear
]

-- units that don't overlap all count
pub passing_more : (f : ℕ → Bool) (us : List ℕ) (n : ℕ) → first_overlap f us ≡ None → ((u : ℕ) → holds us u ≡ true → u < n) → passing (λ v. f v || holds us v) n ≡ passing f n + length us
passing_more f [] n clear within = passing_same (λ v. f v || false) f n (λ u below. sym (or_false (f u))) ∙ (omega arith)
passing_more f (u ∷ us) n clear within =
    let free : f u ≡ false = overlap_head f u us clear in
    let rest : first_overlap (λ v. (v == u) || f v) us ≡ None = sym (cond-false (f u) (Some u) (first_overlap (λ v. (v == u) || f v) us) free) ∙ clear in
    let more = passing_more (λ v. (v == u) || f v) us n rest (λ v h. within v (or_right (u == v) (holds us v) h)) in
    let below : u < n = within u (or_left (u == u) (holds us u) (eq-eqb u u refl)) in
    passing_same (λ v. f v || holds (u ∷ us) v) (λ v. ((v == u) || f v) || holds us v) n (λ v h. sym (turned (f v) (holds us v) v u))
    ∙ more
    ∙ ap (λ (k : ℕ). k + length us) (passing_one f u n free ∙ ap (λ (b : Bool). passing f n + cond b 1 0) (lt-ltb u n below))
    ∙ (omega arith)

-- the units of extents lie below the units of the device
pub units_below : (unit units : ℕ) (extents : List Extent) → 0 < unit → LieWithin unit units extents → (u : ℕ) → holds (units_in unit extents) u ≡ true → u < units
units_below unit units [] some h u e = absurd (false≢true e)
units_below unit units (x ∷ xs) some h u e =
    elim (or_cases (holds (range_with_len (x.offset / unit) (x.length / unit)) u) (holds (units_in unit xs) u)
    (sym (holds-append (range_with_len (x.offset / unit) (x.length / unit)) (units_in unit xs) u) ∙ e)) [
      | inl prefix ↦
          let within = and_parts (leb (x.offset / unit) u) (ltb u (x.offset / unit + x.length / unit)) (sym (holds-range (x.offset / unit) (x.length / unit) u) ∙ prefix) in
          omega (arith, ltb-true u (x.offset / unit + x.length / unit) within.1, quotients x.offset x.length unit units some (h 0 x (omega arith)))
      | inr behind ↦ units_below unit units xs some (λ k d below. h (suc k) d (omega arith)) u behind
    ]

pub units_past : (unit units : ℕ) (extents : List Extent) → 0 < unit → LieWithin unit units extents → (u : ℕ) → units ≤ u → holds (units_in unit extents) u ≡ false
units_past unit units extents some h u past =
    elim (cases_Bool (holds (units_in unit extents) u)) [
      | inl inside ↦ absurd (omega (arith, units_below unit units extents some h u inside))
      | inr outside ↦ outside
    ]

-- tests that agree on a list have one first overlap in it
pub overlap_same_on : (f g : ℕ → Bool) (us : List ℕ) → ((u : ℕ) → holds us u ≡ true → f u ≡ g u) → first_overlap f us ≡ first_overlap g us
overlap_same_on f g [] same = refl
overlap_same_on f g (u ∷ us) same =
    ap (λ (b : Bool). cond b (Some u) (first_overlap (λ v. (v == u) || f v) us)) (same u (or_left (u == u) (holds us u) (eq-eqb u u refl)))
    ∙ ap (λ (o : Option ℕ). cond (g u) (Some u) o)
    (overlap_same_on (λ v. (v == u) || f v) (λ v. (v == u) || g v) us (λ v h. ap (λ (b : Bool). (v == u) || b) (same v (or_right (u == v) (holds us v) h))))
