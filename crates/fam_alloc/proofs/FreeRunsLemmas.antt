-- A list of runs with gaps between them is that of the free runs of what it leaves used.
use Rattle.std.proofs.Common.{◌≡◌, ℕ, zero, suc, Bool, true, false, not, ◌+◌, ◌-◌, ◌<◌, ◌≤◌, ◌&&◌, ◌||◌, List, [], ◌∷◌, map, ltb, filter, refl, sym, ap, ◌∙◌, inl, inr, arith}
use Rattle.std.specs.List.{range_with_len}
use Rattle.std.proofs.lemmas.Bool.{cases_lt, cond-true, cond-false, lt-ltb, le-ltb, and_left, and_right, or_left}
use Rattle.fam_alloc.specs.Next.{is_between}
use Rattle.fam_alloc.specs.Taken.{units_by}
use Rattle.fam_alloc.specs.FreeRuns.{is_free, starts_run, free_ahead, runs_of, free_runs}
use Rattle.fam_alloc.specs.Runs.{in_runs, outside, AreSpaced, NoneEmpty}
use Rattle.fam_alloc.proofs.MapLemmas.{length-units_by, taken_below}
use Rattle.fam_alloc.proofs.SpacedLemmas.{behind_run, within_run, clear_below, clear_past}

-- numbers that fail a test are left out
filter_skip : (f : ℕ → Bool) (a n m : ℕ) → ((u : ℕ) → a ≤ u → u < a + n → f u ≡ false) → filter f (range_with_len a (n + m)) ≡ filter f (range_with_len (a + n) m)
filter_skip f a zero m none = ap (λ (k : ℕ). filter f (range_with_len a k)) (let e : 0 + m ≡ m = omega arith in e)
    ∙ ap (λ (k : ℕ). filter f (range_with_len k m)) (let e : a ≡ a + 0 = omega arith in e)
filter_skip f a (suc n) m none =
    ap (λ (k : ℕ). filter f (range_with_len a k)) (let e : suc n + m ≡ suc (n + m) = omega arith in e)
    ∙ cond-false (f a) (a ∷ filter f (range_with_len (a + 1) (n + m))) (filter f (range_with_len (a + 1) (n + m))) (none a (omega arith) (omega arith))
    ∙ filter_skip f (a + 1) n m (λ u low high. none u (omega arith) (omega arith))
    ∙ ap (λ (k : ℕ). filter f (range_with_len k m)) (let e : a + 1 + n ≡ a + suc n = omega arith in e)

-- all of them
filter_none : (f : ℕ → Bool) (a n : ℕ) → ((u : ℕ) → a ≤ u → u < a + n → f u ≡ false) → filter f (range_with_len a n) ≡ []
filter_none f a zero none = refl
filter_none f a (suc n) none =
    cond-false (f a) (a ∷ filter f (range_with_len (a + 1) n)) (filter f (range_with_len (a + 1) n)) (none a (omega arith) (omega arith))
    ∙ filter_none f (a + 1) n (λ u low high. none u (omega arith) (omega arith))

-- and where no numbers are behind them
none_left : (f : ℕ → Bool) (a n b m : ℕ) → ((u : ℕ) → a ≤ u → u < a + n → f u ≡ false) → m ≡ 0 → filter f (range_with_len a n) ≡ filter f (range_with_len b m)
none_left f a n b m none last =
    filter_none f a n none ∙ ap (λ (k : ℕ). filter f (range_with_len b k)) (sym last)

-- n free units and then one that isn't
ahead_is : (free : ℕ → Bool) (a n m : ℕ) → ((u : ℕ) → a ≤ u → u < a + n → free u ≡ true) → free (a + n) ≡ false → free_ahead free a (n + m) ≡ n
ahead_is free a zero zero all none = refl
ahead_is free a zero (suc m) all none =
    ap (free_ahead free a) (let e : 0 + suc m ≡ suc m = omega arith in e)
    ∙ cond-false (free a) (1 + free_ahead free (a + 1) m) 0 (ap free (let e : a ≡ a + 0 = omega arith in e) ∙ none)
ahead_is free a (suc n) m all none =
    ap (free_ahead free a) (let e : suc n + m ≡ suc (n + m) = omega arith in e)
    ∙ cond-true (free a) (1 + free_ahead free (a + 1) (n + m)) 0 (all a (omega arith) (omega arith))
    ∙ ap (λ (k : ℕ). 1 + k) (ahead_is free (a + 1) n m (λ u low high. all u (omega arith) (omega arith)) (ap free (let e : a + 1 + n ≡ a + suc n = omega arith in e) ∙ none))
    ∙ omega arith

-- a test that answers as the runs do
module _ (free : ℕ → Bool) (units : ℕ) where
  -- no run starts where the unit isn't free, nor where its lower neighbour is
  not_free : (u : ℕ) → free u ≡ false → starts_run free u ≡ false
  not_free u none = and_left (free u) (not (ltb 0 u && free (u - 1))) none

  goes_on : (u : ℕ) → 0 < u → free (u - 1) ≡ true → starts_run free u ≡ false
  goes_on u some lower = rw (lt-ltb 0 u some, lower) (and_right (free u) false refl)

  begins : (u : ℕ) → free u ≡ true → (0 < u → free (u - 1) ≡ false) → starts_run free u ≡ true
  begins u here lower = elim (cases_lt 0 u) [
    | inl some ↦ rw (here, lower some) (ap not (and_right (ltb 0 u) false refl))
    | inr none ↦ rw (here, le-ltb 0 u none) refl
  ]

  -- the pair of a start
  abbrev pair : ℕ → ℕ × ℕ
  pair u = (u, free_ahead free u (units - u))

  runs_from : (low : ℕ) (rs : List (ℕ × ℕ)) → AreSpaced low units rs → NoneEmpty rs → ((u : ℕ) → low ≤ u → free u ≡ in_runs rs u)
      → (0 < low → free (low - 1) ≡ false) → map pair (filter (starts_run free) (range_with_len low (units - low))) ≡ rs
  runs_from low [] p some same lower =
      ap (λ (xs : List ℕ). map pair xs) (filter_none (starts_run free) low (units - low) (λ u h below. not_free u (same u h)))
  runs_from low (r ∷ rs) p some same lower =
      ap (λ (xs : List ℕ). map pair xs) (to_start ∙ at_start)
      ∙ ap (λ (n : ℕ). (r.0, n) ∷ map pair (filter (starts_run free) (range_with_len (r.0 + 1) (units - (r.0 + 1))))) ahead
      ∙ ap (λ (xs : List (ℕ × ℕ)). r ∷ xs)
      (ap (λ (xs : List ℕ). map pair xs) skipped
      ∙ runs_from (r.0 + r.1 + 1) rs p.2 some.1 (λ u h. rest u (omega arith)) (λ h. ap free (let e : r.0 + r.1 + 1 - 1 ≡ r.0 + r.1 = omega arith in e) ∙ ends))
    where
      -- before the run
      clear : (u : ℕ) → low ≤ u → u < r.0 → free u ≡ false
      clear u h below = same u h ∙ clear_below r.0 units (r ∷ rs) u (omega arith, p.1, p.2) below

      -- in it
      inside : (u : ℕ) → r.0 ≤ u → u < r.0 + r.1 → free u ≡ true
      inside u from to = same u (omega (arith, p.0)) ∙ or_left (is_between r.0 (r.0 + r.1) u) (in_runs rs u) (within_run r.0 (r.0 + r.1) u from to)

      -- behind it
      rest : (u : ℕ) → r.0 + r.1 ≤ u → free u ≡ in_runs rs u
      rest u past = same u (omega (arith, p.0)) ∙ ap (λ (b : Bool). b || in_runs rs u) (behind_run r.0 (r.0 + r.1) u past)

      ends : free (r.0 + r.1) ≡ false
      ends = rest (r.0 + r.1) (omega arith) ∙ clear_below (r.0 + r.1 + 1) units rs (r.0 + r.1) p.2 (omega arith)

      to_start : filter (starts_run free) (range_with_len low (units - low)) ≡ filter (starts_run free) (range_with_len r.0 (units - r.0))
      to_start =
          ap (λ (k : ℕ). filter (starts_run free) (range_with_len low k)) (let e : units - low ≡ (r.0 - low) + (units - r.0) = omega (arith, p.0, p.1) in e)
          ∙ filter_skip (starts_run free) low (r.0 - low) (units - r.0) (λ u from to. not_free u (clear u from (omega (arith, p.0))))
          ∙ ap (λ (k : ℕ). filter (starts_run free) (range_with_len k (units - r.0))) (let e : low + (r.0 - low) ≡ r.0 = omega (arith, p.0) in e)

      first_of_all : 0 < r.0 → free (r.0 - 1) ≡ false
      first_of_all more = elim (cases_lt low r.0) [
        | inl above ↦ clear (r.0 - 1) (omega arith) (omega arith)
        | inr at ↦
            let e : r.0 - 1 ≡ low - 1 = omega (arith, p.0) in
            ap free e ∙ lower (omega arith)
      ]

      at_start : filter (starts_run free) (range_with_len r.0 (units - r.0)) ≡ r.0 ∷ filter (starts_run free) (range_with_len (r.0 + 1) (units - (r.0 + 1)))
      at_start =
          ap (λ (k : ℕ). filter (starts_run free) (range_with_len r.0 k)) (let e : units - r.0 ≡ suc (units - (r.0 + 1)) = omega (arith, p.1, some.0) in e)
          ∙ cond-true (starts_run free r.0) (r.0 ∷ filter (starts_run free) (range_with_len (r.0 + 1) (units - (r.0 + 1)))) (filter (starts_run free) (range_with_len (r.0 + 1) (units - (r.0 + 1))))
          (begins r.0 (inside r.0 (omega arith) (omega (arith, some.0))) first_of_all)

      ahead : free_ahead free r.0 (units - r.0) ≡ r.1
      ahead =
          ap (free_ahead free r.0) (let e : units - r.0 ≡ r.1 + (units - (r.0 + r.1)) = omega (arith, p.1) in e)
          ∙ ahead_is free r.0 r.1 (units - (r.0 + r.1)) inside ends

      -- no run starts up to its end, nor right behind it
      no_start : (u : ℕ) → r.0 + 1 ≤ u → u < r.0 + r.1 + 1 → starts_run free u ≡ false
      no_start u from to = elim (cases_lt u (r.0 + r.1)) [
        | inl within ↦ goes_on u (omega arith) (inside (u - 1) (omega arith) (omega arith))
        | inr at ↦ not_free u (ap free (let e : u ≡ r.0 + r.1 = omega arith in e) ∙ ends)
      ]

      skipped : filter (starts_run free) (range_with_len (r.0 + 1) (units - (r.0 + 1))) ≡ filter (starts_run free) (range_with_len (r.0 + r.1 + 1) (units - (r.0 + r.1 + 1)))
      skipped = elim (cases_lt (r.0 + r.1) units) [
        | inl more ↦
            ap (λ (k : ℕ). filter (starts_run free) (range_with_len (r.0 + 1) k)) (let e : units - (r.0 + 1) ≡ r.1 + (units - (r.0 + r.1 + 1)) = omega arith in e)
            ∙ filter_skip (starts_run free) (r.0 + 1) r.1 (units - (r.0 + r.1 + 1)) (λ u from to. no_start u from (omega arith))
            ∙ ap (λ (k : ℕ). filter (starts_run free) (range_with_len k (units - (r.0 + r.1 + 1)))) (let e : r.0 + 1 + r.1 ≡ r.0 + r.1 + 1 = omega arith in e)
        | inr last ↦ none_left (starts_run free) (r.0 + 1) (units - (r.0 + 1)) (r.0 + r.1 + 1) (units - (r.0 + r.1 + 1)) (λ u from to. no_start u from (omega (arith, p.1))) (omega (arith, p.1))
      ]

-- what is free is what stands in the runs
free_in : (units : ℕ) (rs : List (ℕ × ℕ)) → AreSpaced 0 units rs → (u : ℕ) → is_free (units_by (outside rs) units) u ≡ in_runs rs u
free_in units rs p u = elim (cases_lt u units) [
  | inl below ↦
      rw (length-units_by (outside rs) units, lt-ltb u units below, taken_below (outside rs) units u below) (twice (in_runs rs u))
  | inr past ↦
      rw (length-units_by (outside rs) units, le-ltb u units past) (sym (clear_past 0 units rs u p past))
]
  where
    twice : (x : Bool) → not (not x) ≡ x
    twice true = refl
    twice false = refl

-- the free runs of the list
pub free_runs_are : (units : ℕ) (rs : List (ℕ × ℕ)) → AreSpaced 0 units rs → NoneEmpty rs → rs ≡ free_runs (units_by (outside rs) units)
unfolding free_runs
free_runs_are units rs p some =
    let free : ℕ → Bool = is_free (units_by (outside rs) units) in
    sym (runs_from free units 0 rs p some (λ u h. free_in units rs p u) (λ h. absurd (omega arith)))
    ∙ ap (λ (k : ℕ). map (pair free units) (filter (starts_run free) (range_with_len 0 k))) (let e : units - 0 ≡ units = omega arith in e)
    ∙ ap (runs_of free) (sym (length-units_by (outside rs) units))

-- the same of a list of units that the runs stand for
pub free_runs_of_view : (units : ℕ) (rs : List (ℕ × ℕ)) (map : List Bool) → AreSpaced 0 units rs → NoneEmpty rs → units_by (outside rs) units ≡ map → rs ≡ free_runs map
free_runs_of_view units rs map p some view = free_runs_are units rs p some ∙ ap free_runs view
