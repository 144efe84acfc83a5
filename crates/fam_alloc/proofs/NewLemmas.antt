-- A new map: the first units are used, and the rest is one run.
use Rattle.std.proofs.Common.{◌≡◌, ℕ, ◌+◌, ◌-◌, ◌<◌, ◌≤◌, List, [], ◌∷◌, length, ltb, refl, sym, ap, subst, ◌∙◌, inl, inr, arith}
use Rattle.std.proofs.lemmas.Bool.{cases_lt, cond-true, cond-false, lt-ltb, le-ltb}
use Rattle.fam_alloc.specs.declared.bits.TheConstants.{MOST_UNITS}
use Rattle.fam_alloc.specs.Taken.{units_by}
use Rattle.fam_alloc.specs.FreeRuns.{free_runs}
use Rattle.fam_alloc.specs.Runs.{outside, AreSpaced, NoneEmpty, run_after, IsMap}
use Rattle.fam_alloc.proofs.ViewLemmas.{new_counted}
use Rattle.fam_alloc.proofs.SpacedLemmas.{before_run, within_run}
use Rattle.fam_alloc.proofs.FreeRunsLemmas.{free_runs_are}

module _ (rs : List (ℕ × ℕ)) (units used : ℕ) (within : used ≤ units) (is : rs ≡ run_after used units) where
  -- a unit is free exactly if it isn't one of the first
  pub outside_behind : (u : ℕ) → u < units → outside rs u ≡ ltb u used
  outside_behind u below = ap (λ (xs : List (ℕ × ℕ)). outside xs u) is ∙ elim (cases_lt used units) [
    | inl some ↦
        ap (λ (xs : List (ℕ × ℕ)). outside xs u) (cond-true (ltb used units) ((used, units - used) ∷ []) [] (lt-ltb used units some))
        ∙ elim (cases_lt u used) [
          | inl low ↦ rw (before_run used (used + (units - used)) u low, lt-ltb u used low) refl
          | inr high ↦ rw (within_run used (used + (units - used)) u high (omega arith), le-ltb u used high) refl
        ]
    | inr none ↦
        ap (λ (xs : List (ℕ × ℕ)). outside xs u) (cond-false (ltb used units) ((used, units - used) ∷ []) [] (le-ltb used units none))
        ∙ sym (lt-ltb u used (omega arith))
  ]

  spaced_behind : AreSpaced 0 units rs
  spaced_behind = subst (AreSpaced 0 units) (sym is) (elim (cases_lt used units) [
    | inl some ↦ subst (AreSpaced 0 units) (sym (cond-true (ltb used units) ((used, units - used) ∷ []) [] (lt-ltb used units some))) (omega arith, omega arith, tt)
    | inr none ↦ subst (AreSpaced 0 units) (sym (cond-false (ltb used units) ((used, units - used) ∷ []) [] (le-ltb used units none))) tt
  ])

  some_behind : NoneEmpty rs
  some_behind = subst NoneEmpty (sym is) (elim (cases_lt used units) [
    | inl some ↦ subst NoneEmpty (sym (cond-true (ltb used units) ((used, units - used) ∷ []) [] (lt-ltb used units some))) (omega arith, tt)
    | inr none ↦ subst NoneEmpty (sym (cond-false (ltb used units) ((used, units - used) ∷ []) [] (le-ltb used units none))) tt
  ])

  -- how its fields hang together
  pub new_map : units ≤ MOST_UNITS → IsMap rs units used
  new_map limit = record {
    few = limit;
    spaced = spaced_behind;
    some = some_behind;
    counted = new_counted (outside rs) units used within outside_behind;
  }

  -- at most one run
  pub new_few : length (free_runs (units_by (outside rs) units)) ≤ 1
  new_few =
      let same = ap (λ (xs : List (ℕ × ℕ)). length xs) (free_runs_are units rs spaced_behind some_behind) in
      let count = ap (λ (xs : List (ℕ × ℕ)). length xs) is in
      elim (cases_lt used units) [
        | inl some ↦ omega (arith, same, count, ap (λ (xs : List (ℕ × ℕ)). length xs) (cond-true (ltb used units) ((used, units - used) ∷ []) [] (lt-ltb used units some)))
        | inr none ↦ omega (arith, same, count, ap (λ (xs : List (ℕ × ℕ)). length xs) (cond-false (ltb used units) ((used, units - used) ∷ []) [] (le-ltb used units none)))
      ]
