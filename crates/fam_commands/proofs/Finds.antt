-- The first number of a range that passes a test.
use Rattle.std.proofs.Common.{ℕ, zero, suc, ◌≡◌, ◌<◌, ◌≤◌, ◌+◌, inl, inr, Bool, true, false, cond, Option, Some, None, refl, sym, ◌∙◌, ap, subst, arith}
use Rattle.std.specs.Prelude.{find}
use Rattle.std.specs.List.{range_with_len}
use Rattle.std.proofs.lemmas.Bool.{cases_Bool, cases_eq, cases_lt, false≢true}

-- k is the first of n numbers from a on that passes
pub record IsFirst (test : ℕ → Bool) (a n k : ℕ) : Type 0 where
  pub from : a ≤ k
  pub below : k < a + n
  pub passes : test k ≡ true
  pub before : (o : ℕ) → a ≤ o → o < k → test o ≡ false

-- what a search found, or that there is nothing
abbrev pub IsSearched : (ℕ → Bool) → ℕ → ℕ → Option ℕ → Type 0
IsSearched test a n (Some k) = IsFirst test a n k
IsSearched test a n None = (o : ℕ) → a ≤ o → o < a + n → test o ≡ false

later : (test : ℕ → Bool) (a n : ℕ) (r : Option ℕ) → test a ≡ false → IsSearched test (a + 1) n r → IsSearched test a (suc n) r
later test a n (Some k) fails h =
    record {
      from = let e = h.from in omega arith;
      below = let e = h.below in omega arith;
      passes = h.passes;
      before = λ o low high. elim (cases_eq a o) [
        | inl same ↦ ap test (sym same) ∙ fails
        | inr other ↦ h.before o (omega arith) high
      ];
    }
later test a n None fails h = λ o low high.
    elim (cases_eq a o) [
      | inl same ↦ ap test (sym same) ∙ fails
      | inr other ↦ h o (omega arith) (omega arith)
    ]

-- a search finds the first, or says that there is none
pub searched : (test : ℕ → Bool) (n a : ℕ) → IsSearched test a n (find test (range_with_len a n))
searched test zero a = λ o low high. absurd (omega arith)
searched test (suc n) a =
    elim (cases_Bool (test a)) [
      | inl passes ↦
          subst (λ (b : Bool). IsSearched test a (suc n) (cond b (Some a) (find test (range_with_len (a + 1) n)))) (sym passes)
          (record { from = omega arith; below = omega arith; passes = passes; before = λ o low high. absurd (omega arith) })
      | inr fails ↦
          subst (λ (b : Bool). IsSearched test a (suc n) (cond b (Some a) (find test (range_with_len (a + 1) n)))) (sym fails)
          (later test a n (find test (range_with_len (a + 1) n)) fails (searched test n (a + 1)))
    ]

-- there is one first
pub first_is : (test : ℕ → Bool) (n k : ℕ) → k < n → test k ≡ true → ((o : ℕ) → o < k → test o ≡ false) → (r : Option ℕ) → IsSearched test 0 n r → r ≡ Some k
first_is test n k below passes before None h = absurd (false≢true (sym (h k (omega arith) (omega arith)) ∙ passes))
first_is test n k below passes before (Some other) h =
    elim (cases_eq other k) [
      | inl same ↦ ap Some same
      | inr apart ↦
          elim (cases_lt other k) [
            | inl less ↦ absurd (false≢true (sym (before other less) ∙ h.passes))
            | inr more ↦ absurd (false≢true (sym (h.before k (omega arith) (omega arith)) ∙ passes))
          ]
    ]

-- there is none
pub none_is : (test : ℕ → Bool) (n : ℕ) → ((o : ℕ) → o < n → test o ≡ false) → (r : Option ℕ) → IsSearched test 0 n r → r ≡ None
none_is test n none None h = refl
none_is test n none (Some k) h = absurd (false≢true (sym (none k (let e = h.below in omega arith)) ∙ h.passes))
