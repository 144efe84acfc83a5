-- Whether one of the units of extents passes a test.
use Rattle.std.proofs.Common.{◌≡◌, ℕ, zero, suc, Bool, true, false, ◌+◌, ◌/◌, ◌<◌, ◌≤◌, List, ◌++◌, length, drop, get_or, refl, sym, ap, subst, ◌∙◌, inl, inr, arith}
use Rattle.std.specs.List.{list_any, range_with_len}
use Rattle.std.proofs.lemmas.Bool.{cases_eq, or_left}
use Rattle.fam_base.specs.declared.extents.Extent.{Extent}
use Rattle.fam_base.specs.ExtentLists.{no_extent}
use Rattle.fam_format.specs.Units.{units_in}
use Rattle.fam_alloc.specs.Next.{IsNext}
use Rattle.fam_alloc.proofs.OverlapLemmas.{units_rest}

-- a unit of a run passes
any_found : (f : ℕ → Bool) (a n first : ℕ) (us : List ℕ) → IsNext f true a (a + n) first → first < a + n → true ≡ list_any f (range_with_len a n ++ us)
any_found f a zero first us h below = absurd (omega (arith, h.low))
any_found f a (suc n) first us h below =
    elim (cases_eq first a) [
      | inl at ↦ sym (or_left (f a) (list_any f (range_with_len (a + 1) n ++ us)) (ap f (sym at) ∙ h.here below))
      | inr other ↦
          let clear : f a ≡ false = h.before a (omega arith) (omega (arith, h.low)) in
          rw clear (any_found f (a + 1) n first us (record {
            low = omega (arith, h.low);
            high = omega (arith, h.high);
            before = λ u above under. h.before u (omega arith) under;
            here = λ q. h.here below;
          }) (omega arith))
    ]

-- no unit of a run passes
any_passed : (f : ℕ → Bool) (a n : ℕ) (us : List ℕ) → ((u : ℕ) → a ≤ u → u < a + n → f u ≡ false) → list_any f us ≡ list_any f (range_with_len a n ++ us)
any_passed f a zero us free = refl
any_passed f a (suc n) us free =
    rw (free a (omega arith) (omega arith)) (any_passed f (a + 1) n us (λ u above below. free u (omega arith) (omega arith)))

-- a unit of an extent passes
pub any_at : (f : ℕ → Bool) (unit : ℕ) (extents : List Extent) (i start end first : ℕ) → i < length extents
    → start ≡ (get_or extents i no_extent).offset / unit → end ≡ start + (get_or extents i no_extent).length / unit → IsNext f true start end first
    → first < end → true ≡ list_any f (units_in unit (drop i extents))
any_at f unit extents i start end first below s e h taken =
    let n : ℕ = (get_or extents i no_extent).length / unit in
    let rest : List ℕ = units_in unit (drop (i + 1) extents) in
    any_found f start n first rest (subst (λ (k : ℕ). IsNext f true start k first) e h) (omega arith)
    ∙ ap (λ (k : ℕ). list_any f (range_with_len k n ++ rest)) s
    ∙ ap (list_any f) (sym (units_rest unit extents i below))

-- no unit of an extent passes
pub none_at : (f : ℕ → Bool) (unit : ℕ) (extents : List Extent) (i start end first : ℕ) → i < length extents
    → start ≡ (get_or extents i no_extent).offset / unit → end ≡ start + (get_or extents i no_extent).length / unit → IsNext f true start end first
    → end ≤ first → list_any f (units_in unit (drop (i + 1) extents)) ≡ list_any f (units_in unit (drop i extents))
none_at f unit extents i start end first below s e h clear =
    let n : ℕ = (get_or extents i no_extent).length / unit in
    let a : ℕ = (get_or extents i no_extent).offset / unit in
    let rest : List ℕ = units_in unit (drop (i + 1) extents) in
    any_passed f a n rest (λ u above under. h.before u (omega arith) (omega arith))
    ∙ ap (list_any f) (sym (units_rest unit extents i below))
