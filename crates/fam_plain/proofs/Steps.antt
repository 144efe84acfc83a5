-- The register, step by step.
use Rattle.std.proofs.Common.{◌≡◌, ℕ, suc, ◌+◌, ◌-◌, ◌<◌, ap, sym, ◌∙◌, refl, arith}
use Rattle.fam_crc.specs.Crc.{step, steps}

-- n steps more are one and then the others
one_step : (n r : ℕ) → steps (suc n) r ≡ steps n (step r)
unfolding steps
one_step n r = refl

-- while there are steps to go, one is made
pub next_step : (all i r : ℕ) → i < all → steps (all - (i + 1)) (step r) ≡ steps (all - i) r
next_step all i r below =
    let left : suc (all - (i + 1)) ≡ all - i = omega arith in
    sym (one_step (all - (i + 1)) r) ∙ ap (λ (n : ℕ). steps n r) left

-- none is to go
pub last_step : (n r : ℕ) → n ≡ 0 → steps n r ≡ r
unfolding steps
last_step n r none = ap (λ (k : ℕ). steps k r) none
