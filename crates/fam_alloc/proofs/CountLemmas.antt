-- How many units of a run pass a test.
use Rattle.std.proofs.Common.{◌≡◌, ℕ, zero, suc, Bool, true, false, ◌+◌, ◌-◌, ◌<◌, ◌≤◌, List, cond, ap, ◌∙◌, arith}
use Rattle.fam_alloc.specs.Next.{is_bit_set, IsNext}
use Rattle.fam_alloc.specs.Taken.{taken_units, units_by}
use Rattle.fam_alloc.proofs.MapLemmas.{passing, passing-suc}

-- all of them
run_passes : (f : ℕ → Bool) (a n : ℕ) → ((u : ℕ) → a ≤ u → u < a + n → f u ≡ true) → passing f (a + n) ≡ passing f a + n
run_passes f a zero all =
    let same : a + 0 ≡ a = omega arith in
    ap (passing f) same ∙ omega arith
run_passes f a (suc n) all =
    let next : a + suc n ≡ suc (a + n) = omega arith in
    let here : f (a + n) ≡ true = all (a + n) (omega arith) (omega arith) in
    let before : passing f (a + n) ≡ passing f a + n = run_passes f a n (λ u low high. all u low (omega arith)) in
    ap (passing f) next ∙ passing-suc f (a + n) ∙ ap (λ (b : Bool). passing f (a + n) + cond b 1 0) here ∙ omega (arith, before)

-- none of them
run_fails : (f : ℕ → Bool) (a n : ℕ) → ((u : ℕ) → a ≤ u → u < a + n → f u ≡ false) → passing f (a + n) ≡ passing f a
run_fails f a zero all =
    let same : a + 0 ≡ a = omega arith in
    ap (passing f) same
run_fails f a (suc n) all =
    let next : a + suc n ≡ suc (a + n) = omega arith in
    let here : f (a + n) ≡ false = all (a + n) (omega arith) (omega arith) in
    let before : passing f (a + n) ≡ passing f a = run_fails f a n (λ u low high. all u low (omega arith)) in
    ap (passing f) next ∙ passing-suc f (a + n) ∙ ap (λ (b : Bool). passing f (a + n) + cond b 1 0) here ∙ omega (arith, before)

-- free units up to `start`, and used ones up to `end`
pub run_counted : (f : ℕ → Bool) (unit units start end count : ℕ) → count ≡ passing f unit → IsNext f true unit units start → IsNext f false start units end → count + (end - start) ≡ passing f end
run_counted f unit units start end count had first second =
    let gap : passing f start ≡ passing f unit =
    ap (passing f) (let e : start ≡ unit + (start - unit) = omega (arith, first.low) in e)
    ∙ run_fails f unit (start - unit) (λ u low high. first.before u low (omega (arith, first.low))) in
    let run : passing f end ≡ passing f start + (end - start) =
    ap (passing f) (let e : end ≡ start + (end - start) = omega (arith, second.low) in e)
    ∙ run_passes f start (end - start) (λ u low high. second.before u low (omega (arith, second.low))) in
    omega (arith, gap, run, had)

-- the count of the list
pub counted_units : (words : List ℕ) (units count : ℕ) → count ≡ passing (is_bit_set words) units → count ≡ taken_units (units_by (is_bit_set words) units)
unfolding units_by
counted_units words units count h = h
