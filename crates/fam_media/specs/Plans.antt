-- Which calls of a form in memory are to fail. Calls are counted from 0, and a count stays at its last value.
use Rattle.std.specs.Prelude.{ℕ, ◌+◌, ◌-◌, ◌^◌, ◌==◌, min, if◌then◌else◌, Bool, true, false, List, [], ◌∷◌, Option, Some, None}

-- one more, at most the last value of 64 bits
abbrev pub one_more : ℕ → ℕ
one_more count = min (count + 1) (2 ^ 64 - 1)

-- what was planned last for the call with that number, and None where it is to succeed
abbrev pub planned : {T : Type 0} → List (ℕ × T) → ℕ → Option T
planned [] call = None
planned (p ∷ plan) call = if p.0 == call then Some p.1 else planned plan call

-- is the call with that number among those that are to fail
abbrev pub is_planned : List ℕ → ℕ → Bool
is_planned [] call = false
is_planned (p ∷ plan) call = if p == call then true else is_planned plan call

-- a count, one more where the test holds
abbrev pub count_if : Bool → ℕ → ℕ
count_if test count = if test then one_more count else count
