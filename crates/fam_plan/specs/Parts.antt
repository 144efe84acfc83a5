-- The order of a plan's entries: parts of as many paths each, and the last ones behind them.
use Rattle.std.specs.Prelude.{ℕ, ◌≡◌, List, ◌++◌, length}
use Rattle.std.specs.List.{AllByRecursion, flat_map}
use Rattle.fam_plan.specs.declared.order.TheConstants.{PART}

-- the paths of parts and those behind them
abbrev pub paths_of : List (List (List ℕ)) → List (List ℕ) → List (List ℕ)
paths_of full last = flat_map (λ part. part) full ++ last

-- each part is full
abbrev pub AreFull : List (List (List ℕ)) → Type 0
AreFull full = AllByRecursion (λ part. length part ≡ PART) full

-- an order of so many paths
pub record AreParts (full : List (List (List ℕ))) (last : List (List ℕ)) (count : ℕ) : Type 0 where
  pub each : AreFull full
  pub counted : count ≡ length (paths_of full last)
