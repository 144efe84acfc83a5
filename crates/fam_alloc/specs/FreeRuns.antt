-- The free runs of a device: where units stand free in a row, and how many.
use Prim.Native.Nat.{zero, suc}
use Rattle.std.specs.Prelude.{ℕ, Bool, not, ◌+◌, ◌-◌, ◌&&◌, List, length, map, nat_lt, if◌then◌else◌}
use Rattle.std.specs.List.{filter, range_with_len}
use Rattle.fam_alloc.specs.Taken.{is_taken}

-- u is a unit and isn't used
abbrev pub is_free : List Bool → ℕ → Bool
is_free map u = nat_lt u (length map) && not (is_taken map u)

-- a free run starts at u: it is free, and its lower neighbour isn't free or isn't a unit
abbrev pub starts_run : (ℕ → Bool) → ℕ → Bool
starts_run free u = free u && not (nat_lt 0 u && free (u - 1))

-- how many of the k units from u on stand before the first that isn't free
abbrev pub free_ahead : (ℕ → Bool) → ℕ → ℕ → ℕ
free_ahead free u zero = 0
free_ahead free u (suc k) = if free u then 1 + free_ahead free (u + 1) k else 0

-- start and length of each free run, upwards, of so many units. A run ends before the next unit that isn't free or isn't a unit
abbrev pub runs_of : (ℕ → Bool) → ℕ → List (ℕ × ℕ)
runs_of free units = map (λ u. (u, free_ahead free u (units - u))) (filter (starts_run free) (range_with_len 0 units))

-- the free runs of a map that says of each unit whether it is used
unfoldable pub free_runs : List Bool → List (ℕ × ℕ)
free_runs map = runs_of (is_free map) (length map)
