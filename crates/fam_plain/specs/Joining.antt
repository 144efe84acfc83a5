-- A unit among those that were seen so far.
use Rattle.std.specs.Prelude.{ℕ, ◌==◌, ◌||◌, nat_lt, Bool, List}
use Rattle.std.specs.List.{list_any}

-- a unit is one of superblock and log, which are the first ones, or one of a list
abbrev pub is_seen : ℕ → List ℕ → ℕ → Bool
is_seen head seen unit = nat_lt unit head || list_any (λ other. other == unit) seen
