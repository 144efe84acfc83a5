-- Slots with a short path and no map.
use Rattle.std.specs.Prelude.{ℕ, ◌≡◌, ◌≤◌, List, slice_index}

-- at most 32 bytes of a path, and neither bytes nor a map
pub record IsShort (words : List ℕ) : Type 0 where
  pub path : slice_index words 6 ≤ 32
  pub size : slice_index words 2 ≡ 0
  pub map : slice_index words 7 ≡ 0
  pub chunk : slice_index words 8 ≡ 0
  pub count : slice_index words 9 ≡ 0
