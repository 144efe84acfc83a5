-- The words at the two ends of some bytes.
use Rattle.std.specs.Prelude.{ℕ, ◌≡◌, ◌-◌, ◌≤◌, List, length, slice_range}
use Rattle.fam_base.specs.PathOrder.{big}

-- one word or two of them, which may overlap, hold all of the bytes: their first eight and their last eight as numbers, the first
-- byte highest
pub record AreEnds (bytes : List ℕ) (first last : ℕ) : Type 0 where
  pub some : 8 ≤ length bytes
  pub few : length bytes ≤ 16
  pub first_word : first ≡ big 0 (slice_range bytes 0 8)
  pub last_word : last ≡ big 0 (slice_range bytes (length bytes - 8) (length bytes))
