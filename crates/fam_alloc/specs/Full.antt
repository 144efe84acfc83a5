-- Hints over a bitmap: which of its words are full.
use Rattle.std.specs.Prelude.{ℕ, true, ◌≡◌, ◌*◌, ◌/◌, ◌≤◌, List, length}
use Rattle.fam_alloc.specs.Next.{is_bit_set}

-- each unit of a word that is marked as full is used
abbrev pub AreFull : List ℕ → List ℕ → Type 0
AreFull words full = (u : ℕ) → is_bit_set full (u / 64) ≡ true → is_bit_set words u ≡ true

-- a bitmap, and three bitmaps of hints, each over the one before
pub record AreLayers (words full blocks tops : List ℕ) : Type 0 where
  pub words_full : AreFull words full
  pub full_full : AreFull full blocks
  pub blocks_full : AreFull blocks tops
  pub words_room : length words ≤ 64 * length full
  pub full_room : length full ≤ 64 * length blocks
  pub blocks_room : length blocks ≤ 64 * length tops
