-- Bits of a word and of words, and the next one in a state.
use Rattle.std.specs.Prelude.{ℕ, Bool, not, ◌≡◌, ◌/◌, ◌%◌, ◌^◌, ◌<◌, ◌≤◌, ◌==◌, ◌&&◌, List, slice_index, nat_le, nat_lt}

-- bit i of a word, from the low end
abbrev pub has_bit : ℕ → ℕ → Bool
has_bit word i = word / 2 ^ i % 2 == 1

-- bit u of a bitmap
abbrev pub is_bit_set : List ℕ → ℕ → Bool
is_bit_set words u = has_bit (slice_index words (u / 64)) (u % 64)

-- u is from `from` on and below `to`
abbrev pub is_between : ℕ → ℕ → ℕ → Bool
is_between from to u = nat_le from u && nat_lt u to

-- the first number from `from` on at which the test gives `state`, or `to` where there is none before it
pub record IsNext (test : ℕ → Bool) (state : Bool) (from to next : ℕ) : Type 0 where
  pub low : from ≤ next
  pub high : next ≤ to
  pub before : (u : ℕ) → from ≤ u → u < next → test u ≡ not state
  pub here : next < to → test next ≡ state
