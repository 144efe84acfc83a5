-- The words of a head: 42 words of which all but the first, the second and the fourth to the seventh are 0.
use Rattle.std.specs.Prelude.{ℕ, ◌<◌, ◌^◌, bit_xor}
use Rattle.fam_crc.specs.Crc.{all_ones, steps}

-- these six take three bytes, one, two, two, two and one
pub record AreSmall (first second fourth fifth sixth seventh : ℕ) : Type 0 where
  pub a : first < 2 ^ 24
  pub b : second < 2 ^ 8
  pub c : fourth < 2 ^ 16
  pub d : fifth < 2 ^ 16
  pub e : sixth < 2 ^ 16
  pub f : seventh < 2 ^ 8

-- the register behind a head: each word comes in, and its steps are done with those of the zeros behind it
unfoldable pub head_steps : (first second fourth fifth sixth seventh : ℕ) → ℕ
head_steps a b c d e f =
    steps 2304 (bit_xor (steps 64 (bit_xor (steps 64 (bit_xor (steps 64 (bit_xor (steps 128 (bit_xor (steps 64 (bit_xor all_ones a)) b)) c)) d)) e)) f)
