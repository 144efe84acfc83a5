-- What CRC-32 means, by polynomials over the field of two elements. A polynomial is a number: bit i is the
-- coefficient of x ^ i. A sum is `bit_xor`, and so is a difference; times x ^ n is times 2 ^ n.
use Rattle.std.specs.Prelude.{ℕ, zero, suc, ◌+◌, ◌*◌, ◌/◌, ◌%◌, ◌^◌, ◌<◌, bit_xor, fold, List, length}
use Rattle.fam_crc.specs.Crc.{all_ones}

-- the generator of CRC-32: the powers 32, 26, 23, 22, 16, 12, 11, 10, 8, 7, 5, 4, 2, 1 and 0 of x
abbrev pub generator : ℕ
generator = 0x104c11db7

-- the multiples of the generator: itself, x times a multiple, and the sum of two
pub data IsMultiple : ℕ → Type 0 where
  itself : IsMultiple generator
  times_x : (a : ℕ) → IsMultiple a → IsMultiple (a * 2)
  sum : (a b : ℕ) → IsMultiple a → IsMultiple b → IsMultiple (bit_xor a b)

-- the n low bits of b in the other order
unfoldable pub reversed : ℕ → ℕ → ℕ
reversed zero b = 0
reversed (suc n) b = b % 2 * 2 ^ n + reversed n (b / 2)

-- the bytes' bits as a polynomial, the lowest bit of the first byte at the highest power
abbrev pub message : List ℕ → ℕ
message bytes = fold (λ m byte. m * 2 ^ 8 + reversed 8 byte) 0 bytes

-- what is divided: the message times x ^ 32, with its first 32 bits inverted
abbrev pub dividend : List ℕ → ℕ
dividend bytes = bit_xor (message bytes * 2 ^ 32) (all_ones * 2 ^ (8 * length bytes))

-- the remainder that a checksum stands for: inverted, its bits in the other order
abbrev pub remainder_of : ℕ → ℕ
remainder_of crc = reversed 32 (bit_xor crc all_ones)

-- crc is the checksum of the bytes: of 32 bits, so that its remainder is of lower degree than the generator,
-- and the dividend less this remainder is a multiple of the generator
pub record IsRemainder (bytes : List ℕ) (crc : ℕ) : Type 0 where
  pub small : crc < 2 ^ 32
  pub multiple : IsMultiple (bit_xor (dividend bytes) (remainder_of crc))
