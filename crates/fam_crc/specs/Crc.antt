-- CRC-32 bit by bit, with the reflected polynomial of ISO-HDLC, zlib and PNG. In the register the lowest
-- bit is the coefficient of the highest power. `Polynomial` says what the number means.
use Rattle.std.specs.Prelude.{ℕ, zero, suc, ◌-◌, ◌/◌, ◌%◌, ◌^◌, ◌==◌, if◌then◌else◌, bit_xor, fold, List}
use Rattle.std.specs.List.{flat_map}
use Rattle.std.specs.Int.{w64, to_le_bytes}

-- the generator polynomial without its highest power, x ^ 32, the other powers from the highest bit down
abbrev pub reflected_polynomial : ℕ
reflected_polynomial = 0xedb88320

-- the register at first, and what inverts it at the end
abbrev pub all_ones : ℕ
all_ones = 2 ^ 32 - 1

-- the register after one bit of zero: each coefficient moves up by one power, and where one moves past the
-- highest the polynomial is taken off
abbrev pub step : ℕ → ℕ
step r = if r % 2 == 1 then bit_xor (r / 2) reflected_polynomial else r / 2

-- the register r after n bits of zero
unfoldable pub steps : ℕ → ℕ → ℕ
steps zero r = r
steps (suc n) r = steps n (step r)

-- the register r after a byte, whose bits come in from the lowest on
abbrev pub after_byte : ℕ → ℕ → ℕ
after_byte r byte = steps 8 (bit_xor r byte)

-- the CRC-32 of the bytes: the register begins with all ones, and is inverted at the end
unfoldable pub crc32 : List ℕ → ℕ
crc32 bytes = bit_xor (fold after_byte all_ones bytes) all_ones

-- the words' bytes, each word by its eight bytes with the lowest first
abbrev pub bytes_of_words : List ℕ → List ℕ
bytes_of_words words = flat_map (to_le_bytes w64) words
