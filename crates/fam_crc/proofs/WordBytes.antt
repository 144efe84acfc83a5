-- The bytes of words are below 256, so the checksum of words is always a remainder.
use Rattle.std.proofs.Common.{ℕ, zero, suc, ◌^◌, ◌<◌, List, [], ◌∷◌, ◌++◌, get_or, arith}
use Rattle.std.specs.Int.{byte_at, bytes_low_first, to_le_bytes, w64}
use Rattle.fam_crc.specs.Crc.{crc32, bytes_of_words}
use Rattle.fam_crc.specs.Polynomial.{IsRemainder}
use Rattle.fam_crc.proofs.Division.{crc_is_remainder}

-- bytes, and bytes behind them
append_fits : (xs ys : List ℕ) → ((i : ℕ) → get_or xs i 0 < 256) → ((i : ℕ) → get_or ys i 0 < 256) → (i : ℕ) → get_or (xs ++ ys) i 0 < 256
append_fits [] ys h k i = k i
append_fits (x ∷ xs) ys h k zero = h 0
append_fits (x ∷ xs) ys h k (suc i) = append_fits xs ys (λ j. h (suc j)) k i

-- the byte at a place of a number
byte_fits : (i w : ℕ) → byte_at i w < 256
byte_fits zero w = omega arith
byte_fits (suc i) w = omega arith

-- n bytes of a number from place i on
bytes_fit : (n i w j : ℕ) → get_or (bytes_low_first i n w) j 0 < 256
bytes_fit zero i w j = omega arith
bytes_fit (suc n) i w zero = byte_fits i w
bytes_fit (suc n) i w (suc j) = bytes_fit n (suc i) w j

-- the bytes of words
pub bytes_of_words_fit : (words : List ℕ) (i : ℕ) → get_or (bytes_of_words words) i 0 < 256
bytes_of_words_fit [] i = omega arith
bytes_of_words_fit (w ∷ words) i = append_fits (to_le_bytes w64 w) (bytes_of_words words) (bytes_fit 8 0 w) (bytes_of_words_fit words) i

-- and is the remainder of their bytes
pub words_have_remainder : (words : List ℕ) → IsRemainder (bytes_of_words words) (crc32 (bytes_of_words words))
words_have_remainder words = crc_is_remainder (bytes_of_words words) (bytes_of_words_fit words)
