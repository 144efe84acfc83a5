-- Bytes in little-endian words, and words of bytes. docs/FORMAT.md, "Words and lines".
use Rattle.std.specs.Prelude.{ℕ, ◌≡◌, ◌+◌, ◌*◌, ◌/◌, ◌%◌, ◌^◌, ◌<◌, List, length, map, slice_index}
use Rattle.std.specs.List.{range_with_len}
use Rattle.std.specs.Int.{from_le_bytes, w64}
use Rattle.fam_base.specs.Image.{byte_of}

-- word k of a list of bytes: bytes 8 k to 8 k + 7, the low one first, and zeros past the list's end
unfoldable pub word_of_bytes : List ℕ → ℕ → ℕ
word_of_bytes bytes k = from_le_bytes w64 (map (λ j. slice_index bytes (8 * k + j)) (range_with_len 0 8))

-- byte i of the words from one on
abbrev pub byte_from : ℕ → List ℕ → ℕ → ℕ
byte_from first words i = byte_of (slice_index words (first + i / 8)) (i % 8)

-- the first so many bytes of the words from one on
unfoldable pub bytes_from : ℕ → List ℕ → ℕ → List ℕ
bytes_from first words count = map (byte_from first words) (range_with_len 0 count)

-- the bytes of a UUID
abbrev pub uuid_bytes : ℕ
uuid_bytes = 16

-- n words of 64 bits
pub record IsWords (n : ℕ) (w : List ℕ) : Type 0 where
  pub count : length w ≡ n
  pub fits : (i : ℕ) → slice_index w i < 2 ^ 64
