-- The bytes of a file by its content, and the lines that hold them. docs/FORMAT.md, "Contents".
use Rattle.std.specs.Prelude.{ℕ, zero, suc, ◌+◌, ◌*◌, ◌/◌, ◌%◌, ◌<◌, ⊤, List, map, slice_index}
use Rattle.std.specs.List.{range_with_len}
use Rattle.rand_xoshiro.specs.SplitMix64.{splitmix_seed}
use Rattle.rand_xoshiro.specs.Xoshiro256.{of_seed, next_state, plus_plus}
use Rattle.fam_base.specs.declared.cmd.Content.{Content}
use Rattle.fam_base.specs.declared.cmd.Content.TheVariants.{Zero, Seed, Bytes}
use Rattle.fam_base.specs.Image.{byte_of}
use Rattle.fam_format.specs.Line.{line_words}
use Rattle.fam_format.specs.Words.{word_of_bytes}

-- the state of Xoshiro256++ after so many words: first that of `seed_from_u64`, which reads the 32 bytes that
-- SplitMix64 makes of the seed, then one step a word
unfoldable pub stream_state : ℕ → ℕ → List ℕ
stream_state seed zero = of_seed (splitmix_seed 32 seed)
stream_state seed (suc given) = next_state (stream_state seed given)

-- word i of the stream of a seed, from 0
unfoldable pub stream_word : ℕ → ℕ → ℕ
stream_word seed i = (plus_plus (stream_state seed i)).0

-- byte i of a content, whatever the size. A seeded content has byte i mod 8, from the low end, of word i / 8 of
-- its stream. Given bytes have zeros behind them
abbrev pub content_byte : Content → ℕ → ℕ
content_byte Zero i = 0
content_byte (Seed seed) i = byte_of (stream_word seed (i / 8)) (i % 8)
content_byte (Bytes bytes) i = slice_index bytes i

-- given bytes are bytes
abbrev pub HoldsBytes : Content → Type 0
HoldsBytes Zero = ⊤
HoldsBytes (Seed seed) = ⊤
HoldsBytes (Bytes bytes) = (i : ℕ) → slice_index bytes i < 256

-- the bytes of a file of this content and size
unfoldable pub fill : Content → ℕ → List ℕ
fill content size = map (content_byte content) (range_with_len 0 size)

-- line j of a file with these bytes: its words 8 j to 8 j + 7, in which zeros stand behind the last byte
abbrev pub file_words : List ℕ → ℕ → List ℕ
file_words bytes j = map (λ w. word_of_bytes bytes (line_words * j + w)) (range_with_len 0 line_words)

-- line j of a file of this content and size
abbrev pub content_line : Content → ℕ → ℕ → List ℕ
content_line content size j = file_words (fill content size) j

-- byte b of a line's words: byte b mod 8, from the low end, of word b / 8
abbrev pub byte_in : List ℕ → ℕ → ℕ
byte_in words b = byte_of (slice_index words (b / 8)) (b % 8)
