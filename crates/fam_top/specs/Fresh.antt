-- A UUID from random bytes.
use Rattle.std.specs.Prelude.{ℕ, ◌+◌, ◌%◌, List, slice_set, slice_index}

-- sixteen bytes in the form of version 4: four bits of byte 6 say the version, and two of byte 8 the variant; all other bits are the bytes' own
abbrev pub version4_of : List ℕ → List ℕ
version4_of fresh = slice_set (slice_set fresh 6 (0x40 + slice_index fresh 6 % 16)) 8 (0x80 + slice_index fresh 8 % 64)
