-- Counts of allocation units.
use Rattle.std.specs.Prelude.{ℕ, ◌*◌}
use Rattle.std.specs.Int.{div_ceil}

-- the least allocation unit in bytes
abbrev pub least_unit : ℕ
least_unit = 4096

-- the bytes of one of n strips: whole chunks, dealt to the strips in turn
abbrev pub strip_bytes : ℕ → ℕ → ℕ → ℕ
strip_bytes size chunk nstrips = div_ceil (div_ceil size chunk) nstrips * chunk
