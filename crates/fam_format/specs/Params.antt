-- Which parameters a file system may have. docs/FORMAT.md, "Superblock".
use Rattle.std.specs.Prelude.{ℕ, ◌≡◌, ◌+◌, ◌%◌, ◌<◌, ◌≤◌, ◌==◌, ◌&&◌, ◌||◌, Bool, nat_lt, nat_le, IsTrue, List, length, slice_index}
use Rattle.fam_base.specs.declared.entry.Params.{Params}
use Rattle.fam_format.specs.Layout.{log_offset, log_limit, device_limit, slots_of}
use Rattle.fam_format.specs.Words.{uuid_bytes}

-- a power of two from 4,096 to 2,097,152 bytes
abbrev pub is_unit : ℕ → Bool
is_unit u =
    (u == 4096) || (u == 8192) || (u == 16384) || (u == 32768) || (u == 65536) || (u == 131072) || (u == 262144) || (u == 524288) || (u == 1048576) || (u == 2097152)

-- a positive multiple of the unit, at most 64 MiB
abbrev pub is_log_length : ℕ → ℕ → Bool
is_log_length unit bytes = nat_lt 0 bytes && (bytes % unit == 0) && nat_le bytes log_limit

-- superblock, log and one unit more: the fewest bytes of a device
abbrev pub need : ℕ → ℕ → ℕ
need log_length unit = log_offset + log_length + unit

-- the number of the first format, which is made where nothing else is asked for
abbrev pub first_number : ℕ
first_number = 1

-- the number of the second one
abbrev pub second_number : ℕ
second_number = 2

-- the number of a format in which file systems are made and read
abbrev pub is_format : ℕ → Bool
is_format n = n == first_number || n == second_number

-- the bytes of a UUID
pub record IsUuid (id : List ℕ) : Type 0 where
  pub count : length id ≡ uuid_bytes
  pub fits : (i : ℕ) → slice_index id i < 256

-- parameters that a superblock can tell
pub record SoundParams (p : Params) : Type 0 where
  pub format : IsTrue (is_format p.format)
  pub unit : IsTrue (is_unit p.unit)
  pub log_length : IsTrue (is_log_length p.unit p.log_length)
  pub slots : p.slots ≡ slots_of p.format p.log_length
  pub need : need p.log_length p.unit ≤ p.device
  pub device : p.device ≤ device_limit
  pub fs : IsUuid p.fs
  pub master : IsUuid p.master
