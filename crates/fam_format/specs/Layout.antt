-- Where superblock, log and slots stand on the media. docs/FORMAT.md, "Regions".
use Rattle.std.specs.Prelude.{ℕ, ◌+◌, ◌-◌, ◌*◌, ◌/◌, ◌==◌, if◌then◌else◌}
use Rattle.fam_base.specs.declared.entry.Params.{Params}

-- the log begins at 2 MiB, in bytes
abbrev pub log_offset : ℕ
log_offset = 2097152

-- line 0 of the log, its header, in lines from the front of the image
abbrev pub log_line : ℕ
log_line = 32768

-- line 1 of the log, whose word 0 is the gate
abbrev pub gate_line : ℕ
gate_line = 32769

-- the fewest lines of an image that has a gate; a reading speaks of such images alone
abbrev pub least_lines : ℕ
least_lines = 32770

-- the most bytes of an image: 1 TiB
abbrev pub device_limit : ℕ
device_limit = 1099511627776

-- the most bytes of a log
abbrev pub log_limit : ℕ
log_limit = 67108864

-- the shape of a slot
pub record Geometry : Type 0 where
  -- words of a slot, its checksum included
  pub words : ℕ
  -- lines of a slot
  pub lines : ℕ
  -- bytes of a slot
  pub bytes : ℕ
  -- the most bytes of a path
  pub path_limit : ℕ

-- slots of 512 bytes, with paths of up to 168
abbrev pub first_format : Geometry
first_format = record { words = 64; lines = 8; bytes = 512; path_limit = 168 }

-- slots of 1,024 bytes, with paths of up to 512
abbrev pub second_format : Geometry
second_format = record { words = 128; lines = 16; bytes = 1024; path_limit = 512 }

-- the shape of slots by the number of their format, which is 1 or 2
unfoldable pub shape_of : ℕ → Geometry
shape_of format = if format == 2 then second_format else first_format

-- the shape of a file system's slots
abbrev pub geometry : Params → Geometry
geometry p = shape_of p.format

-- the slots of a log of so many bytes, by the format: the header has the room of one
abbrev pub slots_of : ℕ → ℕ → ℕ
slots_of format log_length = log_length / (shape_of format).bytes - 1

-- line j of slot i, in lines from the front of the image
abbrev pub slot_line : Params → ℕ → ℕ → ℕ
slot_line p i j = log_line + (geometry p).lines + (geometry p).lines * i + j

-- the byte behind the log
abbrev pub log_end : Params → ℕ
log_end p = log_offset + p.log_length

-- the whole units of the device
abbrev pub device_units : Params → ℕ
device_units p = p.device / p.unit

-- the units of superblock and log, which are the first ones
abbrev pub head_units : Params → ℕ
head_units p = log_end p / p.unit
