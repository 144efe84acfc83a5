-- The superblock: lines 0, 1 and 2 of the image. docs/FORMAT.md, "Superblock".
use Rattle.std.specs.Prelude.{ℕ, ◌==◌, nat_lt, if◌then◌else◌, Option, Some, None, Result, Ok, List, [], ◌∷◌, ◌++◌, take, slice_index, slice_range}
use Rattle.fam_base.specs.declared.entry.Params.{Params}
use Rattle.fam_base.specs.Units.{least_unit}
use Rattle.fam_crc.specs.Crc.{crc32, bytes_of_words}
use Rattle.fam_format.specs.declared.faults.SuperFault.{SuperFault}
use Rattle.fam_format.specs.declared.faults.SuperFault.TheVariants.{NoSuper, BadSuper}
use Rattle.fam_format.specs.declared.faults.SuperField.TheVariants as field
use Rattle.fam_format.specs.Layout.{log_offset, slots_of}
use Rattle.fam_format.specs.Params.{second_number, is_format, is_unit, is_log_length, need}
use Rattle.fam_format.specs.Words.{word_of_bytes, bytes_from, uuid_bytes}
use Rattle.fam_format.specs.Stop.{stop}

-- word 0 of line 0: the bytes "famfs-01"
abbrev pub magic : ℕ
magic = 0x31302d73666d6166

-- line 0: the magic. Its other words are written zero and never looked at
abbrev pub magic_line : List ℕ
magic_line = magic ∷ 0 ∷ 0 ∷ 0 ∷ 0 ∷ 0 ∷ 0 ∷ 0 ∷ []

-- the fifteen words of lines 1 and 2 before the checksum: version, which is the format, log offset, log length, unit, device, both
-- UUIDs and six zeros
abbrev pub super_body : Params → List ℕ
super_body p =
    p.format ∷ log_offset ∷ p.log_length ∷ p.unit ∷ p.device ∷ word_of_bytes p.fs 0 ∷ word_of_bytes p.fs 1 ∷ word_of_bytes p.master 0 ∷ word_of_bytes p.master 1 ∷ 0 ∷ 0 ∷ 0 ∷ 0 ∷ 0 ∷ 0 ∷ []

-- the sixteen words of lines 1 and 2
unfoldable pub super_words : Params → List ℕ
super_words p = super_body p ++ crc32 (bytes_of_words (super_body p)) ∷ []

-- what the sixteen words tell, whatever a test says of them
unfoldable pub params_of : List ℕ → Params
params_of w =
    record { format = slice_index w 0; log_length = slice_index w 2; slots = slots_of (slice_index w 0) (slice_index w 2); unit = slice_index w 3; device = slice_index w 4; fs = bytes_from 5 w uuid_bytes; master = bytes_from 7 w uuid_bytes }

-- the tests in their order; `w` are the sixteen words, `have` is the image's bytes
abbrev pub magic_fault : ℕ → Option SuperFault
magic_fault word = if word == magic then None else Some (NoSuper word)

-- the checksum that the words should have
abbrev pub super_crc : List ℕ → ℕ
super_crc w = crc32 (bytes_of_words (take 15 w))

-- another checksum
abbrev pub crc_fault : List ℕ → Option SuperFault
crc_fault w = if slice_index w 15 == super_crc w then None else Some (BadSuper field.Crc (slice_index w 15) (super_crc w))

-- the greatest version that is read
abbrev pub last_version : ℕ
last_version = second_number

-- another version than those of the formats
abbrev pub version_fault : List ℕ → Option SuperFault
version_fault w = if is_format (slice_index w 0) then None else Some (BadSuper field.Version (slice_index w 0) last_version)

-- a log that doesn't begin at 2 MiB
abbrev pub offset_fault : List ℕ → Option SuperFault
offset_fault w = if slice_index w 1 == log_offset then None else Some (BadSuper field.Offset (slice_index w 1) log_offset)

-- no unit
abbrev pub unit_fault : List ℕ → Option SuperFault
unit_fault w = if is_unit (slice_index w 3) then None else Some (BadSuper field.Unit (slice_index w 3) least_unit)

-- no length of a log with this unit
abbrev pub length_fault : List ℕ → Option SuperFault
length_fault w =
    if is_log_length (slice_index w 3) (slice_index w 2) then None else Some (BadSuper field.Length (slice_index w 2) (slice_index w 3))

-- a device that is larger than the image
abbrev pub device_fault : List ℕ → ℕ → Option SuperFault
device_fault w have = if nat_lt have (slice_index w 4) then Some (BadSuper field.Device (slice_index w 4) have) else None

-- a device without room for superblock, log and one unit
abbrev pub small_fault : List ℕ → Option SuperFault
small_fault w =
    if nat_lt (slice_index w 4) (need (slice_index w 2) (slice_index w 3)) then Some (BadSuper field.Small (slice_index w 4) (need (slice_index w 2) (slice_index w 3))) else None

-- the first word that isn't zero
abbrev pub used_word : List ℕ → Option SuperFault
used_word [] = None
used_word (word ∷ more) = if word == 0 then used_word more else Some (BadSuper field.Rest word 0)

-- words 1 to 6 of line 2
abbrev pub rest_fault : List ℕ → Option SuperFault
rest_fault w = used_word (slice_range w 9 15)

-- what lines 1 and 2 tell: the first fault, or the parameters
unfoldable pub super_body_of : List ℕ → ℕ → Result Params SuperFault
super_body_of w have =
    stop (crc_fault w) (stop (version_fault w) (stop (offset_fault w) (stop (unit_fault w) (stop (length_fault w) (stop (device_fault w have) (stop (small_fault w) (stop (rest_fault w) (Ok (params_of w)))))))))

-- what the superblock tells, by word 0 of line 0 and the words of lines 1 and 2
unfoldable pub super_of : ℕ → List ℕ → ℕ → Result Params SuperFault
super_of word w have = stop (magic_fault word) (super_body_of w have)
