-- The log's header line, and the gate. docs/FORMAT.md, "The log".
use Rattle.std.specs.Prelude.{ℕ, ◌==◌, nat_lt, if◌then◌else◌, Option, Some, None, List, [], ◌∷◌, ◌++◌, take, slice_index}
use Rattle.fam_base.specs.declared.entry.Params.{Params}
use Rattle.fam_crc.specs.Crc.{crc32, bytes_of_words}
use Rattle.fam_format.specs.declared.faults.LogFault.{LogFault}
use Rattle.fam_format.specs.declared.faults.LogFault.TheVariants.{BadLog}
use Rattle.fam_format.specs.declared.faults.LogField.{LogField}
use Rattle.fam_format.specs.declared.faults.LogField.TheVariants as field
use Rattle.fam_format.specs.Words.{word_of_bytes}
use Rattle.fam_format.specs.Stop.{or_else}

-- word 0 of the header: the bytes "famfslog"
abbrev pub log_magic : ℕ
log_magic = 0x676f6c73666d6166

-- the words before the checksum: magic, log length, slots, the file system's UUID and two zeros
abbrev pub log_body : Params → List ℕ
log_body p = log_magic ∷ p.log_length ∷ p.slots ∷ word_of_bytes p.fs 0 ∷ word_of_bytes p.fs 1 ∷ 0 ∷ 0 ∷ []

-- the eight words of the header
unfoldable pub log_words : Params → List ℕ
log_words p = log_body p ++ crc32 (bytes_of_words (log_body p)) ∷ []

-- the tests in their order; `w` are the header's words
abbrev pub log_crc : List ℕ → ℕ
log_crc w = crc32 (bytes_of_words (take 7 w))

-- a word that isn't the wanted one
abbrev pub field_fault : LogField → ℕ → ℕ → Option LogFault
field_fault field found wanted = if found == wanted then None else Some (BadLog field found wanted)

-- magic, checksum, length, slots, UUID, rest: the first that fails
unfoldable pub log_fault : List ℕ → Params → Option LogFault
log_fault w p =
    or_else (field_fault field.Magic (slice_index w 0) log_magic) (or_else (field_fault field.Crc (slice_index w 7) (log_crc w)) (or_else (field_fault field.Length (slice_index w 1) p.log_length) (or_else (field_fault field.Slots (slice_index w 2) p.slots) (or_else (field_fault field.Uuid (slice_index w 3) (word_of_bytes p.fs 0)) (or_else (field_fault field.Uuid (slice_index w 4) (word_of_bytes p.fs 1)) (or_else (field_fault field.Rest (slice_index w 5) 0) (field_fault field.Rest (slice_index w 6) 0)))))))

-- the gate counts more entries than there are slots. It is tested where it is loaded
abbrev pub gate_fault : ℕ → Params → Option LogFault
gate_fault gate p = if nat_lt p.slots gate then Some (BadLog field.Gate gate p.slots) else None
