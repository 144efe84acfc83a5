-- The tests of the log's header line in two parts.
use Rattle.std.specs.Prelude.{ℕ, Option, List, slice_index}
use Rattle.fam_base.specs.declared.entry.Params.{Params}
use Rattle.fam_format.specs.declared.faults.LogFault.{LogFault}
use Rattle.fam_format.specs.declared.faults.LogField.TheVariants as field
use Rattle.fam_format.specs.Log.{field_fault, log_crc, log_magic}
use Rattle.fam_format.specs.Stop.{or_else}
use Rattle.fam_format.specs.Words.{word_of_bytes}

-- magic, checksum, length, slots: the first that fails. `w` are the header's words
abbrev pub sizes_fault : List ℕ → Params → Option LogFault
sizes_fault w p =
    or_else (field_fault field.Magic (slice_index w 0) log_magic) (or_else (field_fault field.Crc (slice_index w 7) (log_crc w)) (or_else (field_fault field.Length (slice_index w 1) p.log_length) (field_fault field.Slots (slice_index w 2) p.slots)))

-- UUID, zeros: the first that fails
abbrev pub rest_fault : List ℕ → Params → Option LogFault
rest_fault w p =
    or_else (field_fault field.Uuid (slice_index w 3) (word_of_bytes p.fs 0)) (or_else (field_fault field.Uuid (slice_index w 4) (word_of_bytes p.fs 1)) (or_else (field_fault field.Rest (slice_index w 5) 0) (field_fault field.Rest (slice_index w 6) 0)))
