-- The bytes of an entry's file on a device.
use Rattle.std.specs.Prelude.{ℕ, ◌≡◌, ◌+◌, ◌*◌, ◌/◌, ◌%◌, ◌<◌, ◌≤◌, List, length, slice_index}
use Rattle.fam_base.specs.declared.entry.Entry.{Entry}
use Rattle.fam_base.specs.declared.entry.Params.{Params}
use Rattle.fam_format.specs.Params.{SoundParams}
use Rattle.fam_format.specs.Reading.{Lines}
use Rattle.fam_format.specs.Slot.{Proper}
use Rattle.fam_rules.specs.Content.{byte_in}
use Rattle.fam_rules.specs.Place.{line_bytes, place}
use Rattle.fam_rules.specs.Written.{file_line}

-- an entry's file lies within a device of so many lines
pub record IsFileOn (e : Entry) (lines : ℕ) : Type 0 where
  pub params : Params
  pub sound : SoundParams params
  pub proper : Proper params e
  pub device : params.device ≤ line_bytes * lines

-- n lines of the file from line j on have bytes of it, and stand one behind another
pub record AreInRow (e : Entry) (j n : ℕ) : Type 0 where
  pub below : (i : ℕ) → i < n → line_bytes * (j + i) < e.size
  pub together : (i : ℕ) → i < n → file_line e (j + i) ≡ file_line e j + i

-- what memory has at the place of byte o of the file
abbrev pub byte_held : Lines → Entry → ℕ → ℕ
byte_held memory e o = byte_in (memory (place e o / line_bytes)) (place e o % line_bytes)

-- these are the file's bytes, as far as they go
abbrev pub HoldFirst : Lines → Entry → List ℕ → Type 0
HoldFirst memory e bytes = (o : ℕ) → o < length bytes → slice_index bytes o ≡ byte_held memory e o
