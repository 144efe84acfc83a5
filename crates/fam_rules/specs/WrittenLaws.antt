-- Which lines making a file system and appending an entry write, and what they leave there.
use Rattle.std.specs.Prelude.{ℕ, ◌≡◌, ◌≢◌, ◌+◌, ◌*◌, ◌<◌, ◌≤◌, List, length, slice_set, slice_range}
use Rattle.fam_base.specs.declared.entry.Params.{Params}
use Rattle.fam_base.specs.declared.entry.Entry.{Entry}
use Rattle.fam_base.specs.Image.{Image, line_at}
use Rattle.fam_format.specs.Layout.{geometry, log_line, gate_line, slot_line}
use Rattle.fam_format.specs.Line.{line_words}
use Rattle.fam_format.specs.Log.{log_words}
use Rattle.fam_format.specs.Params.{SoundParams}
use Rattle.fam_format.specs.Slot.{Proper, spelling}
use Rattle.fam_format.specs.Super.{magic_line, super_words}
use Rattle.fam_format.specs.Units.{units_in}
use Rattle.fam_rules.specs.Content.{file_words}
use Rattle.fam_rules.specs.Place.{line_bytes, IsOnce}
use Rattle.fam_rules.specs.Written.{file_line, slot_part, zero_line}

-- five lines hold superblock, header and a gate of 0, and the others are as before
pub record IsFormatted (p : Params) (before after : Image) : Type 0 where
  pub count : length after ≡ length before
  pub magic : line_at after 0 ≡ magic_line
  pub super_prefix : line_at after 1 ≡ slice_range (super_words p) 0 line_words
  pub super_rest : line_at after 2 ≡ slice_range (super_words p) line_words (2 * line_words)
  pub header : line_at after log_line ≡ log_words p
  pub gate : line_at after gate_line ≡ zero_line
  pub others : (l : ℕ) → l ≢ 0 → l ≢ 1 → l ≢ 2 → l ≢ log_line → l ≢ gate_line → line_at after l ≡ line_at before l

-- an entry and its slot's number that an image of so many lines has room for
pub record HasPhase (p : Params) (seq : ℕ) (e : Entry) (lines : ℕ) : Type 0 where
  pub sound : SoundParams p
  pub device : p.device ≤ line_bytes * lines
  pub slot : seq < p.slots
  pub proper : Proper p e
  pub once : IsOnce (units_in p.unit e.extents)

-- no line of a slot
abbrev pub IsOffSlot : Params → ℕ → ℕ → Type 0
IsOffSlot p seq l = (j : ℕ) → j < (geometry p).lines → l ≢ slot_line p seq j

-- no line of a file
abbrev pub IsOffFile : Entry → ℕ → Type 0
IsOffFile e l = (j : ℕ) → line_bytes * j < e.size → l ≢ file_line e j

-- the file's lines hold its bytes, the slot's lines its spelling, and word 0 of the gate's line the next number.
-- The other words of that line and all other lines are as before
pub record IsAppended (p : Params) (seq : ℕ) (e : Entry) (bytes : List ℕ) (before after : Image) : Type 0 where
  pub count : length after ≡ length before
  pub file : (j : ℕ) → line_bytes * j < e.size → line_at after (file_line e j) ≡ file_words bytes j
  pub slot : (j : ℕ) → j < (geometry p).lines → line_at after (slot_line p seq j) ≡ slot_part (spelling (geometry p) e seq) j
  pub gate : line_at after gate_line ≡ slice_set (line_at before gate_line) 0 (seq + 1)
  pub others : (l : ℕ) → l ≢ gate_line → IsOffSlot p seq l → IsOffFile e l → line_at after l ≡ line_at before l
