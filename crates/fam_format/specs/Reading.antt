-- What a whole image says. It speaks of images of at least 32,770 lines.
use Prim.Native.Nat.{zero, suc}
use Rattle.std.specs.Prelude.{ℕ, ◌+◌, ◌*◌, ◌/◌, ◌%◌, Option, Some, None, Result, Ok, Err, List, [], ◌∷◌, ◌++◌, length, map, slice_index}
use Rattle.std.specs.List.{range_with_len}
use Rattle.fam_base.specs.declared.entry.Params.{Params}
use Rattle.fam_base.specs.declared.entry.Entry.{Entry}
use Rattle.fam_base.specs.Image.{Image, line_at}
use Rattle.fam_format.specs.declared.faults.SuperFault.{SuperFault}
use Rattle.fam_format.specs.declared.faults.LogFault.{LogFault}
use Rattle.fam_format.specs.declared.faults.Reason.{Reason}
use Rattle.fam_format.specs.Layout.{geometry, log_line, gate_line, slot_line}
use Rattle.fam_format.specs.Line.{line_bytes, line_words}
use Rattle.fam_format.specs.Super.{super_of}
use Rattle.fam_format.specs.Log.{log_fault, gate_fault}
use Rattle.fam_format.specs.Slot.{entry_of}
use Rattle.fam_format.specs.Tree.{join_fault}

-- the first fault of an image, or what it holds
pub data Reading : Type 0 where
  NoSuperblock : (fault : SuperFault) → Reading
  BadHeader : (fault : LogFault) → Reading
  BadSlot : (i : ℕ) (reason : Reason) → Reading
  Sound : (params : Params) (entries : List Entry) → Reading

-- the lines of an image as a function; a reader knows no more of it
abbrev pub Lines : Type 0
Lines = ℕ → List ℕ

-- word 0 of line 0, and the words of lines 1 and 2
abbrev pub super_in : Lines → ℕ → Result Params SuperFault
super_in line have = super_of (slice_index (line 0) 0) (line 1 ++ line 2) have

-- word k of slot i
abbrev pub slot_word : Lines → Params → ℕ → ℕ → ℕ
slot_word line p i k = slice_index (line (slot_line p i (k / line_words))) (k % line_words)

-- the words of slot i
unfoldable pub slot_words : Lines → Params → ℕ → List ℕ
slot_words line p i = map (slot_word line p i) (range_with_len 0 (geometry p).words)

-- what slot i tells
abbrev pub slot_in : Lines → Params → ℕ → Result Entry Reason
slot_in line p i = entry_of p (slot_words line p i) i

-- how many entries are published
abbrev pub gate_in : Lines → ℕ
gate_in line = slice_index (line gate_line) 0

-- entry i joins those before it, or is the first bad one
abbrev pub joined_or : ℕ → Option Reason → Reading → Reading
joined_or i (Some reason) rest = BadSlot i reason
joined_or i None rest = rest

-- what comes of slot i: its words don't read, or its entry joins or not
abbrev pub slot_or : Params → List Entry → ℕ → Result Entry Reason → (Entry → Reading) → Reading
slot_or p list i (Ok e) rest = joined_or i (join_fault p list e) (rest e)
slot_or p list i (Err reason) rest = BadSlot i reason

-- so many slots from number i on, after these entries
abbrev pub read_slots : Lines → Params → ℕ → ℕ → List Entry → Reading
read_slots line p i zero list = Sound p list
read_slots line p i (suc more) list = slot_or p list i (slot_in line p i) (λ e. read_slots line p (i + 1) more (list ++ e ∷ []))

-- the gate is within the slots, or the header is bad
abbrev pub read_below : Lines → Params → Option LogFault → Reading
read_below line p (Some fault) = BadHeader fault
read_below line p None = read_slots line p 0 (gate_in line) []

-- the header reads, and the gate comes next
abbrev pub read_log : Lines → Params → Option LogFault → Reading
read_log line p (Some fault) = BadHeader fault
read_log line p None = read_below line p (gate_fault (gate_in line) p)

-- the superblock reads, and the header comes next
abbrev pub read_super : Lines → Result Params SuperFault → Reading
read_super line (Err fault) = NoSuperblock fault
read_super line (Ok p) = read_log line p (log_fault (line log_line) p)

-- superblock, header, gate and the slots below the gate, in this order; `have` is the image's bytes
unfoldable pub reading_of : Lines → ℕ → Reading
reading_of line have = read_super line (super_in line have)

-- of an image of at least 32,770 lines
abbrev pub reading : Image → Reading
reading image = reading_of (line_at image) (line_bytes * length image)
