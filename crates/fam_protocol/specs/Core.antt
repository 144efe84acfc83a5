-- What holds of memory and of all caches beside the published entries, after every step. docs/MODEL.md, "The protocol".
use Rattle.std.specs.Prelude.{ℕ, ◌≡◌, ◌⊎◌, ◌+◌, ◌*◌, ◌/◌, ◌%◌, ◌<◌, ◌≤◌, List, length, take, slice_get, slice_index, Option, Some, None, Ok}
use Rattle.fam_base.specs.declared.entry.Params.{Params}
use Rattle.fam_base.specs.declared.entry.Entry.{Entry}
use Rattle.fam_format.specs.Layout.{geometry, log_line, gate_line, slot_line}
use Rattle.fam_format.specs.Log.{log_fault}
use Rattle.fam_format.specs.Params.{SoundParams}
use Rattle.fam_format.specs.Reading.{super_in, slot_in}
use Rattle.fam_format.specs.Slot.{Proper}
use Rattle.fam_format.specs.Tree.{join_fault}
use Rattle.fam_machine.specs.declared.cell.Cell.{Cell}
use Rattle.fam_machine.specs.declared.cell.Cell.TheVariants.{Absent}
use Rattle.fam_machine.specs.OneLine.{IsDirty, current}
use Rattle.fam_rules.specs.Asks.{File, entries_of}
use Rattle.fam_rules.specs.Content.{byte_in}
use Rattle.fam_rules.specs.Place.{line_bytes}
use Rattle.fam_rules.specs.Written.{file_line}
use Rattle.fam_protocol.specs.SharedState.{SharedState}
use Rattle.fam_protocol.specs.Lines.{gate_of, top}
use Rattle.fam_format.specs.Line.{line_words}

-- the file system, on an image of so many bytes, and which of the declared hosts is its master
pub record System : Type 0 where
  pub params : Params
  pub have : ℕ
  pub uuid : ℕ → Option (List ℕ)
  pub master : Option ℕ

-- `all` is the history and then the pending entry, where there is one. `settled` is the history's length.

-- an entry belongs behind others: it is proper and joins them, and its file has as many bytes as it says
pub record Belongs (p : Params) (before : List File) (f : File) : Type 0 where
  pub proper : Proper p f.entry
  pub joins : join_fault p (entries_of before) f.entry ≡ None
  pub count : length f.bytes ≡ f.entry.size

-- so does each entry of a list
abbrev pub IsHistory : Params → List File → Type 0
IsHistory p all = (i : ℕ) (f : File) → slice_get all i ≡ Some f → Belongs p (take i all) f

-- superblock and header of the log
abbrev pub IsHeadLine : ℕ → Type 0
IsHeadLine l = (l ≤ 2) ⊎ (l ≡ log_line)

-- a line of slot i
abbrev pub IsSlotLine : Params → ℕ → ℕ → Type 0
IsSlotLine p i l = (j : ℕ) × (j < (geometry p).lines) × (l ≡ slot_line p i j)

-- a line of an entry's file
abbrev pub IsFileLine : Entry → ℕ → Type 0
IsFileLine e l = (j : ℕ) × (line_bytes * j < e.size) × (l ≡ file_line e j)

-- a line of entry i: of its slot, or of its file
abbrev pub IsEntryLine : Params → ℕ → Entry → ℕ → Type 0
IsEntryLine p i e l = IsSlotLine p i l ⊎ IsFileLine e l

-- memory holds entry i: its slot reads as the entry, and its file's lines have its bytes. What stands behind the
-- last byte in a line is not looked at
pub record EntryStands (p : Params) (memory : ℕ → List ℕ) (i : ℕ) (f : File) : Type 0 where
  pub slot : slot_in memory p i ≡ Ok f.entry
  pub bytes : (o : ℕ) → o < f.entry.size → byte_in (memory (file_line f.entry (o / line_bytes))) (o % line_bytes) ≡ slice_index f.bytes o

-- the master's copy of a line, absent where no declared host is the master
abbrev pub masters_copy : Option ℕ → SharedState → ℕ → Cell
masters_copy None s l = Absent
masters_copy (Some h) s l = s.copy h l

-- the larger of memory's gate and one that the master's cache has not sent
abbrev pub top_of : System → SharedState → ℕ
top_of sys s = top (s.memory gate_line) (masters_copy sys.master s gate_line)

-- lines have eight words, in memory and in caches
pub record IsWide (s : SharedState) : Type 0 where
  pub memory : (l : ℕ) → length (s.memory l) ≡ line_words
  pub copies : (h l : ℕ) → length (current (s.memory l) (s.copy h l)) ≡ line_words

-- superblock and header stand in memory, and no cache has anything to send over them
pub record HeadStands (sys : System) (s : SharedState) : Type 0 where
  pub sound : SoundParams sys.params
  pub device : sys.params.device ≤ sys.have
  pub super : super_in s.memory sys.have ≡ Ok sys.params
  pub header : log_fault (s.memory log_line) sys.params ≡ None
  pub clean : (h l : ℕ) → IsHeadLine l → IsDirty (s.copy h l) → ⊥

-- the master is the declared host of the superblock's UUID
pub record IsMaster (sys : System) : Type 0 where
  pub is : (h : ℕ) → sys.master ≡ Some h → sys.uuid h ≡ Some sys.params.master
  pub only : (h : ℕ) → sys.uuid h ≡ Some sys.params.master → sys.master ≡ Some h

-- what holds of a sound file system at every moment, whatever the tasks are at
pub record Core (sys : System) (s : SharedState) (all : List File) (settled : ℕ) : Type 0 where
  pub wide : IsWide s
  pub head : HeadStands sys s
  pub named : IsMaster sys
  -- nobody but the master holds a line that memory lacks
  pub only_master : (h l : ℕ) → IsDirty (s.copy h l) → sys.master ≡ Some h
  -- the gate is the history's length, or one more with something pending
  pub low : settled ≤ gate_of (s.memory gate_line)
  pub order : gate_of (s.memory gate_line) ≤ top_of sys s
  pub high : top_of sys s ≤ length all
  pub near : length all ≤ settled + 1
  pub room : length all ≤ sys.params.slots
  pub history : IsHistory sys.params all
  -- what is below the gate that was stored last stands in memory, and no cache has anything to send over its lines
  pub stands : (i : ℕ) (f : File) → slice_get all i ≡ Some f → i < top_of sys s → EntryStands sys.params s.memory i f
  pub clean : (i : ℕ) (f : File) (h l : ℕ) → slice_get all i ≡ Some f → i < top_of sys s → IsEntryLine sys.params i f.entry l → IsDirty (s.copy h l) → ⊥
