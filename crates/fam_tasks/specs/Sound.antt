-- Which tasks there are: what is known of a task's numbers in each phase.
use Rattle.std.specs.Prelude.{ℕ, ◌≡◌, ◌+◌, ◌*◌, ◌<◌, ◌≤◌, ⊤, length, Option, Some, None}
use Rattle.fam_base.specs.declared.cmd.Cmd.{Cmd}
use Rattle.fam_base.specs.declared.entry.Entry.{Entry}
use Rattle.fam_base.specs.Commands.{IsSoundCmd}
use Rattle.fam_format.specs.Layout.{geometry, least_lines, log_line}
use Rattle.fam_format.specs.Line.{line_bytes, line_words}
use Rattle.fam_format.specs.Params.{SoundParams}
use Rattle.fam_format.specs.Slot.{Proper}
use Rattle.fam_commands.specs.declared.phase.Part.{Part}
use Rattle.fam_commands.specs.declared.phase.Part.TheVariants.{Superblock, Header, Slot, File}
use Rattle.fam_commands.specs.declared.phase.Phase.{Phase}
use Rattle.fam_commands.specs.declared.phase.Phase.TheVariants as at
use Rattle.fam_commands.specs.Task.{Task, first_line, size_of, wanted_lines}
use Rattle.fam_commands.specs.Kept.{IsKept}
use Rattle.fam_commands.specs.Classes.{LooksAtFile}
use Rattle.fam_tasks.specs.Commands.{kept_of_file, slots_told}

-- the most lines of an image: 1 TiB
abbrev pub most_lines : ℕ
most_lines = 17179869184

-- the most words that a task holds: those of 65 lines
abbrev pub most_words : ℕ
most_words = 520

-- the superblock was read: header and slots stand in the image
pub record HasSuper (t : Task) : Type 0 where
  pub sound : SoundParams t.params
  pub device : t.params.device ≤ line_bytes * t.lines
  pub slots : log_line + (geometry t.params).lines * (t.params.slots + 1) ≤ t.lines

-- the gate was loaded, and counts no more entries than there are slots
pub record HasValidGate (t : Task) : Type 0 where
  pub super : HasSuper t
  pub gate : t.gate ≤ t.params.slots

-- the entry of a new slot is spelled, and the slot is one of the log's
pub record HasSpelledSlot (t : Task) : Type 0 where
  pub found : HasValidGate t
  pub room : t.gate < t.params.slots
  pub words : length t.words ≡ (geometry t.params).words

-- an entry that the log of the task may hold
abbrev pub IsProperFor : Task → Option Entry → Type 0
IsProperFor t None = ⊥
IsProperFor t (Some e) = Proper t.params e

-- line j of the file of the entry
pub record IsFileLine (j : ℕ) (t : Task) : Type 0 where
  pub proper : IsProperFor t t.entry
  pub below : line_bytes * j < size_of t.entry

-- line j of those that a command wants of the file
pub record IsWantedLine (j : ℕ) (t : Task) : Type 0 where
  pub found : HasValidGate t
  pub looks : LooksAtFile t.cmd
  pub file : IsFileLine (first_line t.cmd + j) t
  pub wanted : j < wanted_lines t.cmd (size_of t.entry)

-- line j of a part is to be read
abbrev pub IsLine : Part → ℕ → Task → Type 0
IsLine Superblock j t = j < 2
IsLine Header j t = HasSuper t × (j ≡ 0)
IsLine (Slot i) j t = HasValidGate t × (i < slots_told t.cmd t.params t.gate) × (j < (geometry t.params).lines)
IsLine File j t = IsWantedLine j t

-- how many words are held before line j of a part
abbrev pub kept_before : Cmd → Part → ℕ → ℕ
kept_before cmd Superblock j = line_words * j
kept_before cmd Header j = line_words * j
kept_before cmd (Slot i) j = line_words * j
kept_before cmd File j = kept_of_file cmd j

-- line j of a part is to be read, and there is room for its words
pub record IsAtLine (part : Part) (j : ℕ) (t : Task) : Type 0 where
  pub line : IsLine part j t
  pub few : kept_before t.cmd part j + line_words ≤ most_words

-- what is known in a phase. A task that has answered is asked for nothing more, whatever its phase is
abbrev pub IsSoundAt : Phase → Task → Type 0
IsSoundAt at.DropMagic t = ⊤
IsSoundAt at.Magic t = ⊤
IsSoundAt (at.Drop part j) t = IsAtLine part j t × (length t.words ≡ kept_before t.cmd part j)
IsSoundAt (at.Word part j k) t = IsAtLine part j t × (k < line_words) × (length t.words ≡ kept_before t.cmd part j + k)
IsSoundAt at.DropGate t = HasSuper t × (length t.words ≡ 0)
IsSoundAt at.Gate t = HasSuper t × (length t.words ≡ 0)
IsSoundAt (at.Check i) t =
    HasValidGate t × (i < slots_told t.cmd t.params t.gate) × (length t.words ≡ (geometry t.params).words)
IsSoundAt at.Decide t = HasValidGate t
IsSoundAt (at.StoreData j k) t = HasSpelledSlot t × IsFileLine j t × (k < line_words)
IsSoundAt (at.SendData j) t = HasSpelledSlot t × IsFileLine j t
IsSoundAt (at.StoreSlot j k) t = HasSpelledSlot t × (j < (geometry t.params).lines) × (k < line_words)
IsSoundAt (at.SendSlot j) t = HasSpelledSlot t × (j < (geometry t.params).lines)
IsSoundAt at.StoreGate t = HasSpelledSlot t
IsSoundAt at.FenceSlot t = HasSpelledSlot t
IsSoundAt at.SendGate t = ⊤
IsSoundAt at.FenceGate t = ⊤

-- a task of such a command, on an image with a gate, whose host keeps nothing or a history
pub record IsSound (t : Task) : Type 0 where
  pub command : IsSoundCmd t.cmd
  pub least : least_lines ≤ t.lines
  pub most : t.lines ≤ most_lines
  pub stands : IsSoundAt t.phase t
  pub kept : IsKept t.kept
