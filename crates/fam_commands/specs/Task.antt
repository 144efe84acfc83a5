-- A task: a command on its way, and the operation that it does next. It knows nothing of memory but the words that
-- its own loads gave. docs/MODEL.md, "Tasks".
use Rattle.std.specs.Prelude.{ℕ, ◌+◌, ◌-◌, ◌*◌, ◌/◌, nat_le, if◌then◌else◌, min, List, [], length, replicate, slice_index, Option, Some, None}
use Rattle.fam_base.specs.declared.cmd.Cmd.{Cmd}
use Rattle.fam_base.specs.declared.entry.Params.{Params}
use Rattle.fam_base.specs.declared.entry.Entry.{Entry}
use Rattle.fam_format.specs.Layout.{geometry, log_line, gate_line, slot_line}
use Rattle.fam_format.specs.Line.{line_bytes, line_words}
use Rattle.fam_format.specs.Words.{uuid_bytes}
use Rattle.fam_rules.specs.Content.{content_line}
pub use Rattle.fam_rules.specs.Solo.{content_of}
use Rattle.fam_rules.specs.Reports.{Survey, no_survey}
use Rattle.fam_rules.specs.Written.{lines_of, file_line}
use Rattle.fam_machine.specs.declared.op.Op.{Op}
use Rattle.fam_machine.specs.declared.op.Op.TheVariants.{Load, Store, WriteBack, Fence, Invalidate, Digest}
use Rattle.fam_machine.specs.Operations.{line_no}
use Rattle.fam_commands.specs.Kept.{Kept, used}
use Rattle.fam_commands.specs.declared.phase.Part.{Part}
use Rattle.fam_commands.specs.declared.phase.Part.TheVariants.{Superblock, Header, Slot, File}
use Rattle.fam_commands.specs.declared.phase.Phase.{Phase}
use Rattle.fam_commands.specs.declared.phase.Phase.TheVariants as at
use Rattle.fam_commands.specs.Classes.{Class, class_of, Replays, Appends, Compares, Reads, Surveys}

-- a command on its way, in a phase, with what it has read
pub record Task : Type 0 where
  pub cmd : Cmd
  -- the UUID of its host
  pub me : List ℕ
  -- the lines of the image
  pub lines : ℕ
  pub phase : Phase
  -- what the superblock says, once it has been read
  pub params : Params
  -- what its host kept when it began
  pub kept : Option Kept
  -- the gate, once it has been loaded
  pub gate : ℕ
  -- the entries of the slots that were read, in order
  pub entries : List Entry
  -- words that were loaded and not yet looked at; or, of the new slot, those to be stored
  pub words : List ℕ
  -- the entry whose file is read or written, once it is known
  pub entry : Option Entry
  -- what a check of the whole file system has found up to here
  pub survey : Survey

-- nothing was read of a superblock
abbrev pub no_params : Params
no_params =
    record { format = 1; log_length = 0; slots = 0; unit = 0; device = 0; fs = replicate uuid_bytes 0; master = replicate uuid_bytes 0 }

-- a command before its first operation, on a host that keeps this
abbrev pub mounted : Option Kept → Cmd → List ℕ → ℕ → Task
mounted kept cmd me lines = record {
  cmd = cmd;
  me = me;
  lines = lines;
  phase = at.DropMagic;
  params = no_params;
  kept = kept;
  gate = 0;
  entries = [];
  words = [];
  entry = None;
  survey = no_survey;
}

-- on a host that keeps nothing
abbrev pub starting : Cmd → List ℕ → ℕ → Task
starting cmd me lines = mounted None cmd me lines

-- the kept entries that it uses, and the first slot that it reads
abbrev pub used_in : Task → List Entry
used_in t = used t.kept t.cmd t.params t.gate

-- the first slot that it reads: as many entries are kept
abbrev pub first_in : Task → ℕ
first_in t = length (used_in t)

-- Which lines a command reads and writes.

-- the bytes of an entry's file
abbrev pub size_of : Option Entry → ℕ
size_of None = 0
size_of (Some e) = e.size

-- the offset behind the last byte that a reader wants; by the class of the command
abbrev pub wanted_end_in : Class → ℕ → ℕ
wanted_end_in (Reads path offset count) size = min size (offset + count)
wanted_end_in Replays size = size
wanted_end_in Appends size = size
wanted_end_in (Compares path against) size = size
wanted_end_in Surveys size = size

-- so of a command, by its class
abbrev pub wanted_end : Cmd → ℕ → ℕ
wanted_end cmd size = wanted_end_in (class_of cmd) size

-- the first byte of the file that a reader wants; by the class of the command
abbrev pub wanted_start_in : Class → ℕ
wanted_start_in (Reads path offset count) = offset
wanted_start_in Replays = 0
wanted_start_in Appends = 0
wanted_start_in (Compares path against) = 0
wanted_start_in Surveys = 0

-- so of a command, by its class
abbrev pub wanted_start : Cmd → ℕ
wanted_start cmd = wanted_start_in (class_of cmd)

-- the first line of the file that holds a wanted byte
abbrev pub first_line : Cmd → ℕ
first_line cmd = wanted_start cmd / line_bytes

-- how many lines hold wanted bytes
abbrev pub wanted_lines : Cmd → ℕ → ℕ
wanted_lines cmd size =
    if nat_le (wanted_end cmd size) (wanted_start cmd) then 0 else lines_of (wanted_end cmd size) - first_line cmd

-- the device's line that holds line j of an entry's file
abbrev pub line_of : Option Entry → ℕ → ℕ
line_of None j = 0
line_of (Some e) j = file_line e j

-- line j of a part
abbrev pub part_line : Task → Part → ℕ → ℕ
part_line t Superblock j = 1 + j
part_line t Header j = log_line
part_line t (Slot i) j = slot_line t.params i j
part_line t File j = line_of t.entry (first_line t.cmd + j)

-- how many lines a part has
abbrev pub part_count : Task → Part → ℕ
part_count t Superblock = 2
part_count t Header = 1
part_count t (Slot i) = (geometry t.params).lines
part_count t File = wanted_lines t.cmd (size_of t.entry)

-- line j of the new file
abbrev pub data_words : Task → ℕ → List ℕ
data_words t j = content_line (content_of t.cmd) (size_of t.entry) j

-- The operation that comes next.

-- in a phase
abbrev pub op_at : Task → Phase → Op
op_at t at.DropMagic = Invalidate (line_no 0)
op_at t at.Magic = Load (line_no 0) 0
op_at t (at.Drop part j) = Invalidate (line_no (part_line t part j))
op_at t (at.Word part j k) = Load (line_no (part_line t part j)) k
op_at t at.DropGate = Invalidate (line_no gate_line)
op_at t at.Gate = Load (line_no gate_line) 0
op_at t (at.Check i) = Digest
op_at t at.Decide = Digest
op_at t (at.StoreData j k) = Store (line_no (line_of t.entry j)) k (slice_index (data_words t j) k)
op_at t (at.SendData j) = Invalidate (line_no (line_of t.entry j))
op_at t (at.StoreSlot j k) = Store (line_no (slot_line t.params t.gate j)) k (slice_index t.words (line_words * j + k))
op_at t (at.SendSlot j) = WriteBack (line_no (slot_line t.params t.gate j))
op_at t at.FenceSlot = Fence
op_at t at.StoreGate = Store (line_no gate_line) 0 (t.gate + 1)
op_at t at.SendGate = WriteBack (line_no gate_line)
op_at t at.FenceGate = Fence

-- in its own phase
abbrev pub op_of : Task → Op
op_of t = op_at t t.phase
