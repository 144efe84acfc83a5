-- How many operations a command makes, by its answer. docs/MODEL.md, "The table of operations".
use Rattle.std.specs.Prelude.{ℕ, ◌+◌, ◌-◌, ◌*◌, ◌/◌, List, length, Option, Some, None}
use Rattle.std.specs.FinMap as finmap
use Rattle.fam_base.specs.declared.cmd.Cmd.{Cmd}
use Rattle.fam_base.specs.declared.cmd.Cmd.TheVariants.{Logplay, Mount, Mkdir, Creat, Cp, Verify, Read, Check, Fsck}
use Rattle.fam_base.specs.declared.entry.Entry.{Entry}
use Rattle.fam_format.specs.declared.faults.SuperFault.{SuperFault}
use Rattle.fam_format.specs.declared.faults.SuperFault.TheVariants as super_fault
use Rattle.fam_format.specs.declared.faults.LogFault.{LogFault}
use Rattle.fam_format.specs.declared.faults.LogFault.TheVariants as log_fault
use Rattle.fam_format.specs.declared.faults.LogField.{LogField}
use Rattle.fam_format.specs.declared.faults.LogField.TheVariants as field
use Rattle.fam_format.specs.Layout.{Geometry, geometry}
use Rattle.fam_format.specs.Line.{line_bytes, line_words}
use Rattle.fam_format.specs.Tree.{replay}
use Rattle.fam_rules.specs.declared.answers.Refused.{Refused}
use Rattle.fam_rules.specs.declared.answers.Refused.TheVariants.{NotMaster, LongPath, BadStripe, Exists, NoParent, ParentIsFile, LogFull, NoSpace}
use Rattle.fam_rules.specs.declared.answers.SuperState.{SuperState}
use Rattle.fam_rules.specs.declared.answers.SuperState.TheVariants as superblock
use Rattle.fam_rules.specs.declared.answers.LogState.{LogState}
use Rattle.fam_rules.specs.declared.answers.LogState.TheVariants as log
use Rattle.fam_rules.specs.Decide.{Wish, wish_of}
use Rattle.fam_rules.specs.Reply.{Reply, Appended, NotAppended, Played, Mounted, Same, Differs, Length, Bytes, NotFound, IsDirectory, Checks, Reports, NoSuperblock, BadHeader, BadSlot}
use Rattle.fam_rules.specs.Written.{lines_of}
use Rattle.fam_commands.specs.Kept.{Kept, used}
use Rattle.fam_commands.specs.Task.{no_params, size_of, wanted_lines}
use Rattle.fam_commands.specs.Table.{fed_super, fed_gate, fed_slots, entries_read, params_or}

-- a line takes one operation for each of its words, and its invalidation or write-back
abbrev pub line_steps : ℕ
line_steps = line_words + 1

-- the magic and the gate take two each: an invalidation and a load
abbrev pub word_steps : ℕ
word_steps = 2

-- up to the last word of the superblock: the magic, and lines 1 and 2
abbrev pub superblock_steps : ℕ
superblock_steps = word_steps + 2 * line_steps

-- up to the last word of the log's header
abbrev pub log_header_steps : ℕ
log_header_steps = superblock_steps + line_steps

-- up to the gate
abbrev pub head_steps : ℕ
head_steps = log_header_steps + word_steps

-- the lines of a slot, and a Digest
abbrev pub slot_steps : Geometry → ℕ
slot_steps g = line_steps * g.lines + 1

-- up to the decision, which is one Digest behind the slots from the first one up to slot n
abbrev pub decided_steps : Geometry → ℕ → ℕ → ℕ
decided_steps g first n = head_steps + slot_steps g * (n - first) + 1

-- an append: the lines of the file and of the slot, two operations for the gate, and a fence behind the slot and the gate
abbrev pub append_steps : Geometry → ℕ → ℕ
append_steps g d = line_steps * d + line_steps * g.lines + 1 + word_steps + 1

-- the magic is the second word of all; lines 1 and 2 follow it
abbrev pub super_steps : SuperFault → ℕ
super_steps (super_fault.NoSuper word) = word_steps
super_steps (super_fault.BadSuper field found wanted) = superblock_steps

-- the header's last word, or the gate
abbrev pub field_steps : LogField → ℕ
field_steps field.Gate = head_steps
field_steps field.Magic = log_header_steps
field_steps field.Crc = log_header_steps
field_steps field.Length = log_header_steps
field_steps field.Slots = log_header_steps
field_steps field.Uuid = log_header_steps
field_steps field.Rest = log_header_steps

-- of a fault of header or gate
abbrev pub fault_steps : LogFault → ℕ
fault_steps (log_fault.BadLog field found wanted) = field_steps field

-- another host and a path that is too long are refused where the superblock is read, everything else at the decision
abbrev pub refused_steps : Geometry → ℕ → ℕ → Refused → ℕ
refused_steps g first n (NotMaster me master) = superblock_steps
refused_steps g first n (LongPath limit) = superblock_steps
refused_steps g first n BadStripe = decided_steps g first n
refused_steps g first n (Exists kind) = decided_steps g first n
refused_steps g first n NoParent = decided_steps g first n
refused_steps g first n ParentIsFile = decided_steps g first n
refused_steps g first n (LogFull slots) = decided_steps g first n
refused_steps g first n (NoSpace units) = decided_steps g first n

-- a check of the whole file system reads all slots; it doesn't leave a log unread behind a sound superblock
abbrev pub log_steps : Geometry → ℕ → LogState → ℕ
log_steps g first (log.Sound entries slots) = decided_steps g first slots
log_steps g first (log.BadLog field found wanted) = field_steps field
log_steps g first log.Unread = 0

-- by what a check of the whole file system finds of superblock and log
abbrev pub report_steps : Geometry → ℕ → SuperState → LogState → ℕ
report_steps g first superblock.Sound state = log_steps g first state
report_steps g first (superblock.NoSuper word) state = word_steps
report_steps g first (superblock.BadSuper field found wanted) state = superblock_steps

-- by the first slot that is read, the gate that was loaded, and the lines of the file that is read or written
abbrev pub steps_by : Geometry → ℕ → ℕ → ℕ → Reply → ℕ
steps_by g first n d (NoSuperblock fault) = super_steps fault
steps_by g first n d (BadHeader fault) = fault_steps fault
steps_by g first n d (BadSlot i reason) = head_steps + slot_steps g * (i + 1 - first)
steps_by g first n d (NotAppended refused) = refused_steps g first n refused
steps_by g first n d (Appended seq) = decided_steps g first n + append_steps g d
steps_by g first n d (Played m tree) = decided_steps g first n
steps_by g first n d (Mounted m) = decided_steps g first n
steps_by g first n d (Checks m checked) = decided_steps g first n
steps_by g first n d (NotFound m) = decided_steps g first n
steps_by g first n d (IsDirectory m) = decided_steps g first n
steps_by g first n d (Length m size wanted) = decided_steps g first n
steps_by g first n d (Same m) = decided_steps g first n + line_steps * d
steps_by g first n d (Bytes m bytes) = decided_steps g first n + line_steps * d
-- up to the line that differs
steps_by g first n d (Differs m offset found wanted) = decided_steps g first n + line_steps * (offset / line_bytes + 1)
steps_by g first n d (Reports report) = report_steps g first report.superblock report.log

-- the lines of the new file: a directory has no bytes
abbrev pub wish_lines : Option Wish → ℕ
wish_lines None = 0
wish_lines (Some w) = lines_of w.size

-- the lines of the new file, or those that hold wanted bytes of the file at a path
abbrev pub file_lines : Cmd → List Entry → ℕ
file_lines (Verify path against) entries = wanted_lines (Verify path against) (size_of (finmap.get (replay entries) path))
file_lines (Read path offset count) entries = wanted_lines (Read path offset count) (size_of (finmap.get (replay entries) path))
file_lines Logplay entries = 0
file_lines Mount entries = 0
file_lines (Mkdir path attr) entries = wish_lines (wish_of (Mkdir path attr))
file_lines (Creat path size attr stripe fill) entries = wish_lines (wish_of (Creat path size attr stripe fill))
file_lines (Cp path attr stripe bytes) entries = wish_lines (wish_of (Cp path attr stripe bytes))
file_lines (Check listing) entries = 0
file_lines Fsck entries = 0

-- the kept entries that a command uses, by the words
abbrev pub used_told : Option Kept → Cmd → List ℕ → ℕ → List Entry
used_told kept cmd words lines = used kept cmd (params_or no_params (fed_super words lines)) (fed_gate words)

-- the entries that the words tell behind these
abbrev pub told_entries : List Entry → List ℕ → ℕ → List Entry
told_entries used words lines =
    entries_read (fed_slots words (params_or no_params (fed_super words lines)) used (fed_gate words))

-- by the kept entries that are used
abbrev pub steps_behind : List Entry → Cmd → ℕ → List ℕ → Reply → ℕ
steps_behind used cmd lines words reply =
    steps_by (geometry (params_or no_params (fed_super words lines))) (length used) (fed_gate words) (file_lines cmd (told_entries used words lines)) reply

-- the operations up to this answer, with the one that gives it
abbrev pub steps_of : Option Kept → Cmd → ℕ → List ℕ → Reply → ℕ
steps_of kept cmd lines words reply = steps_behind (used_told kept cmd words lines) cmd lines words reply
