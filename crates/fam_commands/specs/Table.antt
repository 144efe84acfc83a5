-- The table of operations: what a command does, operation by operation, and what is noted or answered with each.
-- It is made from the words that the command's loads gave, as far as these tell it, and from nothing else.
-- docs/MODEL.md, "The table of operations".
use Rattle.std.specs.Prelude.{ℕ, ◌+◌, ◌-◌, ◌*◌, ◌==◌, ◌&&◌, nat_lt, Bool, true, false, if◌then◌else◌, List, [], ◌∷◌, ◌++◌, length, map, drop, slice_index, slice_range, Option, Some, None, Result, Ok, Err}
use Rattle.std.specs.List.{flat_map, range_with_len}
use Rattle.fam_base.specs.declared.cmd.Cmd.{Cmd}
use Rattle.fam_base.specs.declared.cmd.Cmd.TheVariants.{Logplay, Mount, Mkdir, Creat, Cp, Verify, Read, Check, Fsck}
use Rattle.fam_base.specs.declared.cmd.Content.{Content}
use Rattle.fam_base.specs.declared.cmd.Content.TheVariants as content
use Rattle.fam_base.specs.declared.entry.Params.{Params}
use Rattle.fam_base.specs.declared.entry.Entry.{Entry}
use Rattle.fam_base.specs.declared.entry.Kind.{Kind}
use Rattle.fam_base.specs.declared.entry.Kind.TheVariants as kind
use Rattle.fam_format.specs.declared.faults.SuperFault.{SuperFault}
use Rattle.fam_format.specs.declared.faults.LogFault.{LogFault}
use Rattle.fam_format.specs.Layout.{geometry, log_line, gate_line, slot_line}
use Rattle.fam_format.specs.Line.{line_bytes, line_words}
use Rattle.fam_format.specs.Super.{magic_fault}
use Rattle.fam_format.specs.Log.{log_fault, gate_fault}
use Rattle.fam_format.specs.Slot.{spelling}
use Rattle.fam_format.specs.Reading.{Reading, NoSuperblock, BadHeader, BadSlot, Sound, Lines, super_in, gate_in, read_slots}
use Rattle.fam_rules.specs.declared.answers.Refused.{Refused}
use Rattle.fam_rules.specs.Asks.{File, file_at, ask}
use Rattle.fam_rules.specs.Content.{byte_in, content_line}
use Rattle.fam_rules.specs.Decide.{Wish, wish_of, early_refusal, decide}
use Rattle.fam_rules.specs.Reply as reply
use Rattle.fam_rules.specs.Reply.{Reply}
use Rattle.fam_rules.specs.Reports.{report_of}
use Rattle.fam_rules.specs.Written.{lines_of, file_line, slot_part}
use Rattle.fam_machine.specs.declared.op.Op.{Op}
use Rattle.fam_machine.specs.declared.op.Op.TheVariants.{Load, Store, WriteBack, Fence, Invalidate, Digest}
use Rattle.fam_machine.specs.Operations.{line_no, load_ops, store_ops}
use Rattle.fam_commands.specs.Kept.{Kept, used}
use Rattle.fam_commands.specs.Task.{no_params, first_line, wanted_lines, content_of}
use Rattle.fam_commands.specs.Classes.{Class, class_of, Replays, Appends, Compares, Reads, Surveys, is_fsck}

-- what comes with an operation
pub data RowNote : Type 0 where
  Quiet : RowNote
  Mark : RowNote
  Found : (n : ℕ) → RowNote
  Writing : (seq : ℕ) (e : Entry) → RowNote
  Answer : (reply : Reply) → RowNote

-- a row of the table
pub record Row : Type 0 where
  pub op : Op
  pub note : RowNote

-- operations of which the last has a note
abbrev pub rows : List Op → RowNote → List Row
rows [] note = []
rows (op ∷ []) note = record { op = op; note = note } ∷ []
rows (op ∷ next ∷ more) note = record { op = op; note = Quiet } ∷ rows (next ∷ more) note

-- The operations.

-- the lines of a slot, and then the Digest
abbrev pub slot_ops : Params → ℕ → List Op
slot_ops p i = flat_map (λ j. load_ops (slot_line p i j) line_words) (range_with_len 0 (geometry p).lines) ++ Digest ∷ []

-- the lines of a new file: each is stored and sent
abbrev pub data_ops : Entry → Content → List Op
data_ops e fill = flat_map (λ j. store_ops (file_line e j) (content_line fill e.size j) ++ Invalidate (line_no (file_line e j)) ∷ []) (range_with_len 0 (lines_of e.size))

-- the lines of a new slot: each is stored, and it is asked for it to be sent
abbrev pub new_slot_ops : Params → ℕ → Entry → List Op
new_slot_ops p seq e =
    flat_map (λ j. store_ops (slot_line p seq j) (slot_part (spelling (geometry p) e seq) j) ++ WriteBack (line_no (slot_line p seq j)) ∷ []) (range_with_len 0 (geometry p).lines)

-- an entry is appended: its file; its slot, which is sent by a fence; and then the gate, which is sent by another one
abbrev pub append_ops : Params → ℕ → Entry → Content → List Op
append_ops p seq e fill =
    data_ops e fill ++ new_slot_ops p seq e ++ Fence ∷ Store (line_no gate_line) 0 (seq + 1) ∷ WriteBack (line_no gate_line) ∷ Fence ∷ []

-- The words.

-- how many words are loaded before the first slot: the magic, lines 1 and 2, the header and the gate
abbrev pub head_words : ℕ
head_words = 1 + 3 * line_words + 1

-- how many words are loaded before slot n, of a command that reads slots from `first` on
abbrev pub words_before : Params → ℕ → ℕ → ℕ
words_before p first n = head_words + (geometry p).words * (n - first)

-- the loaded words as lines of memory: superblock, header and gate
abbrev pub fed_head : List ℕ → Lines
fed_head words line =
    if line == 0 then slice_range words 0 1
    else if line == 1 then slice_range words 1 (1 + line_words)
    else if line == 2 then slice_range words (1 + line_words) (1 + 2 * line_words)
    else if line == log_line then slice_range words (1 + 2 * line_words) (1 + 3 * line_words)
    else if line == gate_line then slice_range words (1 + 3 * line_words) head_words
    else []

-- where the words of a line begin, of the slots from `first` on
abbrev pub fed_from : Params → ℕ → ℕ → ℕ
fed_from p first line = head_words + line_words * (line - slot_line p first 0)

-- these, and the slots from `first` on: what a reading may look at
abbrev pub fed : Params → ℕ → List ℕ → Lines
fed p first words line =
    if nat_lt line (slot_line p first 0) then fed_head words line
    else slice_range words (fed_from p first line) (fed_from p first line + line_words)

-- what they say of the superblock
abbrev pub fed_super : List ℕ → ℕ → Result Params SuperFault
fed_super words lines = super_in (fed_head words) (line_bytes * lines)

-- of the gate
abbrev pub fed_gate : List ℕ → ℕ
fed_gate words = gate_in (fed_head words)

-- and of the slots behind the kept entries that are used, up to slot n
abbrev pub fed_slots : List ℕ → Params → List Entry → ℕ → Reading
fed_slots words p used n = read_slots (fed p (length used) words) p (length used) (n - length used) used

-- the entries of a sound reading
abbrev pub entries_read : Reading → List Entry
entries_read (NoSuperblock fault) = []
entries_read (BadHeader fault) = []
entries_read (BadSlot i reason) = []
entries_read (Sound p entries) = entries

-- an entry, and the bytes of its file as the words behind the slots give them, of which the first is byte `start`
abbrev pub fed_file : List ℕ → ℕ → Entry → File
fed_file words start e = record { entry = e; bytes = map (λ o. byte_in words (o - start)) (range_with_len 0 e.size) }

-- the entries with these bytes
abbrev pub fed_files : List ℕ → Params → ℕ → Cmd → List Entry → List File
fed_files words p first cmd entries =
    map (fed_file (drop (words_before p first (length entries)) words) (line_bytes * first_line cmd)) entries

-- What is noted.

-- a reply on a damaged image: a check of the whole file system reports; by the class of the command
abbrev pub fault_reply_in : Class → List ℕ → ℕ → Reply → Reply
fault_reply_in Surveys words lines other = reply.Reports (report_of (fed_head words) (line_bytes * lines))
fault_reply_in Replays words lines other = other
fault_reply_in Appends words lines other = other
fault_reply_in (Compares path against) words lines other = other
fault_reply_in (Reads path offset count) words lines other = other

-- so of a command, by its class
abbrev pub fault_reply : Cmd → List ℕ → ℕ → Reply → Reply
fault_reply cmd words lines other = fault_reply_in (class_of cmd) words lines other

-- with the load of the magic
abbrev pub magic_note : Cmd → List ℕ → ℕ → Option SuperFault → RowNote
magic_note cmd words lines (Some fault) = Answer (fault_reply cmd words lines (reply.NoSuperblock fault))
magic_note cmd words lines None = Quiet

-- a command that appends, of another host than the master or of a path that is too long
abbrev pub host_note : Option Wish → Params → List ℕ → RowNote
host_note None p me = Quiet
host_note (Some w) p me = refusal_note (early_refusal p me w.path)
  where
    refusal_note : Option Refused → RowNote
    refusal_note None = Quiet
    refusal_note (Some refused) = Answer (reply.NotAppended refused)

-- with the last load of the superblock
abbrev pub super_note : Cmd → List ℕ → List ℕ → ℕ → Result Params SuperFault → RowNote
super_note cmd me words lines (Err fault) = Answer (fault_reply cmd words lines (reply.NoSuperblock fault))
super_note cmd me words lines (Ok p) = host_note (wish_of cmd) p me

-- with the last load of the header
abbrev pub header_note : Cmd → List ℕ → ℕ → Option LogFault → RowNote
header_note cmd words lines (Some fault) = Answer (fault_reply cmd words lines (reply.BadHeader fault))
header_note cmd words lines None = Quiet

-- a command that appends says what it found
abbrev pub found_note : Option Wish → ℕ → RowNote
found_note None n = Quiet
found_note (Some w) n = Found n

-- with the load of the gate
abbrev pub gate_note : Cmd → List ℕ → ℕ → Option LogFault → RowNote
gate_note cmd words lines (Some fault) = Answer (fault_reply cmd words lines (reply.BadHeader fault))
gate_note cmd words lines None = found_note (wish_of cmd) (fed_gate words)

-- by the reading of the slots up to this one
abbrev pub reading_note : Reading → RowNote
reading_note (NoSuperblock fault) = Quiet
reading_note (BadHeader fault) = Quiet
reading_note (BadSlot i reason) = Answer (reply.BadSlot i reason)
reading_note (Sound p entries) = Quiet

-- with the Digest of slot i: a check of the whole file system goes on; by the class of the command
abbrev pub slot_note_in : Class → List ℕ → Params → List Entry → ℕ → RowNote
slot_note_in Surveys words p used i = Quiet
slot_note_in Replays words p used i = reading_note (fed_slots words p used (i + 1))
slot_note_in Appends words p used i = reading_note (fed_slots words p used (i + 1))
slot_note_in (Compares path against) words p used i = reading_note (fed_slots words p used (i + 1))
slot_note_in (Reads path offset count) words p used i = reading_note (fed_slots words p used (i + 1))

-- so of a command, by its class
abbrev pub slot_note : Cmd → List ℕ → Params → List Entry → ℕ → RowNote
slot_note cmd words p used i = slot_note_in (class_of cmd) words p used i

-- an answer, where there is one
abbrev pub answer_or : Option Reply → RowNote
answer_or None = Quiet
answer_or (Some given) = Answer given

-- the entry that a command appends, or why none
abbrev pub append_note : ℕ → Option (Result Entry Refused) → RowNote
append_note seq None = Quiet
append_note seq (Some (Err refused)) = Answer (reply.NotAppended refused)
append_note seq (Some (Ok e)) = Writing seq e

-- given bytes are as many as the file's
abbrev pub fits_given : Content → ℕ → Bool
fits_given content.Zero size = true
fits_given (content.Seed seed) size = true
fits_given (content.Bytes given) size = length given == size

-- so are those that a command compares with; by the class of the command
abbrev pub fits_content_in : Class → ℕ → Bool
fits_content_in (Compares path against) size = fits_given against size
fits_content_in Replays size = true
fits_content_in Appends size = true
fits_content_in (Reads path offset count) size = true
fits_content_in Surveys size = true

-- so of a command, by its class
abbrev pub fits_content : Cmd → ℕ → Bool
fits_content cmd size = fits_content_in (class_of cmd) size

-- lines of the file are to be read
abbrev pub reads_kind : Kind → Cmd → ℕ → Bool
reads_kind kind.Directory cmd size = false
reads_kind kind.File cmd size = fits_content cmd size && nat_lt 0 (wanted_lines cmd size)

-- where there is one
abbrev pub reads_file : Cmd → Option File → Bool
reads_file cmd None = false
reads_file cmd (Some f) = reads_kind f.entry.kind cmd f.entry.size

-- which file a command reads; by the class of the command
abbrev pub wanted_file_in : Class → List File → Option File
wanted_file_in (Compares path against) files = file_at files path
wanted_file_in (Reads path offset count) files = file_at files path
wanted_file_in Replays files = None
wanted_file_in Appends files = None
wanted_file_in Surveys files = None

-- so of a command, by its class
abbrev pub wanted_file : Cmd → List File → Option File
wanted_file cmd files = wanted_file_in (class_of cmd) files

-- of a command that asks: quiet where lines of a file are to be read, or the answer
abbrev pub asked_note : Cmd → List ℕ → Params → ℕ → List Entry → RowNote
asked_note cmd words p first entries =
    if reads_file cmd (wanted_file cmd (fed_files words p first cmd entries)) then Quiet
    else answer_or (ask (fed_files words p first cmd entries) cmd)

-- with the Digest behind the slots
abbrev pub decision_note : Cmd → List ℕ → List ℕ → ℕ → Params → ℕ → List Entry → RowNote
decision_note Fsck me words lines p first entries = Answer (reply.Reports (report_of (fed p first words) (line_bytes * lines)))
decision_note (Mkdir path attr) me words lines p first entries = append_note (length entries) (decide p me entries (Mkdir path attr))
decision_note (Creat path size attr stripe fill) me words lines p first entries =
    append_note (length entries) (decide p me entries (Creat path size attr stripe fill))
decision_note (Cp path attr stripe bytes) me words lines p first entries = append_note (length entries) (decide p me entries (Cp path attr stripe bytes))
decision_note Logplay me words lines p first entries = asked_note Logplay words p first entries
decision_note Mount me words lines p first entries = asked_note Mount words p first entries
decision_note (Verify path against) me words lines p first entries = asked_note (Verify path against) words p first entries
decision_note (Read path offset count) me words lines p first entries = asked_note (Read path offset count) words p first entries
decision_note (Check listing) me words lines p first entries = asked_note (Check listing) words p first entries

-- an answer, where it is a difference in the first so many bytes
abbrev pub early_reply_note : ℕ → Reply → RowNote
early_reply_note end (reply.Differs m offset found wanted) = if nat_lt offset end then Answer (reply.Differs m offset found wanted) else Quiet
early_reply_note end (reply.Appended seq) = Quiet
early_reply_note end (reply.NotAppended refused) = Quiet
early_reply_note end (reply.Played m tree) = Quiet
early_reply_note end (reply.Mounted m) = Quiet
early_reply_note end (reply.Same m) = Quiet
early_reply_note end (reply.Length m size wanted) = Quiet
early_reply_note end (reply.Bytes m bytes) = Quiet
early_reply_note end (reply.NotFound m) = Quiet
early_reply_note end (reply.IsDirectory m) = Quiet
early_reply_note end (reply.Checks m checked) = Quiet
early_reply_note end (reply.Reports report) = Quiet
early_reply_note end (reply.NoSuperblock fault) = Quiet
early_reply_note end (reply.BadHeader fault) = Quiet
early_reply_note end (reply.BadSlot seq reason) = Quiet

-- by the reply, where there is one
abbrev pub early_note : ℕ → Option Reply → RowNote
early_note end None = Quiet
early_note end (Some given) = early_reply_note end given

-- with the last load of line j of the file
abbrev pub line_note : Cmd → List ℕ → Params → ℕ → List Entry → ℕ → ℕ → RowNote
line_note cmd words p first entries count j =
    if nat_lt (j + 1) count then early_note (line_bytes * (j + 1)) (ask (fed_files words p first cmd entries) cmd)
    else answer_or (ask (fed_files words p first cmd entries) cmd)

-- The table.

-- superblock, header and gate
abbrev pub head_rows : Cmd → List ℕ → ℕ → List ℕ → Params → List Row
head_rows cmd me lines words p =
    rows (load_ops 0 1) (magic_note cmd words lines (magic_fault (slice_index words 0))) ++ rows (load_ops 1 line_words ++ load_ops 2 line_words) (super_note cmd me words lines (fed_super words lines)) ++ rows (load_ops log_line line_words) (header_note cmd words lines (log_fault (fed_head words log_line) p)) ++ rows (Invalidate (line_no gate_line) ∷ []) Mark ++ rows (Load (line_no gate_line) 0 ∷ []) (gate_note cmd words lines (gate_fault (fed_gate words) p))

-- the slots behind the kept entries that are used, up to slot n
abbrev pub slots_rows : Cmd → List ℕ → Params → List Entry → ℕ → List Row
slots_rows cmd words p used n =
    flat_map (λ i. rows (slot_ops p i) (slot_note cmd words p used i)) (range_with_len (length used) (n - length used))

-- the lines of a file that hold wanted bytes
abbrev pub file_rows : Cmd → List ℕ → Params → ℕ → List Entry → Entry → List Row
file_rows cmd words p first entries e =
    flat_map (λ j. rows (load_ops (file_line e (first_line cmd + j)) line_words) (line_note cmd words p first entries (wanted_lines cmd e.size) j)) (range_with_len 0 (wanted_lines cmd e.size))

-- an append
abbrev pub append_rows : Cmd → Params → ℕ → Option (Result Entry Refused) → List Row
append_rows cmd p seq None = []
append_rows cmd p seq (Some (Err refused)) = []
append_rows cmd p seq (Some (Ok e)) = rows (append_ops p seq e (content_of cmd)) (Answer (reply.Appended seq))

-- the file that is read
abbrev pub wanted_rows : Cmd → List ℕ → Params → ℕ → List Entry → Option File → List Row
wanted_rows cmd words p first entries None = []
wanted_rows cmd words p first entries (Some f) = file_rows cmd words p first entries f.entry

-- of a command that asks: the file, where lines of it are to be read
abbrev pub asked_rows : Cmd → List ℕ → Params → ℕ → List Entry → List Row
asked_rows cmd words p first entries =
    if reads_file cmd (wanted_file cmd (fed_files words p first cmd entries)) then wanted_rows cmd words p first entries (wanted_file cmd (fed_files words p first cmd entries)) else []

-- what comes behind the decision
abbrev pub last_rows : Cmd → List ℕ → List ℕ → Params → ℕ → List Entry → List Row
last_rows (Mkdir path attr) me words p first entries = append_rows (Mkdir path attr) p (length entries) (decide p me entries (Mkdir path attr))
last_rows (Creat path size attr stripe fill) me words p first entries =
    append_rows (Creat path size attr stripe fill) p (length entries) (decide p me entries (Creat path size attr stripe fill))
last_rows (Cp path attr stripe bytes) me words p first entries =
    append_rows (Cp path attr stripe bytes) p (length entries) (decide p me entries (Cp path attr stripe bytes))
last_rows Logplay me words p first entries = asked_rows Logplay words p first entries
last_rows Mount me words p first entries = asked_rows Mount words p first entries
last_rows (Verify path against) me words p first entries = asked_rows (Verify path against) words p first entries
last_rows (Read path offset count) me words p first entries = asked_rows (Read path offset count) words p first entries
last_rows (Check listing) me words p first entries = asked_rows (Check listing) words p first entries
last_rows Fsck me words p first entries = []

-- the number behind the last slot that a command reads
abbrev pub slots_of_cmd : Cmd → Params → ℕ → ℕ
slots_of_cmd cmd p gate = if is_fsck cmd then p.slots else gate

-- the rows behind the gate, by the parameters and the kept entries that are used
abbrev pub rows_behind : List Entry → Cmd → List ℕ → ℕ → List ℕ → Params → List Row
rows_behind used cmd me lines words p =
    let entries = entries_read (fed_slots words p used (fed_gate words)) in
    slots_rows cmd words p used (slots_of_cmd cmd p (fed_gate words)) ++ record { op = Digest; note = decision_note cmd me words lines p (length used) entries } ∷ last_rows cmd me words p (length used) entries

-- by the parameters alone
abbrev pub body_rows : Option Kept → Cmd → List ℕ → ℕ → List ℕ → Params → List Row
body_rows kept cmd me lines words p = rows_behind (used kept cmd p (fed_gate words)) cmd me lines words p

-- the parameters that the words tell, or none
abbrev pub params_or : Params → Result Params SuperFault → Params
params_or default (Ok p) = p
params_or default (Err fault) = default

-- the whole table of a command on a host that keeps this, after these words
abbrev pub table : Option Kept → Cmd → List ℕ → ℕ → List ℕ → List Row
table kept cmd me lines words =
    let p = params_or no_params (fed_super words lines) in
    head_rows cmd me lines words p ++ body_rows kept cmd me lines words p
