-- What comes of an operation for its task: it goes on, with a note or without one, or it ends. docs/MODEL.md, "Tasks".
use Rattle.std.specs.Prelude.{ℕ, ◌+◌, ◌-◌, ◌*◌, ◌%◌, ◌==◌, not, nat_lt, nat_le, if◌then◌else◌, min, List, [], ◌∷◌, ◌++◌, length, map, find, Option, Some, None, Result, Ok, Err, unwrap_or}
use Rattle.std.specs.List.{range_with_len}
use Rattle.std.specs.FinMap as finmap
use Rattle.fam_base.specs.declared.cmd.Cmd.{Cmd}
use Rattle.fam_base.specs.declared.cmd.Cmd.TheVariants.{Logplay, Mount, Mkdir, Creat, Cp, Verify, Read, Check, Fsck}
use Rattle.fam_base.specs.declared.cmd.Content.{Content}
use Rattle.fam_base.specs.declared.cmd.Content.TheVariants as content
use Rattle.fam_base.specs.declared.entry.Params.{Params}
use Rattle.fam_base.specs.declared.entry.Entry.{Entry}
use Rattle.fam_base.specs.declared.entry.Kind.{Kind}
use Rattle.fam_base.specs.declared.entry.Kind.TheVariants as kind
use Rattle.fam_format.specs.declared.faults.SuperFault.{SuperFault}
use Rattle.fam_format.specs.declared.faults.LogFault.{LogFault}
use Rattle.fam_format.specs.declared.faults.Reason.{Reason}
use Rattle.fam_format.specs.Layout.{geometry}
use Rattle.fam_format.specs.Line.{line_bytes, last_word}
use Rattle.fam_format.specs.Super.{magic_fault, super_body_of}
use Rattle.fam_format.specs.Log.{log_fault, gate_fault}
use Rattle.fam_format.specs.Slot.{spelling, entry_of}
use Rattle.fam_format.specs.Tree.{replay, join_fault}
use Rattle.fam_rules.specs.declared.answers.Refused.{Refused}
use Rattle.fam_rules.specs.Checks.{checked}
use Rattle.fam_rules.specs.Content.{byte_in, content_byte}
use Rattle.fam_rules.specs.Decide.{Wish, wish_of, early_refusal, decide_wish}
use Rattle.fam_rules.specs.Reply.{Reply, Appended, NotAppended, Played, Mounted, Same, Differs, Length, Bytes, NotFound, IsDirectory, Checks, Reports, NoSuperblock, BadHeader, BadSlot}
use Rattle.fam_rules.specs.Reports.{survey_slot, report_by, super_report, log_report}
use Rattle.fam_rules.specs.Written.{lines_of}
use Rattle.fam_commands.specs.declared.phase.Part.{Part}
use Rattle.fam_commands.specs.declared.phase.Part.TheVariants.{Superblock, Header, Slot, File}
use Rattle.fam_commands.specs.declared.phase.Phase.{Phase}
use Rattle.fam_commands.specs.declared.phase.Phase.TheVariants as at
use Rattle.fam_commands.specs.Kept.{used, first_slot}
use Rattle.fam_commands.specs.Task.{Task, size_of, wanted_end, part_count}
use Rattle.fam_commands.specs.Classes.{Class, class_of, Replays, Appends, Compares, Reads, Surveys, is_fsck}

-- what comes of an operation for its task
pub data Turn : Type 0 where
  -- nothing is noted
  Goes : (t : Task) → Turn
  -- the gate's line was invalidated: all that was settled by now will be read
  Marks : (t : Task) → Turn
  -- a command that appends has found so many entries
  Finds : (n : ℕ) (t : Task) → Turn
  -- it goes on to append this entry
  Writes : (seq : ℕ) (e : Entry) (t : Task) → Turn
  -- it answers
  Ends : (reply : Reply) → Turn

-- Answers on a damaged image: a check of the whole file system reports, others name the fault.

-- the superblock has this fault; by the class of the command
abbrev pub super_fault_reply_in : Class → SuperFault → Reply
super_fault_reply_in Surveys fault = Reports (super_report fault)
super_fault_reply_in Replays fault = NoSuperblock fault
super_fault_reply_in Appends fault = NoSuperblock fault
super_fault_reply_in (Compares path against) fault = NoSuperblock fault
super_fault_reply_in (Reads path offset count) fault = NoSuperblock fault

-- so of a command, by its class
abbrev pub super_fault_reply : Cmd → SuperFault → Reply
super_fault_reply cmd fault = super_fault_reply_in (class_of cmd) fault

-- header or gate has this fault; by the class of the command
abbrev pub log_fault_reply_in : Class → LogFault → Reply
log_fault_reply_in Surveys fault = Reports (log_report fault)
log_fault_reply_in Replays fault = BadHeader fault
log_fault_reply_in Appends fault = BadHeader fault
log_fault_reply_in (Compares path against) fault = BadHeader fault
log_fault_reply_in (Reads path offset count) fault = BadHeader fault

-- so of a command, by its class
abbrev pub log_fault_reply : Cmd → LogFault → Reply
log_fault_reply cmd fault = log_fault_reply_in (class_of cmd) fault

-- Superblock and header.

-- the magic is that of a superblock, or the answer
abbrev pub magic_turn : Task → Option SuperFault → Turn
magic_turn t (Some fault) = Ends (super_fault_reply t.cmd fault)
magic_turn t None = Goes (record t { phase = at.Drop Superblock 0; words = [] })

-- a host that appends must be the master, with a path that fits a slot
abbrev pub host_refusal : Option Wish → Params → List ℕ → Option Refused
host_refusal None p me = None
host_refusal (Some w) p me = early_refusal p me w.path

-- the host may go on, or the answer
abbrev pub host_turn : Task → Params → Option Refused → Turn
host_turn t p (Some refused) = Ends (NotAppended refused)
host_turn t p None = Goes (record t { params = p; phase = at.Drop Header 0; words = [] })

-- the superblock reads, or the answer
abbrev pub super_turn : Task → Result Params SuperFault → Turn
super_turn t (Err fault) = Ends (super_fault_reply t.cmd fault)
super_turn t (Ok p) = host_turn t p (host_refusal (wish_of t.cmd) p t.me)

-- the header has no fault, or the answer
abbrev pub header_turn : Task → Option LogFault → Turn
header_turn t (Some fault) = Ends (log_fault_reply t.cmd fault)
header_turn t None = Goes (record t { phase = at.DropGate; words = [] })

-- Gate and slots.

-- the number behind the last slot that the command reads: the gate's, or that of all slots
abbrev pub slots_read : Task → ℕ
slots_read t = if is_fsck t.cmd then t.params.slots else t.gate

-- the next slot, or the decision where all are read
abbrev pub slot_or_decide : Task → ℕ → Phase
slot_or_decide t i = if nat_lt i (slots_read t) then at.Drop (Slot i) 0 else at.Decide

-- a command that appends notes what it found
abbrev pub finds_or_goes : Option Wish → ℕ → Task → Turn
finds_or_goes None n t = Goes t
finds_or_goes (Some w) n t = Finds n t

-- the gate that was loaded: behind the kept entries the first slot comes next, where the command reads one
abbrev pub gate_loaded : Task → ℕ → Task
gate_loaded t n = record t { gate = n; entries = used t.kept t.cmd t.params n; phase = slot_or_decide (record t { gate = n }) (first_slot t.kept t.cmd t.params n) }

-- the gate is within the slots, or the answer
abbrev pub gate_turn : Task → ℕ → Option LogFault → Turn
gate_turn t n (Some fault) = Ends (log_fault_reply t.cmd fault)
gate_turn t n None = finds_or_goes (wish_of t.cmd) n (gate_loaded t n)

-- the entry of slot i joins those before it, or the answer
abbrev pub join_turn : Task → ℕ → Entry → Option Reason → Turn
join_turn t i e (Some reason) = Ends (BadSlot i reason)
join_turn t i e None = Goes (record t { entries = t.entries ++ e ∷ []; words = []; phase = slot_or_decide t (i + 1) })

-- slot i reads, or the answer
abbrev pub slot_turn : Task → ℕ → Result Entry Reason → Turn
slot_turn t i (Err reason) = Ends (BadSlot i reason)
slot_turn t i (Ok e) = join_turn t i e (join_fault t.params t.entries e)

-- slot i is surveyed, whatever its words are
abbrev pub survey_turn : Task → ℕ → Turn
survey_turn t i =
    Goes (record t { survey = survey_slot t.params t.gate i t.words t.survey; words = []; phase = slot_or_decide t (i + 1) })

-- the words of slot i; by the class of the command
abbrev pub check_turn_in : Class → Task → ℕ → Turn
check_turn_in Surveys t i = survey_turn t i
check_turn_in Replays t i = slot_turn t i (entry_of t.params t.words i)
check_turn_in Appends t i = slot_turn t i (entry_of t.params t.words i)
check_turn_in (Compares path against) t i = slot_turn t i (entry_of t.params t.words i)
check_turn_in (Reads path offset count) t i = slot_turn t i (entry_of t.params t.words i)

-- so of a command, by its class
abbrev pub check_turn : Cmd → Task → ℕ → Turn
check_turn cmd t i = check_turn_in (class_of cmd) t i

-- The decision.

-- the first store of an append: of the file's first line, or of the slot's
abbrev pub first_store : ℕ → Phase
first_store size = if size == 0 then at.StoreSlot 0 0 else at.StoreData 0 0

-- an entry is to be appended, or the answer
abbrev pub append_turn : Task → Result Entry Refused → Turn
append_turn t (Err refused) = Ends (NotAppended refused)
append_turn t (Ok e) =
    Writes t.gate e (record t { entry = Some e; words = spelling (geometry t.params) e t.gate; phase = first_store e.size })

-- the lines of a file are to be read
abbrev pub read_file : Task → Entry → Turn
read_file t e = Goes (record t { entry = Some e; phase = at.Drop File 0; words = [] })

-- a file of no bytes has those of every content
abbrev pub verify_lines : Task → Entry → Turn
verify_lines t e = if e.size == 0 then Ends (Same (length t.entries)) else read_file t e

-- given bytes must be as many as the file's
abbrev pub verify_turn : Task → Entry → Content → Turn
verify_turn t e (content.Bytes given) =
    if length given == e.size then verify_lines t e else Ends (Length (length t.entries) e.size (length given))
verify_turn t e (content.Seed seed) = verify_lines t e
verify_turn t e content.Zero = verify_lines t e

-- no byte is wanted, or the lines that hold wanted bytes
abbrev pub bytes_turn : Task → Entry → ℕ → Turn
bytes_turn t e offset = if nat_le (wanted_end t.cmd e.size) offset then Ends (Bytes (length t.entries) []) else read_file t e

-- a directory has no bytes
abbrev pub kind_turn : Task → Kind → Turn → Turn
kind_turn t kind.Directory turn = Ends (IsDirectory (length t.entries))
kind_turn t kind.File turn = turn

-- what stands at the path
abbrev pub found_turn : Task → Option Entry → (Entry → Turn) → Turn
found_turn t None turn = Ends (NotFound (length t.entries))
found_turn t (Some e) turn = kind_turn t e.kind (turn e)

-- a command that appends
abbrev pub wish_turn : Task → Option Wish → Turn
wish_turn t None = Goes t
wish_turn t (Some w) = append_turn t (decide_wish t.params t.me t.entries w)

-- all slots are read
abbrev pub decide_turn : Cmd → Task → Turn
decide_turn Logplay t = Ends (Played (length t.entries) (replay t.entries))
decide_turn Mount t = Ends (Mounted (length t.entries))
decide_turn (Check listing) t = Ends (Checks (length t.entries) (checked (replay t.entries) listing))
decide_turn Fsck t = Ends (Reports (report_by t.params t.gate t.survey))
decide_turn (Verify path against) t = found_turn t (finmap.get (replay t.entries) path) (λ e. verify_turn t e against)
decide_turn (Read path offset count) t = found_turn t (finmap.get (replay t.entries) path) (λ e. bytes_turn t e offset)
decide_turn (Mkdir path attr) t = wish_turn t (wish_of t.cmd)
decide_turn (Creat path size attr stripe fill) t = wish_turn t (wish_of t.cmd)
decide_turn (Cp path attr stripe bytes) t = wish_turn t (wish_of t.cmd)

-- Lines that were loaded.

-- the next line of the part, or what comes behind its last one
abbrev pub line_or : Task → Part → ℕ → Turn → Turn
line_or t part j turn = if nat_lt (j + 1) (part_count t part) then Goes (record t { phase = at.Drop part (j + 1) }) else turn

-- the first byte of line j of the file that isn't the content's, by its offset in the line
abbrev pub line_difference : Task → Content → ℕ → Option ℕ
line_difference t against j =
    find (λ b. not (byte_in t.words b == content_byte against (line_bytes * j + b))) (range_with_len 0 (min line_bytes (size_of t.entry - line_bytes * j)))

-- line j of the file has the content's bytes, or the answer
abbrev pub compare_turn : Task → Content → ℕ → Option ℕ → Turn
compare_turn t against j (Some b) = Ends (Differs (length t.entries) (line_bytes * j + b) (byte_in t.words b) (content_byte against (line_bytes * j + b)))
compare_turn t against j None = line_or (record t { words = [] }) File j (Ends (Same (length t.entries)))

-- the wanted bytes of the lines that were loaded
abbrev pub loaded_bytes : Task → ℕ → List ℕ
loaded_bytes t offset = map (λ i. byte_in t.words (offset % line_bytes + i)) (range_with_len 0 (wanted_end t.cmd (size_of t.entry) - offset))

-- line j of the file was loaded; by the class of the command
abbrev pub file_turn_in : Class → Task → ℕ → Turn
file_turn_in (Compares path against) t j = compare_turn t against j (line_difference t against j)
file_turn_in (Reads path offset count) t j = line_or t File j (Ends (Bytes (length t.entries) (loaded_bytes t offset)))
file_turn_in Replays t j = Goes t
file_turn_in Appends t j = Goes t
file_turn_in Surveys t j = Goes t

-- so of a command, by its class
abbrev pub file_turn : Cmd → Task → ℕ → Turn
file_turn cmd t j = file_turn_in (class_of cmd) t j

-- line j of a part was loaded
abbrev pub line_turn : Task → Part → ℕ → Turn
line_turn t Superblock j = line_or t Superblock j (super_turn t (super_body_of t.words (line_bytes * t.lines)))
line_turn t Header j = header_turn t (log_fault t.words t.params)
line_turn t (Slot i) j = line_or t (Slot i) j (Goes (record t { phase = at.Check i }))
line_turn t File j = file_turn t.cmd t j

-- the task with one word more
abbrev pub with_word : Task → ℕ → Task
with_word t word = record t { words = t.words ++ word ∷ [] }

-- word k of line j of a part was loaded
abbrev pub word_turn : Task → Part → ℕ → ℕ → Turn
word_turn t part j k = if nat_lt k last_word then Goes (record t { phase = at.Word part j (k + 1) }) else line_turn t part j

-- Lines that are written.

-- the next word of the line, or what sends it or asks for that
abbrev pub store_or_send : ℕ → Phase → Phase → Phase
store_or_send k store send = if nat_lt k last_word then store else send

-- the next line of the file, or the slot's first one
abbrev pub data_or_slot : Task → ℕ → Phase
data_or_slot t j = if nat_lt (j + 1) (lines_of (size_of t.entry)) then at.StoreData (j + 1) 0 else at.StoreSlot 0 0

-- the next line of the slot, or the fence behind them
abbrev pub slot_or_fence : Task → ℕ → Phase
slot_or_fence t j = if nat_lt (j + 1) (geometry t.params).lines then at.StoreSlot (j + 1) 0 else at.FenceSlot

-- What comes of the operation in a phase; `word` is what a load gave.

-- in a phase
abbrev pub turn_at : Phase → Task → ℕ → Turn
turn_at at.DropMagic t word = Goes (record t { phase = at.Magic })
turn_at at.Magic t word = magic_turn t (magic_fault word)
turn_at (at.Drop part j) t word = Goes (record t { phase = at.Word part j 0 })
turn_at (at.Word part j k) t word = word_turn (with_word t word) part j k
turn_at at.DropGate t word = Marks (record t { phase = at.Gate })
turn_at at.Gate t word = gate_turn t word (gate_fault word t.params)
turn_at (at.Check i) t word = check_turn t.cmd t i
turn_at at.Decide t word = decide_turn t.cmd t
turn_at (at.StoreData j k) t word = Goes (record t { phase = store_or_send k (at.StoreData j (k + 1)) (at.SendData j) })
turn_at (at.SendData j) t word = Goes (record t { phase = data_or_slot t j })
turn_at (at.StoreSlot j k) t word = Goes (record t { phase = store_or_send k (at.StoreSlot j (k + 1)) (at.SendSlot j) })
turn_at (at.SendSlot j) t word = Goes (record t { phase = slot_or_fence t j })
turn_at at.FenceSlot t word = Goes (record t { phase = at.StoreGate })
turn_at at.StoreGate t word = Goes (record t { phase = at.SendGate })
turn_at at.SendGate t word = Goes (record t { phase = at.FenceGate })
turn_at at.FenceGate t word = Ends (Appended t.gate)

-- a load gives a word, and no other operation does
abbrev pub turn_of : Task → Option ℕ → Turn
turn_of t word = turn_at t.phase t (unwrap_or word 0)
