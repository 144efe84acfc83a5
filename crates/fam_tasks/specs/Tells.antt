-- How a turn that a call gives tells the one of the definition.
use Rattle.std.specs.Prelude.{ℕ, ◌≡◌, ◌⊎◌, ◌||◌, nat_lt, ⊤, Bool, true, false, [], IsSome, Option, Some, None}
use Rattle.fam_base.specs.declared.cmd.Cmd.TheVariants.{Mount}
use Rattle.fam_format.specs.Line.{last_word}
use Rattle.fam_format.specs.Tree.{Tree}
use Rattle.fam_format.specs.declared.faults.Reason.{Reason}
use Rattle.fam_rules.specs.declared.answers.Refused.TheVariants.{NoSpace}
use Rattle.fam_rules.specs.declared.answers.Checked.{Checked}
use Rattle.fam_rules.specs.declared.answers.Report.{Report}
use Rattle.fam_rules.specs.Reply.{Checks, NotAppended, Played, Reply, Reports}
use Rattle.fam_machine.specs.declared.op.Op.{Op}
use Rattle.fam_machine.specs.declared.op.Op.TheVariants.{Load, Store, WriteBack, Fence, Invalidate, Digest}
use Rattle.fam_commands.specs.declared.phase.Part.{Part}
use Rattle.fam_commands.specs.declared.phase.Part.TheVariants as part
use Rattle.fam_commands.specs.declared.phase.Phase.{Phase}
use Rattle.fam_commands.specs.declared.phase.Phase.TheVariants as at
use Rattle.fam_commands.specs.Keeping.{kept_after}
use Rattle.fam_commands.specs.Task.{Task}
use Rattle.fam_commands.specs.Turns as turns
use Rattle.fam_tasks.specs.declared.answer.Answer.TheVariants as answer
use Rattle.fam_tasks.specs.declared.answer.Turn.{Turn}
use Rattle.fam_tasks.specs.declared.answer.Turn.TheVariants.{Go, Note, Done}
use Rattle.fam_tasks.specs.declared.answer.TaskNote.TheVariants.{Mark, Found, Writes}
use Rattle.fam_tasks.specs.Answers.{reply_of}

-- the task is done, with this reply
abbrev pub Replies : Turn → Reply → Type 0
Replies Go reply = ⊥
Replies (Note note) reply = ⊥
Replies (Done answer) reply = reply_of answer ≡ Some reply

-- the turn of the definition, and what the call gave and left. Of a task that is done nothing more is said here
abbrev pub Tells : turns.Turn → Turn → Task → Type 0
Tells (turns.Goes t) turn new = (turn ≡ Go) × (new ≡ t)
Tells (turns.Marks t) turn new = (turn ≡ Note Mark) × (new ≡ t)
Tells (turns.Finds n t) turn new = (turn ≡ Note (Found n)) × (new ≡ t)
Tells (turns.Writes seq e t) turn new = (turn ≡ Note (Writes seq e)) × (new ≡ t)
Tells (turns.Ends reply) turn new = Replies turn reply

-- a refusal to append, since no room was found in the units
abbrev pub TellsNoSpace : Reply → Type 0
TellsNoSpace reply = (k : ℕ) × (reply ≡ NotAppended (NoSpace k))

-- the answer of a logplay
abbrev pub TellsPlayed : Reply → Type 0
TellsPlayed reply = (m : ℕ) × ((tree : Tree) × (reply ≡ Played m tree))

-- the answer of a check against a listing
abbrev pub TellsChecked : Reply → Type 0
TellsChecked reply = (m : ℕ) × ((checked : Checked) × (reply ≡ Checks m checked))

-- the answer of a check of the whole file system
abbrev pub TellsReport : Reply → Type 0
TellsReport reply = (report : Report) × (reply ≡ Reports report)

-- a turn for which a task may want memory: it goes on, or goes on to append; or it finds no room in the units of a log with
-- no entry, of which no map was made so far; or it is a logplay of a host that keeps something, whose answer takes a copy;
-- or a check against a listing, whose answer may name a path, or one of the whole file system, whose report is large
abbrev pub WantsMemory : Task → turns.Turn → Type 0
WantsMemory t (turns.Goes next) = ⊤
WantsMemory t (turns.Marks next) = ⊥
WantsMemory t (turns.Finds n next) = ⊥
WantsMemory t (turns.Writes seq e next) = ⊤
WantsMemory t (turns.Ends reply) = ((t.entries ≡ []) × TellsNoSpace reply) ⊎ (IsSome t.kept × TellsPlayed reply) ⊎ TellsChecked reply ⊎ TellsReport reply

-- what a task keeps behind a turn is what its host keeps then
abbrev pub Keeps : Task → turns.Turn → Task → Type 0
Keeps t turn new = new.kept ≡ kept_after turn t t.kept

-- behind its answer a logplay whose host keeps nothing has all that it read: it stands where it stood, as a mount does
abbrev pub LeavesBehind : Reply → Task → Task → Type 0
LeavesBehind (Played m tree) t new = t.kept ≡ None → new ≡ record t { cmd = Mount }
LeavesBehind reply t new = ⊤

-- and so behind a turn with an answer
abbrev pub Leaves : Task → turns.Turn → Task → Type 0
Leaves t (turns.Ends reply) new = LeavesBehind reply t new
Leaves t turn new = ⊤

-- the operation that thinks
abbrev pub is_digest : Op → Bool
is_digest (Load line word) = false
is_digest (Store line word value) = false
is_digest (WriteBack line) = false
is_digest Fence = false
is_digest (Invalidate line) = false
is_digest Digest = true

-- a slot's part
abbrev pub is_slot : Part → Bool
is_slot part.Superblock = false
is_slot part.Header = false
is_slot (part.Slot i) = true
is_slot part.File = false

-- a phase in which the next operation leads on among the lines that are read or written, whatever it gives
abbrev pub is_reading : Phase → Bool
is_reading (at.Drop part j) = true
is_reading (at.Word part j k) = nat_lt k last_word || is_slot part
is_reading at.DropMagic = false
is_reading at.Magic = false
is_reading at.DropGate = false
is_reading at.Gate = false
is_reading (at.Check i) = false
is_reading at.Decide = false
is_reading (at.StoreData j k) = true
is_reading (at.SendData j) = true
is_reading (at.StoreSlot j k) = true
is_reading (at.SendSlot j) = true
is_reading at.StoreGate = true
is_reading at.FenceSlot = false
is_reading at.SendGate = false
is_reading at.FenceGate = false

-- the turn of a task that ends with slot i for this reason, or just goes on
abbrev pub slot_turn_by : ℕ → Option Reason → Turn
slot_turn_by i None = Go
slot_turn_by i (Some reason) = Done (answer.BadEntry i reason)
