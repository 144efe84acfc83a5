-- What a turn of a task says about the history, what it may say, and what holds after it. docs/MODEL.md, "The protocol".
use Rattle.std.specs.Prelude.{ℕ, ⊤, ◌≡◌, ◌≢◌, ◌⊎◌, ◌+◌, ◌≤◌, max, List, [], ◌∷◌, ◌++◌, length, take, slice_get, Option, Some, None, Ok, Err}
use Rattle.fam_base.specs.declared.entry.Params.{Params}
use Rattle.fam_base.specs.declared.entry.Entry.{Entry}
use Rattle.fam_format.specs.Layout.{gate_line}
use Rattle.fam_commands.specs.declared.phase.Part.{Part}
use Rattle.fam_commands.specs.declared.phase.Part.TheVariants.{Superblock, Header, Slot, File as FileLines}
use Rattle.fam_commands.specs.declared.phase.Phase.{Phase}
use Rattle.fam_commands.specs.declared.phase.Phase.TheVariants as at
use Rattle.fam_commands.specs.Task.{Task, content_of}
use Rattle.fam_commands.specs.Turns.{Turn, Goes, Marks, Finds, Writes, Ends}
use Rattle.fam_rules.specs.declared.answers.Refused.{Refused}
use Rattle.fam_rules.specs.declared.answers.Refused.TheVariants as refused
use Rattle.fam_rules.specs.declared.answers.Report.{Report}
use Rattle.fam_rules.specs.declared.answers.LogState.{LogState}
use Rattle.fam_rules.specs.declared.answers.LogState.TheVariants as log
use Rattle.fam_rules.specs.Asks.{File, entries_of, ask}
use Rattle.fam_rules.specs.Content.{fill}
use Rattle.fam_rules.specs.Decide.{Wish, wish_of, decide}
use Rattle.fam_rules.specs.DecideLaws.{IsTooLong}
use Rattle.fam_rules.specs.Reply.{Reply, Appended, NotAppended, Played, Mounted, Same, Differs, Length, Bytes, NotFound, IsDirectory, Checks, Reports, NoSuperblock, BadHeader, BadSlot}
use Rattle.fam_rules.specs.ReportLaws.{IsSoundReport}
use Rattle.fam_protocol.specs.SharedState.{SharedState}
use Rattle.fam_protocol.specs.Lines.{IsAtLeast, gate_of}
use Rattle.fam_protocol.specs.Core.{System, Core, top_of}
use Rattle.fam_protocol.specs.Tasks.{TaskHolds}
use Rattle.fam_commands.specs.ReplyClasses.{ReplyClass, reply_class, Appending, Declining, Showing, Reporting, Faulty}

-- What a host keeps of its task's notes.

-- an entry that a note `Writes` names, and its sequence number
pub record Named : Type 0 where
  pub seq : ℕ
  pub entry : Entry

-- a host's task, and what its notes told by now: how much was settled at its mark, and the entry that it named
pub record Run : Type 0 where
  pub task : Task
  pub floor : Option ℕ
  pub named : Option Named

-- the task has named the entry that it appends, and writes
abbrev pub HasNamed : Phase → Type 0
HasNamed (at.StoreData j k) = ⊤
HasNamed (at.SendData j) = ⊤
HasNamed (at.StoreSlot j k) = ⊤
HasNamed (at.SendSlot j) = ⊤
HasNamed at.StoreGate = ⊤
HasNamed at.FenceSlot = ⊤
HasNamed at.SendGate = ⊤
HasNamed at.FenceGate = ⊤
HasNamed at.DropMagic = ⊥
HasNamed at.Magic = ⊥
HasNamed (at.Drop part j) = ⊥
HasNamed (at.Word part j k) = ⊥
HasNamed at.DropGate = ⊥
HasNamed at.Gate = ⊥
HasNamed (at.Check i) = ⊥
HasNamed at.Decide = ⊥

-- slots and files are read behind the gate
abbrev pub IsPastGate : Part → Type 0
IsPastGate Superblock = ⊥
IsPastGate Header = ⊥
IsPastGate (Slot i) = ⊤
IsPastGate FileLines = ⊤

-- the task has dropped the gate's line, which is its mark
abbrev pub HasMarked : Phase → Type 0
HasMarked at.DropMagic = ⊥
HasMarked at.Magic = ⊥
HasMarked (at.Drop part j) = IsPastGate part
HasMarked (at.Word part j k) = IsPastGate part
HasMarked at.DropGate = ⊥
HasMarked at.Gate = ⊤
HasMarked (at.Check i) = ⊤
HasMarked at.Decide = ⊤
HasMarked (at.StoreData j k) = ⊤
HasMarked (at.SendData j) = ⊤
HasMarked (at.StoreSlot j k) = ⊤
HasMarked (at.SendSlot j) = ⊤
HasMarked at.StoreGate = ⊤
HasMarked at.FenceSlot = ⊤
HasMarked at.SendGate = ⊤
HasMarked at.FenceGate = ⊤

-- what was settled at the mark is noted
abbrev pub IsMarked : Option ℕ → Type 0
IsMarked None = ⊥
IsMarked (Some floor) = ⊤

-- the entry that the task holds is the one that it named, as the next behind those that its gate counts
pub record HoldsNamed (t : Task) (named : Option Named) : Type 0 where
  pub entry : Entry
  pub held : t.entry ≡ Some entry
  pub is : named ≡ Some (record { seq = t.gate; entry = entry })

-- What a turn changes.

-- the entry that a task names, with the bytes of its command
abbrev pub new_file : Task → Entry → File
new_file t e = record { entry = e; bytes = fill (content_of t.cmd) e.size }

-- the history with the pending entry
abbrev pub list_after : Turn → List File → List File
list_after (Finds n t) all = take n all
list_after (Writes seq e t) all = all ++ new_file t e ∷ []
list_after (Goes t) all = all
list_after (Marks t) all = all
list_after (Ends reply) all = all

-- how many entries the log of a report holds
abbrev pub read_by_log : LogState → ℕ
read_by_log (log.Sound entries slots) = entries
read_by_log (log.BadLog field found wanted) = 0
read_by_log log.Unread = 0

-- how many entries a reply shows to be in the history; by the class of the reply
abbrev pub shown_by_in : ReplyClass → ℕ
shown_by_in (Appending seq) = seq + 1
shown_by_in (Declining refused) = 0
shown_by_in (Showing m) = m
shown_by_in (Reporting report) = read_by_log report.log
shown_by_in Faulty = 0

-- so of a reply, by its class
abbrev pub shown_by : Reply → ℕ
shown_by given = shown_by_in (reply_class given)

-- the history's length
abbrev pub settled_after : Turn → ℕ → ℕ
settled_after (Finds n t) settled = n
settled_after (Ends reply) settled = max settled (shown_by reply)
settled_after (Goes t) settled = settled
settled_after (Marks t) settled = settled
settled_after (Writes seq e t) settled = settled

-- what was settled at the task's mark
abbrev pub floor_after : Turn → ℕ → Option ℕ → Option ℕ
floor_after (Marks t) settled floor = Some settled
floor_after (Goes t) settled floor = floor
floor_after (Finds n t) settled floor = floor
floor_after (Writes seq e t) settled floor = floor
floor_after (Ends reply) settled floor = floor

-- What a turn may say.

-- an answer on the first m entries: no fewer than were settled at the mark, and no more than there are
pub record AnswersPrefix (t : Task) (floor : Option ℕ) (all : List File) (reply : Reply) : Type 0 where
  pub low : IsAtLeast floor (shown_by reply)
  pub high : shown_by reply ≤ length all
  pub is : ask (take (shown_by reply) all) t.cmd ≡ Some reply

-- a report on the first m entries, in the same bounds
pub record ReportsPrefix (p : Params) (floor : Option ℕ) (all : List File) (report : Report) : Type 0 where
  pub m : ℕ
  pub low : IsAtLeast floor m
  pub high : m ≤ length all
  pub is : IsSoundReport p (entries_of (take m all)) report

-- a refusal on the whole history, with nothing pending
pub record RefusesWhole (p : Params) (t : Task) (all : List File) (settled : ℕ) (r : Refused) : Type 0 where
  pub settled_is : settled ≡ length all
  pub is : decide p t.me (entries_of all) t.cmd ≡ Some (Err r)

-- the host isn't the master
pub record IsClient (p : Params) (t : Task) (me master : List ℕ) : Type 0 where
  pub me_is : me ≡ t.me
  pub master_is : master ≡ p.master
  pub other : me ≢ master

-- the host is the master, and what it wants to append has a path for which a slot has no room
pub record NamesLongPath (p : Params) (t : Task) (limit : ℕ) : Type 0 where
  pub wish : Wish
  pub wished : wish_of t.cmd ≡ Some wish
  pub is : IsTooLong p t.me wish limit

-- the causes of which an append may be refused: its host is a client, its path is too long, or the decision on the whole
-- history
abbrev pub MayRefuse : Refused → System → Task → List File → ℕ → Type 0
MayRefuse (refused.NotMaster me master) sys t all settled = IsClient sys.params t me master
MayRefuse (refused.LongPath limit) sys t all settled = NamesLongPath sys.params t limit
MayRefuse refused.BadStripe sys t all settled = RefusesWhole sys.params t all settled refused.BadStripe
MayRefuse (refused.Exists kind) sys t all settled = RefusesWhole sys.params t all settled (refused.Exists kind)
MayRefuse refused.NoParent sys t all settled = RefusesWhole sys.params t all settled refused.NoParent
MayRefuse refused.ParentIsFile sys t all settled = RefusesWhole sys.params t all settled refused.ParentIsFile
MayRefuse (refused.LogFull slots) sys t all settled = RefusesWhole sys.params t all settled (refused.LogFull slots)
MayRefuse (refused.NoSpace units) sys t all settled = RefusesWhole sys.params t all settled (refused.NoSpace units)

-- the entry that the run's task named, with this number, is the last of all; and the task holds it
pub record AppendsNamed (r : Run) (all : List File) (seq : ℕ) : Type 0 where
  pub count : length all ≡ seq + 1
  pub file : File
  pub last : slice_get all seq ≡ Some file
  pub named : r.named ≡ Some (record { seq = seq; entry = file.entry })
  pub entry : r.task.entry ≡ Some file.entry

-- what a command may answer on a sound file system
abbrev pub MayReply : Reply → System → Run → List File → ℕ → Type 0
MayReply (Appended seq) sys r all settled = AppendsNamed r all seq
MayReply (NotAppended why) sys r all settled = MayRefuse why sys r.task all settled
MayReply (Reports report) sys r all settled = ReportsPrefix sys.params r.floor all report
MayReply (NoSuperblock fault) sys r all settled = ⊥
MayReply (BadHeader fault) sys r all settled = ⊥
MayReply (BadSlot seq reason) sys r all settled = ⊥
MayReply (Played m tree) sys r all settled = AnswersPrefix r.task r.floor all (Played m tree)
MayReply (Mounted m) sys r all settled = AnswersPrefix r.task r.floor all (Mounted m)
MayReply (Same m) sys r all settled = AnswersPrefix r.task r.floor all (Same m)
MayReply (Differs m offset found wanted) sys r all settled = AnswersPrefix r.task r.floor all (Differs m offset found wanted)
MayReply (Length m size wanted) sys r all settled = AnswersPrefix r.task r.floor all (Length m size wanted)
MayReply (Bytes m bytes) sys r all settled = AnswersPrefix r.task r.floor all (Bytes m bytes)
MayReply (NotFound m) sys r all settled = AnswersPrefix r.task r.floor all (NotFound m)
MayReply (IsDirectory m) sys r all settled = AnswersPrefix r.task r.floor all (IsDirectory m)
MayReply (Checks m checked) sys r all settled = AnswersPrefix r.task r.floor all (Checks m checked)

-- a note or an answer that the history before it allows
abbrev pub MaySay : Turn → System → Run → List File → ℕ → Type 0
MaySay (Goes next) sys r all settled = ⊤
MaySay (Marks next) sys r all settled = ⊤
MaySay (Finds n next) sys r all settled = (n ≡ settled) ⊎ ((n ≡ settled + 1) × (n ≡ length all))
MaySay (Writes seq e next) sys r all settled =
    (seq ≡ settled) × (seq ≡ length all) × (decide sys.params r.task.me (entries_of all) r.task.cmd ≡ Some (Ok e))
MaySay (Ends reply) sys r all settled = MayReply reply sys r all settled

-- What holds after it.

-- of the task itself, where it goes on
abbrev pub TaskContinues : Turn → System → ℕ → Option ℕ → SharedState → List File → ℕ → Type 0
TaskContinues (Goes t) sys host floor s all settled = TaskHolds sys host floor t s all settled
TaskContinues (Marks t) sys host floor s all settled = TaskHolds sys host floor t s all settled
TaskContinues (Finds n t) sys host floor s all settled = TaskHolds sys host floor t s all settled
TaskContinues (Writes seq e t) sys host floor s all settled = TaskHolds sys host floor t s all settled
TaskContinues (Ends reply) sys host floor s all settled = ⊤

-- the master drops the pending entry, takes it into the history or names a new one: nothing below the gate changes
pub record Relists (sys : System) (s : SharedState) (all : List File) (settled : ℕ) (all' : List File) (settled' : ℕ) : Type 0 where
  pub up : settled ≤ settled'
  pub low : settled' ≤ gate_of (s.memory gate_line)
  pub high : top_of sys s ≤ length all'
  pub near : length all' ≤ settled' + 1
  pub alike : (i : ℕ) → i ≤ top_of sys s → take i all' ≡ take i all

-- an answer shows entries, all of them published
pub record Raises (s : SharedState) (all : List File) (settled : ℕ) (all' : List File) (settled' : ℕ) : Type 0 where
  pub same : all' ≡ all
  pub m : ℕ
  pub shared : m ≤ gate_of (s.memory gate_line)
  pub is : settled' ≡ max settled m

-- how the history changes: by the master, or by an answer
abbrev pub Changes : System → ℕ → SharedState → List File → ℕ → List File → ℕ → Type 0
Changes sys host s all settled all' settled' =
    ((sys.master ≡ Some host) × Relists sys s all settled all' settled') ⊎ Raises s all settled all' settled'

-- what a turn says is allowed, and what holds behind it
pub record After (turn : Turn) (sys : System) (host : ℕ) (floor : Option ℕ) (named : Option Named) (t : Task) (s : SharedState) (all : List File) (settled : ℕ) : Type 0 where
  pub may : MaySay turn sys (record { task = t; floor = floor; named = named }) all settled
  pub core : Core sys s (list_after turn all) (settled_after turn settled)
  pub task : TaskContinues turn sys host (floor_after turn settled floor) s (list_after turn all) (settled_after turn settled)
  pub change : Changes sys host s all settled (list_after turn all) (settled_after turn settled)
