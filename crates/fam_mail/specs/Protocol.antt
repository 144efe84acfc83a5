-- What holds of memory, of any number of hosts with a mailbox and of their tasks after every step. docs/MODEL.md, "The mailbox".
use Rattle.std.specs.Prelude.{ℕ, ◌≡◌, ◌≢◌, ◌+◌, ◌<◌, ◌≤◌, List, [], length, take, slice_get, Option, Some, Ok}
use Rattle.fam_machine.specs.OneLine.{IsDirty}
use Rattle.fam_machine.specs.declared.cell.Cell.{Cell}
use Rattle.fam_protocol.specs.Core.{IsWide, masters_copy}
use Rattle.fam_protocol.specs.Lines.{Asked, Finished, Fresh, FreshGate, Holding, IsAtLeast, IsHandedOver, gate_of, top}
use Rattle.fam_protocol.specs.SharedState.{SharedState, Operates}
use Rattle.fam_mail.specs.declared.ask.Ask.{Ask}
use Rattle.fam_mail.specs.declared.phase.Phase.{Phase}
use Rattle.fam_mail.specs.declared.phase.Phase.TheVariants as at
use Rattle.fam_mail.specs.Boxes.{IsOneToOne, record_at}
use Rattle.fam_mail.specs.Mail.{Mail, TaskMaySay, TaskRun, posted_by, run_behind_turn, settles, whole}
use Rattle.fam_mail.specs.Records.{IsRecord}
use Rattle.fam_mail.specs.Tasks.{IsPost, MailTask, posted_line, task_op, mail_turn}

-- a box: line j of its file is line `place j` of the image; how many records it has room for; which host may post; and what
-- memory's other lines hold from the first to the last
pub record Box : Type 0 where
  pub place : ℕ → ℕ
  pub capacity : ℕ
  pub writer : Option ℕ
  pub rest : ℕ → List ℕ

-- a line of the image is one of the box's
pub record IsLineOfBox (place : ℕ → ℕ) (capacity line : ℕ) : Type 0 where
  pub number : ℕ
  pub below : number ≤ capacity
  pub is : line ≡ place number

-- memory's gate
abbrev pub gate_at : Box → SharedState → ℕ
gate_at b s = gate_of (s.memory (b.place 0))

-- the larger of memory's gate and one that the writer's cache has not sent
abbrev pub top_at : Box → SharedState → ℕ
top_at b s = top (s.memory (b.place 0)) (masters_copy b.writer s (b.place 0))

-- what holds of a sound box at every moment, whatever the tasks are at
pub record BoxCore (b : Box) (s : SharedState) (m : Mail) : Type 0 where
  pub apart : IsOneToOne b.place b.capacity
  pub wide : IsWide s
  -- nobody but the writer holds a line that memory lacks, and it is one of the box's
  pub only_writer : (h l : ℕ) → IsDirty (s.copy h l) → b.writer ≡ Some h
  pub inside : (h l : ℕ) → IsDirty (s.copy h l) → IsLineOfBox b.place b.capacity l
  -- the others are as at first
  pub outside : (l : ℕ) → (IsLineOfBox b.place b.capacity l → ⊥) → s.memory l ≡ b.rest l
  -- the gate counts the settled records, or one more with something pending
  pub low : length m.list ≤ gate_at b s
  pub order : gate_at b s ≤ top_at b s
  pub high : top_at b s ≤ length (whole m)
  pub room : length (whole m) ≤ b.capacity
  -- what is below the gate that was stored last stands in memory, and no cache has anything to send over it
  pub stands : (i : ℕ) (numbers : List ℕ) → slice_get (whole m) i ≡ Some numbers → i < top_at b s → record_at b.place s.memory i ≡ Ok numbers
  pub clean : (i h : ℕ) → i < top_at b s → IsDirty (s.copy h (b.place (1 + i))) → ⊥

-- a post is the writer's, and its numbers are a record
pub record IsWriters (b : Box) (h : ℕ) (ask : Ask) : Type 0 where
  pub writer : b.writer ≡ Some h
  pub numbers : List ℕ
  pub is : posted_by ask ≡ Some numbers
  pub proper : IsRecord numbers

-- a post has found the place of its record, which is pending, and has not stored the gate
pub record IsPosting (b : Box) (h : ℕ) (ask : Ask) (gate : ℕ) (s : SharedState) (m : Mail) : Type 0 where
  pub own : IsWriters b h ask
  pub settled : gate ≡ length m.list
  pub pending : m.pending ≡ posted_by ask
  pub unpublished : top_at b s ≡ gate
  pub room : gate < b.capacity

-- it has stored the gate
pub record HasStoredGate (b : Box) (h : ℕ) (ask : Ask) (gate : ℕ) (s : SharedState) (m : Mail) : Type 0 where
  pub own : IsWriters b h ask
  pub published : top_at b s ≡ gate + 1
  pub count : length (whole m) ≡ gate + 1
  pub last : slice_get (whole m) gate ≡ posted_by ask
  pub settled : gate ≤ length m.list

-- the copy of the gate's line that a task loads next is no older than its mark, and the writer's can't be stale
pub record LoadsGate (b : Box) (h : ℕ) (floor : Option ℕ) (s : SharedState) (m : Mail) : Type 0 where
  pub low : IsAtLeast floor (length m.list)
  pub copy : FreshGate floor (s.memory (b.place 0)) (s.copy h (b.place 0))
  pub writers : b.writer ≡ Some h → Fresh (s.memory (b.place 0)) (s.copy h (b.place 0))

-- the gate that a take has loaded is no lower than at its mark, and no higher than memory's
pub record HasGate (b : Box) (floor : Option ℕ) (gate : ℕ) (s : SharedState) : Type 0 where
  pub low : IsAtLeast floor gate
  pub high : gate ≤ gate_at b s

-- it has read the first i records
pub record HasReadRecords (i : ℕ) (b : Box) (floor : Option ℕ) (gate : ℕ) (records : List (List ℕ)) (s : SharedState) (m : Mail) : Type 0 where
  pub has : HasGate b floor gate s
  pub below : i < gate
  pub read : records ≡ take i (whole m)

-- and the first k words of the next one, of which its copy can't be stale
pub record IsReading (i k : ℕ) (b : Box) (h : ℕ) (floor : Option ℕ) (gate : ℕ) (loaded : List ℕ) (records : List (List ℕ)) (s : SharedState) (m : Mail) : Type 0 where
  pub has : HasReadRecords i b floor gate records s m
  pub fresh : Fresh (s.memory (b.place (1 + i))) (s.copy h (b.place (1 + i)))
  pub words : take k loaded ≡ take k (s.memory (b.place (1 + i)))

-- the line of a post's record, in memory and in its host's cache
abbrev pub AtRecord : (List ℕ → List ℕ → Cell → Type 0) → Box → ℕ → Ask → ℕ → SharedState → Type 0
AtRecord P b h ask gate s = P (posted_line ask) (s.memory (b.place (1 + gate))) (s.copy h (b.place (1 + gate)))

-- what is known of a task of a host, by its phase
abbrev pub AtMailPhase : Phase → Box → ℕ → Option ℕ → MailTask → SharedState → Mail → Type 0
AtMailPhase at.DropGate b h floor t s m = t.records ≡ []
AtMailPhase at.LoadGate b h floor t s m = LoadsGate b h floor s m × (t.records ≡ [])
AtMailPhase (at.StoreRecord k) b h floor t s m = (k < 8) × IsPosting b h t.ask t.gate s m × AtRecord (Holding k) b h t.ask t.gate s
AtMailPhase at.SendRecord b h floor t s m = IsPosting b h t.ask t.gate s m × AtRecord (Holding 8) b h t.ask t.gate s
AtMailPhase at.FenceRecord b h floor t s m = IsPosting b h t.ask t.gate s m × AtRecord Asked b h t.ask t.gate s
AtMailPhase at.StoreGate b h floor t s m = IsPosting b h t.ask t.gate s m × AtRecord Finished b h t.ask t.gate s
AtMailPhase at.SendGate b h floor t s m = HasStoredGate b h t.ask t.gate s m
AtMailPhase at.FenceGate b h floor t s m = HasStoredGate b h t.ask t.gate s m × IsHandedOver (s.copy h (b.place 0))
AtMailPhase at.Count b h floor t s m = HasGate b floor t.gate s × (t.records ≡ [])
AtMailPhase (at.DropRecord i) b h floor t s m = HasReadRecords i b floor t.gate t.records s m
AtMailPhase (at.LoadRecord i k) b h floor t s m = (k < 8) × IsReading i k b h floor t.gate t.words t.records s m

-- a task of this box
pub record RunHolds (b : Box) (h : ℕ) (r : TaskRun) (s : SharedState) (m : Mail) : Type 0 where
  pub capacity : r.task.capacity ≡ b.capacity
  pub long : length r.task.words ≡ 8
  pub post : IsPost r.task.ask → IsWriters b h r.task.ask
  pub phase : AtMailPhase r.task.phase b h r.floor r.task s m

-- the tasks that run
abbrev pub TaskRuns : Type 0
TaskRuns = ℕ → Option TaskRun

-- the whole of what holds after every step
pub record BoxInvariant (b : Box) (runs : TaskRuns) (s : SharedState) (m : Mail) : Type 0 where
  pub core : BoxCore b s m
  pub tasks : (h : ℕ) (r : TaskRun) → runs h ≡ Some r → RunHolds b h r s m

-- A host's task does its operation, which gave this word if it is a load, and takes its turn.
pub record TakesTurn (b : Box) (host word : ℕ) (m : Mail) (r : TaskRun) (old new : TaskRuns) (s s' : SharedState) : Type 0 where
  pub is : old host ≡ Some r
  pub operates : Operates (task_op b.place r.task) host s s' word
  pub mine : new host ≡ run_behind_turn (mail_turn word r.task) (length m.list) word r
  pub others : (h : ℕ) → h ≢ host → new h ≡ old h

-- it says what it may, and everything holds again
pub record TurnHolds (b : Box) (word : ℕ) (m : Mail) (r : TaskRun) (new : TaskRuns) (s' : SharedState) : Type 0 where
  pub says : TaskMaySay (mail_turn word r.task) r.task.ask r.floor m b.capacity
  pub invariant : BoxInvariant b new s' (settles (mail_turn word r.task) r.task.ask m)
