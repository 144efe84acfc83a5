-- Tasks of a mailbox, a post and a take: which operation comes next, and what comes of it. docs/MODEL.md, "The mailbox".
use Rattle.std.specs.Prelude.{ℕ, ⊤, Bool, true, false, ◌+◌, ◌-◌, ◌*◌, ◌<◌, ◌≤◌, ◌^◌, ◌==◌, nat_lt, if◌then◌else◌, List, [], ◌∷◌, ◌++◌, slice_index, slice_set, Option, Some, None}
use Rattle.fam_machine.specs.declared.op.Op.{Op}
use Rattle.fam_machine.specs.declared.op.Op.TheVariants.{Load, Store, WriteBack, Fence, Invalidate, Digest}
use Rattle.fam_machine.specs.Operations.{line_no}
use Rattle.fam_rules.specs.Written.{zero_line}
use Rattle.fam_mail.specs.declared.ask.Ask.{Ask}
use Rattle.fam_mail.specs.declared.ask.Ask.TheVariants.{Post, Take}
use Rattle.fam_mail.specs.declared.phase.Phase.{Phase}
use Rattle.fam_mail.specs.declared.phase.Phase.TheVariants as at
use Rattle.fam_mail.specs.declared.turn.Turn.{Turn}
use Rattle.fam_mail.specs.declared.turn.Turn.TheVariants.{Go, Mark, Found, Posted, Full, Taken, BadBox, BadRecord}
use Rattle.fam_mail.specs.Records.{numbers_in, record_line, wrong_word}

-- a task: what it is asked, how many records the box has room for, the gate that it loaded, the words of the record at hand, and
-- the records that it has read
pub record MailTask : Type 0 where
  pub ask : Ask
  pub capacity : ℕ
  pub phase : Phase
  pub gate : ℕ
  pub words : List ℕ
  pub records : List (List ℕ)

-- before its first operation
abbrev pub new_task : Ask → ℕ → MailTask
new_task ask capacity = record { ask = ask; capacity = capacity; phase = at.DropGate; gate = 0; words = zero_line; records = [] }

-- the line that a post stores
abbrev pub posted_line : Ask → List ℕ
posted_line (Post numbers) = record_line numbers
posted_line Take = zero_line

-- The operation that comes next. Line j of the file is line `place j` of the image.

-- in a phase
abbrev pub phase_op : Phase → (ℕ → ℕ) → MailTask → Op
phase_op at.DropGate place t = Invalidate (line_no (place 0))
phase_op at.LoadGate place t = Load (line_no (place 0)) 0
phase_op (at.StoreRecord k) place t = Store (line_no (place (1 + t.gate))) k (slice_index (posted_line t.ask) k)
phase_op at.SendRecord place t = WriteBack (line_no (place (1 + t.gate)))
phase_op at.FenceRecord place t = Fence
phase_op at.StoreGate place t = Store (line_no (place 0)) 0 (t.gate + 1)
phase_op at.SendGate place t = WriteBack (line_no (place 0))
phase_op at.FenceGate place t = Fence
phase_op at.Count place t = Digest
phase_op (at.DropRecord i) place t = Invalidate (line_no (place (1 + i)))
phase_op (at.LoadRecord i k) place t = Load (line_no (place (1 + i))) k

-- in its own phase
abbrev pub task_op : (ℕ → ℕ) → MailTask → Op
task_op place t = phase_op t.phase place t

-- What comes of it.

-- a gate that is none of this box, or the box is full, or so many records were found
abbrev pub loaded_gate_turn : Ask → ℕ → ℕ → Turn
loaded_gate_turn (Post numbers) capacity gate = if nat_lt capacity gate then BadBox gate capacity else (if gate == capacity then Full gate else Found gate)
loaded_gate_turn Take capacity gate = if nat_lt capacity gate then BadBox gate capacity else Go

-- the words of the record at hand, with one more
abbrev pub words_with : ℕ → ℕ → MailTask → List ℕ
words_with k word t = slice_set t.words k word

-- the records read, with one more
abbrev pub records_with : ℕ → MailTask → List (List ℕ)
records_with word t = t.records ++ numbers_in (words_with 7 word t) ∷ []

-- a record was loaded whole: it is none, or it is the last one, or more come
abbrev pub record_turn : Option ℕ → ℕ → ℕ → MailTask → Turn
record_turn (Some wrong) i word t = BadRecord i wrong
record_turn None i word t = if i + 1 == t.gate then Taken (records_with word t) else Go

-- in a phase, with the word of a load
abbrev pub phase_turn : Phase → ℕ → MailTask → Turn
phase_turn at.DropGate word t = Mark
phase_turn at.LoadGate word t = loaded_gate_turn t.ask t.capacity word
phase_turn (at.StoreRecord k) word t = Go
phase_turn at.SendRecord word t = Go
phase_turn at.FenceRecord word t = Go
phase_turn at.StoreGate word t = Go
phase_turn at.SendGate word t = Go
phase_turn at.FenceGate word t = Posted t.gate
phase_turn at.Count word t = if t.gate == 0 then Taken [] else Go
phase_turn (at.DropRecord i) word t = Go
phase_turn (at.LoadRecord i k) word t = if k == 7 then record_turn (wrong_word (words_with 7 word t)) i word t else Go

-- in its own phase
abbrev pub mail_turn : ℕ → MailTask → Turn
mail_turn word t = phase_turn t.phase word t

-- behind the gate a post stores, and a take counts
abbrev pub behind_gate : Ask → Phase
behind_gate (Post numbers) = at.StoreRecord 0
behind_gate Take = at.Count

-- the task that goes on
abbrev pub phase_task : Phase → ℕ → MailTask → MailTask
phase_task at.DropGate word t = record t { phase = at.LoadGate }
phase_task at.LoadGate word t = record t { phase = behind_gate t.ask; gate = word }
phase_task (at.StoreRecord k) word t = record t { phase = if k == 7 then at.SendRecord else at.StoreRecord (k + 1) }
phase_task at.SendRecord word t = record t { phase = at.FenceRecord }
phase_task at.FenceRecord word t = record t { phase = at.StoreGate }
phase_task at.StoreGate word t = record t { phase = at.SendGate }
phase_task at.SendGate word t = record t { phase = at.FenceGate }
phase_task at.FenceGate word t = t
phase_task at.Count word t = record t { phase = at.DropRecord 0 }
phase_task (at.DropRecord i) word t = record t { phase = at.LoadRecord i 0 }
phase_task (at.LoadRecord i k) word t =
    if k == 7 then record t { phase = at.DropRecord (i + 1); words = words_with 7 word t; records = records_with word t } else record t { phase = at.LoadRecord i (k + 1); words = words_with k word t }

-- in its own phase
abbrev pub next_task : ℕ → MailTask → MailTask
next_task word t = phase_task t.phase word t

-- whether a task that takes this turn is over
abbrev pub ends_mail_task : Turn → Bool
ends_mail_task Go = false
ends_mail_task Mark = false
ends_mail_task (Found n) = false
ends_mail_task (Posted n) = true
ends_mail_task (Full n) = true
ends_mail_task (Taken records) = true
ends_mail_task (BadBox gate capacity) = true
ends_mail_task (BadRecord i word) = true

-- Which tasks there are.

-- the most records of a box: a file has fewer than 2 ^ 64 bytes
abbrev pub most_records : ℕ
most_records = 2 ^ 58

-- a post
abbrev pub IsPost : Ask → Type 0
IsPost (Post numbers) = ⊤
IsPost Take = ⊥

-- behind the gate, a post has found room for its record
abbrev pub Posting : MailTask → Type 0
Posting t = IsPost t.ask × (t.gate < t.capacity)

-- the numbers of a phase fit it
abbrev pub PhaseFits : Phase → MailTask → Type 0
PhaseFits at.DropGate t = ⊤
PhaseFits at.LoadGate t = ⊤
PhaseFits (at.StoreRecord k) t = (k < 8) × Posting t
PhaseFits at.SendRecord t = Posting t
PhaseFits at.FenceRecord t = Posting t
PhaseFits at.StoreGate t = Posting t
PhaseFits at.SendGate t = Posting t
PhaseFits at.FenceGate t = Posting t
PhaseFits at.Count t = t.gate ≤ t.capacity
PhaseFits (at.DropRecord i) t = (i < t.gate) × (t.gate ≤ t.capacity)
PhaseFits (at.LoadRecord i k) t = (i < t.gate) × (t.gate ≤ t.capacity) × (k < 8)

-- of a box of at most so many records
pub record IsSoundTask (t : MailTask) : Type 0 where
  pub few : t.capacity < most_records
  pub fits : PhaseFits t.phase t

-- a phase of a post behind its record
abbrev pub IsBehindRecord : Phase → Type 0
IsBehindRecord at.DropGate = ⊥
IsBehindRecord at.LoadGate = ⊥
IsBehindRecord (at.StoreRecord k) = ⊥
IsBehindRecord at.SendRecord = ⊤
IsBehindRecord at.FenceRecord = ⊤
IsBehindRecord at.StoreGate = ⊤
IsBehindRecord at.SendGate = ⊤
IsBehindRecord at.FenceGate = ⊤
IsBehindRecord at.Count = ⊥
IsBehindRecord (at.DropRecord i) = ⊥
IsBehindRecord (at.LoadRecord i k) = ⊥

-- How many operations a task of a box of such a capacity may be from its end, at most.

-- in a phase
abbrev pub left_at : Phase → MailTask → ℕ
left_at at.DropGate t = 9 * t.capacity + 20
left_at at.LoadGate t = 9 * t.capacity + 19
left_at (at.StoreRecord k) t = 18 - k
left_at at.SendRecord t = 10
left_at at.FenceRecord t = 9
left_at at.StoreGate t = 8
left_at at.SendGate t = 7
left_at at.FenceGate t = 6
left_at at.Count t = 9 * t.gate + 2
left_at (at.DropRecord i) t = 9 * (t.gate - i) + 1
left_at (at.LoadRecord i k) t = 9 * (t.gate - i) - k

-- in its own phase
abbrev pub left_of : MailTask → ℕ
left_of t = left_at t.phase t
