-- What the journal of a box settles, and what a task may say. docs/MODEL.md, "The mailbox".
use Rattle.std.specs.Prelude.{ℕ, ⊤, ◌≡◌, ◌≢◌, ◌⊎◌, ◌+◌, ◌<◌, ◌≤◌, ◌==◌, if◌then◌else◌, List, [], ◌∷◌, ◌++◌, length, take, slice_get, Option, Some, None}
use Rattle.fam_protocol.specs.Lines.{IsAtLeast}
use Rattle.fam_mail.specs.declared.ask.Ask.{Ask}
use Rattle.fam_mail.specs.declared.ask.Ask.TheVariants.{Post, Take}
use Rattle.fam_mail.specs.declared.turn.Turn.{Turn}
use Rattle.fam_mail.specs.declared.turn.Turn.TheVariants.{Go, Mark, Found, Posted, Full, Taken, BadBox, BadRecord}
use Rattle.fam_mail.specs.Tasks.{MailTask, ends_mail_task, next_task}

-- the records that are settled, and the one that is pending: a post has found its place, and has not answered
pub record Mail : Type 0 where
  pub list : List (List ℕ)
  pub pending : Option (List ℕ)

-- a pending record as a list
abbrev pub pending_list : Option (List ℕ) → List (List ℕ)
pending_list None = []
pending_list (Some numbers) = numbers ∷ []

-- the list followed by the pending record
abbrev pub whole : Mail → List (List ℕ)
whole m = m.list ++ pending_list m.pending

-- the pending record joins the list
abbrev pub pending_joined : Mail → Mail
pending_joined m = record { list = whole m; pending = None }

-- the pending record is dropped
abbrev pub pending_dropped : Mail → Mail
pending_dropped m = record { list = m.list; pending = None }

-- so many records were found: the pending one joins where it is among them, and is dropped otherwise
abbrev pub records_found : ℕ → Mail → Mail
records_found n m = if n == length m.list + 1 then pending_joined m else pending_dropped m

-- a post says that record n is posted: the pending one joins where it is this one
abbrev pub record_posted : ℕ → Mail → Mail
record_posted n m = if n == length m.list then pending_joined m else m

-- so many records were taken: the pending one joins where it is the last of them
abbrev pub records_taken : ℕ → Mail → Mail
records_taken count m = if count == length m.list + 1 then pending_joined m else m

-- the record that a host is asked to post
abbrev pub posted_by : Ask → Option (List ℕ)
posted_by (Post numbers) = Some numbers
posted_by Take = None

-- what is settled after a turn of a task that is asked this
abbrev pub settles : Turn → Ask → Mail → Mail
settles Go ask m = m
settles Mark ask m = m
settles (Found n) ask m = record (records_found n m) { pending = posted_by ask }
settles (Full n) ask m = records_found n m
settles (Posted n) ask m = record_posted n m
settles (Taken records) ask m = records_taken (length records) m
settles (BadBox gate capacity) ask m = m
settles (BadRecord i word) ask m = m

-- a task, and how many records were settled at its mark, once it has one
pub record TaskRun : Type 0 where
  pub task : MailTask
  pub floor : Option ℕ

-- after a turn that isn't over
abbrev pub floor_behind_turn : Turn → ℕ → Option ℕ → Option ℕ
floor_behind_turn Go settled floor = floor
floor_behind_turn Mark settled floor = Some settled
floor_behind_turn (Found n) settled floor = floor
floor_behind_turn (Posted n) settled floor = floor
floor_behind_turn (Full n) settled floor = floor
floor_behind_turn (Taken records) settled floor = floor
floor_behind_turn (BadBox gate capacity) settled floor = floor
floor_behind_turn (BadRecord i word) settled floor = floor

-- the task that goes on, if it does
abbrev pub run_behind_turn : Turn → ℕ → ℕ → TaskRun → Option TaskRun
run_behind_turn turn settled word r =
    if ends_mail_task turn then None else Some (record { task = next_task word r.task; floor = floor_behind_turn turn settled r.floor })

-- as many records as are settled, or one more while one is pending
abbrev pub MayFind : ℕ → Mail → Type 0
MayFind n m = (n ≡ length m.list) ⊎ ((n ≡ length m.list + 1) × (m.pending ≢ None))

-- a list that is taken is a front of the settled records followed by the pending one, and holds all that was settled at the
-- task's mark
pub record IsFront (records : List (List ℕ)) (floor : Option ℕ) (m : Mail) : Type 0 where
  pub front : records ≡ take (length records) (whole m)
  pub within : length records ≤ length (whole m)
  pub holds : IsAtLeast floor (length records)

-- a task's own record is posted: it stands last in the list that is settled then
pub record IsPosted (n : ℕ) (own : Option (List ℕ)) (m : Mail) : Type 0 where
  pub count : length (record_posted n m).list ≡ n + 1
  pub last : slice_get (record_posted n m).list n ≡ own

-- what a task of a box with room for so many records may say
abbrev pub TaskMaySay : Turn → Ask → Option ℕ → Mail → ℕ → Type 0
TaskMaySay Go ask floor m capacity = ⊤
TaskMaySay Mark ask floor m capacity = ⊤
TaskMaySay (Found n) ask floor m capacity = MayFind n m × (n < capacity)
TaskMaySay (Full n) ask floor m capacity = MayFind n m × (n ≡ capacity)
TaskMaySay (Posted n) ask floor m capacity = IsPosted n (posted_by ask) m
TaskMaySay (Taken records) ask floor m capacity = IsFront records floor m
TaskMaySay (BadBox gate most) ask floor m capacity = ⊥
TaskMaySay (BadRecord i word) ask floor m capacity = ⊥
