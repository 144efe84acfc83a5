-- What the journal of a mailbox settles, and which notes are legal in it. Nothing here knows a line, a cache or an operation.
-- docs/MODEL.md, "The mailbox".
use Rattle.std.specs.Prelude.{ℕ, ⊤, ◌≡◌, ◌==◌, nat_lt, if◌then◌else◌, List, [], ◌∷◌, length, Option, Some, None}
use Rattle.fam_base.specs.PathOrder.{path_eq}
use Rattle.fam_mail.specs.declared.ask.Ask.{Ask}
use Rattle.fam_mail.specs.declared.note.MailNote.{MailNote}
use Rattle.fam_mail.specs.declared.note.MailNote.TheVariants.{Writer, Reader, Start, Mark, Found, Posted, Full, Taken, BadBox, BadRecord, Stop, Halt, MediaFault, Refused}
use Rattle.fam_mail.specs.Mail.{IsFront, IsPosted, Mail, MayFind, record_posted, records_found, posted_by, records_taken}

-- What is settled: a fold over the notes.

-- what the notes so far tell: which records are settled and which one is pending; of the host of each name, what it was asked last,
-- and how many records were settled just after its last mark; and which host has found the box full, and has yet to say so
pub record MailState : Type 0 where
  pub mail : Mail
  pub asked : List ℕ → Option Ask
  pub floor : List ℕ → Option ℕ
  pub due : Option (List ℕ)

-- before the first note: the start image's box reads as this list, and nothing is pending
abbrev pub first_mail_state : List (List ℕ) → MailState
first_mail_state records = record { mail = record { list = records; pending = None }; asked = λ name. None; floor = λ name. None; due = None }

-- of the host of this name this is known now, and of the others what was
abbrev pub known_of : {A : Type 0} → List ℕ → A → (List ℕ → Option A) → List ℕ → Option A
known_of name x before = λ other. if path_eq other name then Some x else before other

-- the record of the task that a host was asked for last
abbrev pub own_record : Option Ask → Option (List ℕ)
own_record None = None
own_record (Some ask) = posted_by ask

-- a post finds n records in a box with room for so many: the pending one joins the list where it is among them, and is dropped
-- otherwise; then the post's own is pending, where there is room
abbrev pub found_by : ℕ → ℕ → Option (List ℕ) → Mail → Mail
found_by capacity n own m = if nat_lt n capacity then record (records_found n m) { pending = own } else records_found n m

-- records and pending one behind a note
abbrev pub mail_settled_behind : ℕ → MailState → MailNote → Mail
mail_settled_behind capacity s (Writer name) = s.mail
mail_settled_behind capacity s (Reader name) = s.mail
mail_settled_behind capacity s (Start name ask) = s.mail
mail_settled_behind capacity s (Mark name) = s.mail
mail_settled_behind capacity s (Found name n) = found_by capacity n (own_record (s.asked name)) s.mail
mail_settled_behind capacity s (Posted name n) = record_posted n s.mail
mail_settled_behind capacity s (Full name n) = s.mail
mail_settled_behind capacity s (Taken name count records) = records_taken count s.mail
mail_settled_behind capacity s (BadBox name gate most) = s.mail
mail_settled_behind capacity s (BadRecord name i word) = s.mail
mail_settled_behind capacity s (Stop name) = s.mail
mail_settled_behind capacity s (Halt name) = s.mail
mail_settled_behind capacity s (MediaFault name line) = s.mail
mail_settled_behind capacity s (Refused name cause) = s.mail

-- what hosts were asked last
abbrev pub asked_behind : MailState → MailNote → List ℕ → Option Ask
asked_behind s (Writer name) = s.asked
asked_behind s (Reader name) = s.asked
asked_behind s (Start name ask) = known_of name ask s.asked
asked_behind s (Mark name) = s.asked
asked_behind s (Found name n) = s.asked
asked_behind s (Posted name n) = s.asked
asked_behind s (Full name n) = s.asked
asked_behind s (Taken name count records) = s.asked
asked_behind s (BadBox name gate most) = s.asked
asked_behind s (BadRecord name i word) = s.asked
asked_behind s (Stop name) = s.asked
asked_behind s (Halt name) = s.asked
asked_behind s (MediaFault name line) = s.asked
asked_behind s (Refused name cause) = s.asked

-- how many records were settled at their last marks. A mark itself settles nothing
abbrev pub floor_behind : MailState → MailNote → List ℕ → Option ℕ
floor_behind s (Writer name) = s.floor
floor_behind s (Reader name) = s.floor
floor_behind s (Start name ask) = s.floor
floor_behind s (Mark name) = known_of name (length s.mail.list) s.floor
floor_behind s (Found name n) = s.floor
floor_behind s (Posted name n) = s.floor
floor_behind s (Full name n) = s.floor
floor_behind s (Taken name count records) = s.floor
floor_behind s (BadBox name gate most) = s.floor
floor_behind s (BadRecord name i word) = s.floor
floor_behind s (Stop name) = s.floor
floor_behind s (Halt name) = s.floor
floor_behind s (MediaFault name line) = s.floor
floor_behind s (Refused name cause) = s.floor

-- who has to say next that the box is full: the host that found as many records as there is room for
abbrev pub due_behind : ℕ → MailNote → Option (List ℕ)
due_behind capacity (Writer name) = None
due_behind capacity (Reader name) = None
due_behind capacity (Start name ask) = None
due_behind capacity (Mark name) = None
due_behind capacity (Found name n) = if n == capacity then Some name else None
due_behind capacity (Posted name n) = None
due_behind capacity (Full name n) = None
due_behind capacity (Taken name count records) = None
due_behind capacity (BadBox name gate most) = None
due_behind capacity (BadRecord name i word) = None
due_behind capacity (Stop name) = None
due_behind capacity (Halt name) = None
due_behind capacity (MediaFault name line) = None
due_behind capacity (Refused name cause) = None

-- the state behind a note
abbrev pub mail_state_behind : ℕ → MailState → MailNote → MailState
mail_state_behind capacity s note =
    record { mail = mail_settled_behind capacity s note; asked = asked_behind s note; floor = floor_behind s note; due = due_behind capacity note }

-- behind some notes more
abbrev pub mail_state_along : ℕ → MailState → List MailNote → MailState
mail_state_along capacity s [] = s
mail_state_along capacity s (note ∷ notes) = mail_state_along capacity (mail_state_behind capacity s note) notes

-- behind a journal, of a box with room for so many records that read as this list at first
abbrev pub mail_state : ℕ → List (List ℕ) → List MailNote → MailState
mail_state capacity records journal = mail_state_along capacity (first_mail_state records) journal

-- What is legal.

-- a list that is taken has as many records as its note says. It is a front of the settled ones followed by the pending one, and
-- holds all that were settled just after its task's mark
pub record MayTakeList (count : ℕ) (records : List (List ℕ)) (floor : Option ℕ) (m : Mail) : Type 0 where
  pub count_is : count ≡ length records
  pub front : IsFront records floor m

-- the row of a note: a box that was one at first is never found to be none. A fault of the media has its cause, a count that
-- rose, beside the journal, and any other note is told by the machine alone
abbrev pub Allows : ℕ → MailState → MailNote → Type 0
Allows capacity s (Writer name) = ⊤
Allows capacity s (Reader name) = ⊤
Allows capacity s (Start name ask) = ⊤
Allows capacity s (Mark name) = ⊤
Allows capacity s (Found name n) = MayFind n s.mail
Allows capacity s (Posted name n) = IsPosted n (own_record (s.asked name)) s.mail
Allows capacity s (Full name n) = n ≡ capacity
Allows capacity s (Taken name count records) = MayTakeList count records (s.floor name) s.mail
Allows capacity s (BadBox name gate most) = ⊥
Allows capacity s (BadRecord name i word) = ⊥
Allows capacity s (Stop name) = ⊤
Allows capacity s (Halt name) = ⊤
Allows capacity s (MediaFault name line) = ⊤
Allows capacity s (Refused name cause) = ⊤

-- who says that the box is full, if a note does
abbrev pub says_full : MailNote → Option (List ℕ)
says_full (Writer name) = None
says_full (Reader name) = None
says_full (Start name ask) = None
says_full (Mark name) = None
says_full (Found name n) = None
says_full (Posted name n) = None
says_full (Full name n) = Some name
says_full (Taken name count records) = None
says_full (BadBox name gate most) = None
says_full (BadRecord name i word) = None
says_full (Stop name) = None
says_full (Halt name) = None
says_full (MediaFault name line) = None
says_full (Refused name cause) = None

-- a note may come next: its row allows it, and Full comes where it is due, and nowhere else
pub record MayCome (capacity : ℕ) (s : MailState) (note : MailNote) : Type 0 where
  pub full : says_full note ≡ s.due
  pub row : Allows capacity s note

-- so may each of these, and at the end nothing is due
abbrev pub LegalMailBehind : ℕ → MailState → List MailNote → Type 0
LegalMailBehind capacity s [] = s.due ≡ None
LegalMailBehind capacity s (note ∷ notes) = MayCome capacity s note × LegalMailBehind capacity (mail_state_behind capacity s note) notes

-- a journal of a box with room for so many records that read as this list at first
abbrev pub LegalMail : ℕ → List (List ℕ) → List MailNote → Type 0
LegalMail capacity records journal = LegalMailBehind capacity (first_mail_state records) journal
