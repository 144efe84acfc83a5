-- What each call of a world with a mailbox makes of it, and why it is refused. docs/MODEL.md, "The mailbox".
use Rattle.std.specs.Prelude.{ℕ, ⊤, ◌≡◌, ◌≢◌, ◌⊎◌, ◌+◌, ◌<◌, ◌≤◌, ◌++◌, ◌∷◌, Bool, true, false, nat_le, nat_lt, is_some, if◌then◌else◌, List, [], length, slice_get, Option, Some, None, Result, Ok, Err, unwrap_or, option_map}
use Prim.Native.Nat.{suc}
use Rattle.std.specs.FinMap as finmap
use Rattle.fam_base.specs.Image.{Image, IsNormal}
use Rattle.fam_base.specs.declared.entry.Entry.{Entry}
use Rattle.fam_base.specs.declared.line.LineNo.{LineNo}
use Rattle.fam_base.specs.declared.line.OutOfMemory.{OutOfMemory}
use Rattle.fam_cache.specs.Effects.{FailsTo}
use Rattle.fam_machine.specs.Caches.{cell_at}
use Rattle.fam_machine.specs.Cuts.{HasFailed, IsMachine}
use Rattle.fam_machine.specs.HostMoves.{Move, failed_move, moved}
use Rattle.fam_machine.specs.Operations.{given, line_no, machine, operated}
use Rattle.fam_media.specs.Causes.{Rose}
use Rattle.fam_media.specs.Outside.{IfModelled}
use Rattle.fam_media.specs.States.{MediaChange, MediaState}
use Rattle.fam_rules.specs.Written.{file_line}
use Rattle.fam_mail.specs.declared.ask.Ask.{Ask}
use Rattle.fam_mail.specs.declared.ask.Ask.TheVariants.{Post, Take}
use Rattle.fam_mail.specs.declared.note.MailFault.{MailFault}
use Rattle.fam_mail.specs.declared.note.MailFault.TheVariants as fault
use Rattle.fam_mail.specs.declared.note.MailNote.{MailNote}
use Rattle.fam_mail.specs.declared.note.MailNote.TheVariants as note
use Rattle.fam_mail.specs.declared.note.MailRefusal.{MailRefusal}
use Rattle.fam_mail.specs.declared.note.MailRefusal.TheVariants as why
use Rattle.fam_mail.specs.declared.turn.Turn.{Turn}
use Rattle.fam_mail.specs.declared.turn.Turn.TheVariants.{Go, Mark, Found, Posted, Full, Taken, BadBox, BadRecord}
use Rattle.fam_mail.specs.Boxes.{capacity_of}
use Rattle.fam_mail.specs.Running.{LinesFit}
use Rattle.fam_mail.specs.Tasks.{MailTask, ends_mail_task, left_of, task_op, new_task, next_task, mail_turn}
use Rattle.fam_mail.specs.World.{MailHost, MailView, changed_member, member_place, is_named, is_writer, new_mail_host, mail_noted}

-- where the call found memory, P holds of the refusal that it gave, if any
abbrev pub IfMailAnswered : {T : Type 0} → Result T MailFault → (Option MailRefusal → Type 0) → Type 0
IfMailAnswered (Ok x) P = P None
IfMailAnswered (Err (fault.Refused cause)) P = P (Some cause)
IfMailAnswered (Err fault.OutOfMemory) P = ⊤

-- where a step found memory, P holds of the refusal that it gave, if any, and of whether the task is over
abbrev pub IfMailStepped : Result Bool MailFault → (Option MailRefusal → Bool → Type 0) → Type 0
IfMailStepped (Ok over) P = P None over
IfMailStepped (Err (fault.Refused cause)) P = P (Some cause) false
IfMailStepped (Err fault.OutOfMemory) P = ⊤

-- what is answered: want of memory is a fault
abbrev pub mail_told : {T : Type 0} → Result T OutOfMemory → Result T MailFault
mail_told (Ok x) = Ok x
mail_told (Err full) = Err fault.OutOfMemory

-- how many records the box of a world has room for
abbrev pub capacity_in : MailView → ℕ
capacity_in v = capacity_of v.entry.size

-- Why a call is refused: the first cause that holds.

-- the name of a host by its number
abbrev pub name_at : MailView → ℕ → List ℕ
name_at v at = unwrap_or (option_map (λ (h : MailHost). h.name) (slice_get v.hosts at)) []

-- a second host that may post
abbrev pub second_writer : Bool → Option ℕ → MailView → Option MailRefusal
second_writer false declared v = None
second_writer true None v = None
second_writer true (Some at) v = Some (why.SecondWriter (name_at v at))

-- a host can't be declared
abbrev pub declare_refusal : List ℕ → Bool → MailView → Option MailRefusal
declare_refusal name writer v =
    if is_some (member_place (is_named name) v.hosts) then Some (why.SameHost name)
    else if nat_le 64 (length v.hosts) then Some why.TooManyHosts
    else second_writer writer (member_place is_writer v.hosts) v

-- a reader posts
abbrev pub ask_refusal : Ask → MailHost → Option MailRefusal
ask_refusal (Post numbers) h = if h.writer then None else Some why.NotWriter
ask_refusal Take h = None

-- of the host that a call names, or that there is none
abbrev pub named_host_refusal : (MailHost → Option MailRefusal) → Option MailHost → Option MailRefusal
named_host_refusal cause None = Some why.NoHost
named_host_refusal cause (Some h) = cause h

-- the host of this name
abbrev pub host_at : Option ℕ → MailView → Option MailHost
host_at None v = None
host_at (Some at) v = slice_get v.hosts at

-- a call for the host of this name
abbrev pub refusal_named : List ℕ → (MailHost → Option MailRefusal) → MailView → Option MailRefusal
refusal_named name cause v = named_host_refusal cause (host_at (member_place (is_named name) v.hosts) v)

-- a task can't begin
abbrev pub begin_refusal : Ask → MailHost → Option MailRefusal
begin_refusal ask h = if is_some h.task then Some why.Busy else ask_refusal ask h

-- a host has no task
abbrev pub no_task_refusal : MailHost → Option MailRefusal
no_task_refusal h = if is_some h.task then None else Some why.Idle

-- nothing is refused
abbrev pub no_refusal : MailHost → Option MailRefusal
no_refusal h = None

-- the file has no such line
abbrev pub file_line_refusal : ℕ → ℕ → MailHost → Option MailRefusal
file_line_refusal line capacity h = if nat_lt capacity line then Some (why.NoLine line (capacity + 1)) else None

-- a call is refused, and notes it; a world in which it isn't becomes another one
abbrev pub MailRefuses : List ℕ → Option MailRefusal → MailView → MailView → Option MailRefusal → Type 0 → Type 0
MailRefuses name first old new None P = (first ≡ None) × P
MailRefuses name first old new (Some cause) P = (first ≡ Some cause) × (new ≡ mail_noted (note.Refused name cause) old)

-- the call is for this host, and isn't refused
pub record IsFreeHost (name : List ℕ) (cause : MailHost → Option MailRefusal) (v : MailView) (at : ℕ) : Type 0 where
  pub number : member_place (is_named name) v.hosts ≡ Some at
  pub host : MailHost
  pub host_is : slice_get v.hosts at ≡ Some host
  pub free : cause host ≡ None

-- or it is refused at once, for this cause
abbrev pub IsHostPlaced : List ℕ → (MailHost → Option MailRefusal) → MailView → Result ℕ MailRefusal → Type 0
IsHostPlaced name cause v (Ok at) = IsFreeHost name cause v at
IsHostPlaced name cause v (Err why) = refusal_named name cause v ≡ Some why

-- Calls that take no media.

-- the note of a host that is declared
abbrev pub declared_note : List ℕ → Bool → MailNote
declared_note name false = note.Reader name
declared_note name true = note.Writer name

-- a host is declared
abbrev pub MailDeclares : List ℕ → Bool → Option MailRefusal → MailView → MailView → Type 0
MailDeclares name writer answered old new =
    MailRefuses name (declare_refusal name writer old) old new answered
    (new ≡ mail_noted (declared_note name writer) (record old { hosts = old.hosts ++ new_mail_host name writer ∷ [] }))

-- one host of a world is changed, and one note is made
pub record ChangesHost (name : List ℕ) (change : MailHost → MailHost) (made : MailNote) (old new : MailView) : Type 0 where
  pub at : ℕ
  pub host : MailHost
  pub number : member_place (is_named name) old.hosts ≡ Some at
  pub host_is : slice_get old.hosts at ≡ Some host
  pub is : new ≡ mail_noted made (record old { hosts = changed_member at change old.hosts })

-- a task begins
abbrev pub MailBegins : List ℕ → Ask → Option MailRefusal → MailView → MailView → Type 0
MailBegins name ask answered old new =
    MailRefuses name (refusal_named name (begin_refusal ask) old) old new answered
    (ChangesHost name (λ h. record h { task = Some (new_task ask (capacity_in old)) }) (note.Start name ask) old new)

-- a task is dropped
abbrev pub MailStops : List ℕ → Option MailRefusal → MailView → MailView → Type 0
MailStops name answered old new =
    MailRefuses name (refusal_named name no_task_refusal old) old new answered (ChangesHost name (λ h. record h { task = None }) (note.Stop name) old new)

-- a host halts
abbrev pub MailHalts : List ℕ → Option MailRefusal → MailView → MailView → Type 0
MailHalts name answered old new =
    MailRefuses name (refusal_named name no_refusal old) old new answered
    (ChangesHost name (λ h. record h { cache = finmap.empty; task = None }) (note.Halt name) old new)

-- Calls that do operations.

-- the note of a turn, where it makes one: a box that is full was found first
abbrev pub notes_of_turn : List ℕ → Turn → List MailNote
notes_of_turn name Go = []
notes_of_turn name Mark = note.Mark name ∷ []
notes_of_turn name (Found n) = note.Found name n ∷ []
notes_of_turn name (Posted n) = note.Posted name n ∷ []
notes_of_turn name (Full n) = note.Found name n ∷ note.Full name n ∷ []
notes_of_turn name (Taken records) = note.Taken name (length records) records ∷ []
notes_of_turn name (BadBox gate capacity) = note.BadBox name gate capacity ∷ []
notes_of_turn name (BadRecord i word) = note.BadRecord name i word ∷ []

-- the task behind a turn
abbrev pub kept_task : Turn → MailTask → Option MailTask
kept_task turn next = if ends_mail_task turn then None else Some next

-- A host around an operation of its task, with the notes that come of it; this is what the media tells before and behind it.

-- the media served it: it gave a word, with which the task takes its turn
pub record TaskServes (entry : Entry) (name : List ℕ) (host : MailHost) (t : MailTask) (told : MediaChange) (over : Bool) (next : MailHost) (notes : List MailNote) : Type 0 where
  pub word : ℕ
  pub done : IfModelled told.old.image (λ image. IsMachine (operated (task_op (file_line entry) t) (machine image host.cache)) told.new.image next.cache)
  pub word_is : IfModelled told.old.image (λ image. word ≡ unwrap_or (given (task_op (file_line entry) t) (machine image host.cache)) 0)
  pub over_is : over ≡ ends_mail_task (mail_turn word t)
  pub next_is : next ≡ record host { cache = next.cache; task = kept_task (mail_turn word t) (next_task word t) }
  pub notes_are : notes ≡ notes_of_turn name (mail_turn word t)

-- the media failed in it, at this line of the image: the task is gone
pub record TaskBreaks (entry : Entry) (name : List ℕ) (host : MailHost) (t : MailTask) (told : MediaChange) (over : Bool) (next : MailHost) (notes : List MailNote) : Type 0 where
  pub line : LineNo
  pub failed : IfModelled told.old.image (λ image. HasFailed (task_op (file_line entry) t) (machine image host.cache) line told.new.image next.cache)
  pub rose : Rose told.old.faults told.new.faults
  pub over_is : over ≡ true
  pub next_is : next ≡ record host { cache = next.cache; task = None }
  pub notes_are : notes ≡ note.MediaFault name line ∷ []

-- one or the other, of the task that it runs. The media's count of faults doesn't fall
pub record HostOperates (entry : Entry) (name : List ℕ) (host : MailHost) (told : MediaChange) (over : Bool) (next : MailHost) (notes : List MailNote) : Type 0 where
  pub task : MailTask
  pub task_is : host.task ≡ Some task
  pub how : TaskServes entry name host task told over next notes ⊎ TaskBreaks entry name host task told over next notes
  pub later : told.old.faults ≤ told.new.faults

-- notes of which this holds are put behind a journal
pub record HostNotes (P : List MailNote → Type 0) (before after : List MailNote) : Type 0 where
  pub notes : List MailNote
  pub does : P notes
  pub noted : after ≡ before ++ notes

-- an operation with the journal behind it
abbrev pub HostStepped : Entry → List ℕ → MailHost → MediaChange → Bool → MailHost → List MailNote → List MailNote → Type 0
HostStepped entry name host told over next before after = HostNotes (HostOperates entry name host told over next) before after

-- the host of this name becomes another one with some notes, of which this holds, and no other one is changed
pub record HostBecomes (name : List ℕ) (R : MailHost → MailHost → List MailNote → Type 0) (old new : MailView) : Type 0 where
  pub at : ℕ
  pub host : MailHost
  pub number : member_place (is_named name) old.hosts ≡ Some at
  pub host_is : slice_get old.hosts at ≡ Some host
  pub next : MailHost
  pub notes : List MailNote
  pub does : R host next notes
  pub is : new ≡ record { entry = old.entry; hosts = changed_member at (λ h. next) old.hosts; journal = old.journal ++ notes }

-- by an operation of its task
abbrev pub MailOperates : List ℕ → MediaChange → Bool → MailView → MailView → Type 0
MailOperates name told over old new = HostBecomes name (λ host next notes. HostOperates old.entry name host told over next notes) old new

-- a step: it is refused, and the media is as it was, or it is done
abbrev pub MailSteps : List ℕ → MediaChange → Option MailRefusal → Bool → MailView → MailView → Type 0
MailSteps name told answered over old new =
    MailRefuses name (refusal_named name no_task_refusal old) old new answered (MailOperates name told over old new)
    × (answered ≢ None → told.new ≡ told.old)

-- What a call on a media asks of a world, and keeps.

-- a host's cache holds lines of a media of so many, and its task is one of this box
pub record MailHostFits (lines capacity : ℕ) (h : MailHost) : Type 0 where
  pub cache : LinesFit lines h.cache
  pub task : (t : MailTask) → h.task ≡ Some t → t.capacity ≡ capacity

-- so it is with every host, and the file's lines are the media's
pub record MailWorldFits (lines : ℕ) (v : MailView) : Type 0 where
  pub place : (j : ℕ) → j ≤ capacity_in v → file_line v.entry j < lines
  pub host : (at : ℕ) (h : MailHost) → slice_get v.hosts at ≡ Some h → MailHostFits lines (capacity_in v) h

-- Moves that a host's cache makes by itself, at a line of the file.

-- the move on the machine's line that the file's line is
pub record HostMoves (entry : Entry) (line : ℕ) (move : Move) (told : MediaChange) (host next : MailHost) (notes : List MailNote) : Type 0 where
  pub done : IfModelled told.old.image (λ image. IsMachine (moved move (file_line entry line) (machine image host.cache)) told.new.image next.cache)
  pub later : told.old.faults ≤ told.new.faults
  pub next_is : next ≡ record host { cache = next.cache }
  pub notes_are : notes ≡ []

-- the host of this name makes it
abbrev pub MoveDoneAt : List ℕ → ℕ → Move → MediaChange → MailView → MailView → Type 0
MoveDoneAt name line move told old new = HostBecomes name (HostMoves old.entry line move told) old new

-- the media failed in it, and the call is refused for it: memory may have words of the copy, and the cache is as it was
pub record MoveFailsAt (name : List ℕ) (line : ℕ) (move : Move) (told : MediaChange) (cause : MailRefusal) (old new : MailView) : Type 0 where
  pub at : ℕ
  pub host : MailHost
  pub number : member_place (is_named name) old.hosts ≡ Some at
  pub host_is : slice_get old.hosts at ≡ Some host
  pub failed : IfModelled told.old.image (λ image. FailsTo (file_line old.entry line)
      (λ through memory. failed_move move through memory (cell_at host.cache (file_line old.entry line))) image told.new.image)
  pub rose : Rose told.old.faults told.new.faults
  pub later : told.old.faults ≤ told.new.faults
  pub cause_is : cause ≡ why.MediaFault (line_no (file_line old.entry line))
  pub is : new ≡ mail_noted (note.Refused name cause) old

-- it is refused at once, and the media is as it was
pub record IsTurnedDown (name : List ℕ) (first : Option MailRefusal) (cause : MailRefusal) (told : MediaChange) (old new : MailView) : Type 0 where
  pub first_is : first ≡ Some cause
  pub is : new ≡ mail_noted (note.Refused name cause) old
  pub same : told.new ≡ told.old

-- one or the other
abbrev pub MovesLine : List ℕ → ℕ → Move → MediaChange → Option MailRefusal → MailView → MailView → Type 0
MovesLine name line move told None old new =
    (refusal_named name (file_line_refusal line (capacity_in old)) old ≡ None) × MoveDoneAt name line move told old new
MovesLine name line move told (Some cause) old new =
    IsTurnedDown name (refusal_named name (file_line_refusal line (capacity_in old)) old) cause told old new
    ⊎ ((refusal_named name (file_line_refusal line (capacity_in old)) old ≡ None) × MoveFailsAt name line move told cause old new)

-- Operations one behind another.

-- an image that is told has so many lines of eight words
pub record IsTold (lines : ℕ) (told : Option Image) : Type 0 where
  pub normal : IsNormal told
  pub count : IfModelled told (λ image. length image ≡ lines)

-- so many operations of a host's task, of which none ends it, on a media of so many lines: what they lead to, what the media tells
-- then, and the notes
pub data HostRuns (lines : ℕ) (entry : Entry) (name : List ℕ) (host : MailHost) (told : MediaState) : ℕ → MailHost → MediaState → List MailNote → Type 0 where
  rests : HostRuns lines entry name host told 0 host told []
  goes_on : {count : ℕ} {mid next : MailHost} {now later : MediaState} {notes more : List MailNote} → HostRuns lines entry name host told count mid now notes → IsTold lines now.image
      → HostOperates entry name mid (record { old = now; new = later }) false next more → HostRuns lines entry name host told (suc count) next later (notes ++ more)

-- some, and then one with which it ends
pub record HostFinishes (lines : ℕ) (entry : Entry) (name : List ℕ) (host : MailHost) (told : MediaChange) (next : MailHost) (notes : List MailNote) : Type 0 where
  pub count : ℕ
  pub mid : MailHost
  pub now : MediaState
  pub first : List MailNote
  pub runs : HostRuns lines entry name host told.old count mid now first
  pub last : List MailNote
  pub is_told : IsTold lines now.image
  pub ends : HostOperates entry name mid (record { old = now; new = told.new }) true next last
  pub joined : notes ≡ first ++ last

-- some, and none with which it ends
pub record HostStays (lines : ℕ) (entry : Entry) (name : List ℕ) (host : MailHost) (told : MediaChange) (next : MailHost) (notes : List MailNote) : Type 0 where
  pub count : ℕ
  pub runs : HostRuns lines entry name host told.old count next told.new notes

-- so many operations at most: it ends with one of them, or has done so many and goes on, or no memory was left before
abbrev pub HostCounts : ℕ → ℕ → Entry → List ℕ → MailHost → MediaChange → MailHost → List MailNote → List MailNote → Result Bool OutOfMemory → Type 0
HostCounts limit lines entry name host told next before after (Ok true) =
    (f : HostNotes (HostFinishes lines entry name host told next) before after) × (f.does.count < limit)
HostCounts limit lines entry name host told next before after (Ok false) =
    (s : HostNotes (HostStays lines entry name host told next) before after) × (s.does.count ≡ limit)
HostCounts limit lines entry name host told next before after (Err full) =
    (s : HostNotes (HostStays lines entry name host told next) before after) × (s.does.count < limit)

-- how many operations a host's task may be from its end
abbrev pub left_in : MailHost → ℕ
left_in h = unwrap_or (option_map left_of h.task) 0

-- the host of this name finishes its task
abbrev pub Finishes : ℕ → List ℕ → MediaChange → MailView → MailView → Type 0
Finishes lines name told old new = HostBecomes name (λ host next notes. HostFinishes lines old.entry name host told next notes) old new

-- or goes on with it, for want of memory
abbrev pub Stays : ℕ → List ℕ → MediaChange → MailView → MailView → Type 0
Stays lines name told old new = HostBecomes name (λ host next notes. HostStays lines old.entry name host told next notes) old new

-- a call that finishes: it is refused, and the media is as it was, or it is done, or memory ran out behind some operations or
-- before the first
abbrev pub FinishEnds : ℕ → List ℕ → MediaChange → MailView → MailView → Result (Unit {0}) MailFault → Type 0
FinishEnds lines name told old new (Ok done) = (refusal_named name no_task_refusal old ≡ None) × Finishes lines name told old new
FinishEnds lines name told old new (Err (fault.Refused cause)) = IsTurnedDown name (refusal_named name no_task_refusal old) cause told old new
FinishEnds lines name told old new (Err fault.OutOfMemory) =
    ((new ≡ old) × (told.new ≡ told.old)) ⊎ ((refusal_named name no_task_refusal old ≡ None) × Stays lines name told old new)

-- a call for so many operations at most: it is refused, and the media is as it was, or the task ends with one of them, or does all,
-- or memory ran out before
abbrev pub CountEnds : ℕ → ℕ → List ℕ → MediaChange → MailView → MailView → Result Bool MailFault → Type 0
CountEnds limit lines name told old new (Ok true) =
    (refusal_named name no_task_refusal old ≡ None) × (call : Finishes lines name told old new) × (call.does.count < limit)
CountEnds limit lines name told old new (Ok false) =
    (refusal_named name no_task_refusal old ≡ None) × (call : Stays lines name told old new) × (call.does.count ≡ limit)
CountEnds limit lines name told old new (Err (fault.Refused cause)) = IsTurnedDown name (refusal_named name no_task_refusal old) cause told old new
CountEnds limit lines name told old new (Err fault.OutOfMemory) =
    ((new ≡ old) × (told.new ≡ told.old))
    ⊎ ((refusal_named name no_task_refusal old ≡ None) × (call : Stays lines name told old new) × (call.does.count < limit))
