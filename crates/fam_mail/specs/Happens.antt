-- What comes of an event in a world with a mailbox, over any media; and how a run of events stands, where the media tells its image.
-- docs/MODEL.md, "The mailbox".
use Rattle.std.specs.Prelude.{ℕ, ⊤, ◌≡◌, ◌==◌, ◌+◌, ◌-◌, ◌^◌, ◌<◌, ◌≤◌, ◌++◌, min, List, [], ◌∷◌, length, map, slice_get, Option, Some, None, Result, Ok, Err}
use Rattle.fam_base.specs.Image.{Image, eight, line_at}
use Rattle.fam_base.specs.declared.entry.Entry.{Entry}
use Rattle.fam_base.specs.declared.line.OutOfMemory.{OutOfMemory}
use Rattle.fam_media.specs.Outside.{IfModelled}
use Rattle.fam_media.specs.Plans.{count_if}
use Rattle.fam_media.specs.States.{MediaChange}
use Rattle.fam_rules.specs.Written.{file_line}
use Rattle.fam_mail.specs.declared.event.MailEvent.{MailEvent}
use Rattle.fam_mail.specs.declared.note.MailFault.{MailFault}
use Rattle.fam_mail.specs.declared.note.MailFault.TheVariants as fault
use Rattle.fam_mail.specs.declared.note.MailNote.{MailNote}
use Rattle.fam_mail.specs.declared.note.MailNote.TheVariants.{Writer, Reader, Start, Mark, Found, Posted, Full, Taken, BadBox, BadRecord, Stop, Halt, MediaFault, Refused}
use Rattle.fam_mail.specs.declared.note.MailRefusal.{MailRefusal}
use Rattle.fam_mail.specs.declared.note.MailRefusal.TheVariants as why
use Rattle.fam_mail.specs.Boxes.{box_of, capacity_of}
use Rattle.fam_mail.specs.Follows.{MailDoes, MailDoesPart, MailFollows, MailFollowsCut}
use Rattle.fam_mail.specs.Legal.{LegalMail, MailState, mail_state}
use Rattle.fam_mail.specs.Machines.{MailMachines, unused_machines}
use Rattle.fam_mail.specs.Records.{wrong_word}
use Rattle.fam_mail.specs.Standing.{IsOneWriter, MailPast, MailStands}
use Rattle.fam_mail.specs.Tasks.{MailTask}
use Rattle.fam_mail.specs.World.{MailHost, MailView, member_place, is_named}

-- Faults of the media.

-- how many faults a refusal tells
abbrev pub mail_cause_faults : MailRefusal → ℕ
mail_cause_faults why.NoHost = 0
mail_cause_faults (why.SameHost name) = 0
mail_cause_faults why.TooManyHosts = 0
mail_cause_faults (why.SecondWriter name) = 0
mail_cause_faults why.Busy = 0
mail_cause_faults why.NotWriter = 0
mail_cause_faults why.Idle = 0
mail_cause_faults (why.NoLine line lines) = 0
mail_cause_faults (why.MediaFault line) = 1

-- how many a note tells
abbrev pub mail_note_faults : MailNote → ℕ
mail_note_faults (Writer name) = 0
mail_note_faults (Reader name) = 0
mail_note_faults (Start name ask) = 0
mail_note_faults (Mark name) = 0
mail_note_faults (Found name n) = 0
mail_note_faults (Posted name n) = 0
mail_note_faults (Full name n) = 0
mail_note_faults (Taken name count records) = 0
mail_note_faults (BadBox name gate most) = 0
mail_note_faults (BadRecord name i word) = 0
mail_note_faults (Stop name) = 0
mail_note_faults (Halt name) = 0
mail_note_faults (MediaFault name line) = 1
mail_note_faults (Refused name cause) = mail_cause_faults cause

-- how often the media failed, as these notes have it
abbrev pub mail_faults : List MailNote → ℕ
mail_faults [] = 0
mail_faults (note ∷ notes) = mail_note_faults note + mail_faults notes

-- a count of 64 bits rose by at least as many faults as these notes have, or stands at its last value
abbrev pub HasMailCounted : ℕ → ℕ → List MailNote → Type 0
HasMailCounted before now notes = min (before + mail_faults notes) (2 ^ 64 - 1) ≤ now

-- a count behind these notes: it rose by one at each fault that they tell, as a media that counts exactly has it
abbrev pub mail_counted : ℕ → List MailNote → ℕ
mail_counted count [] = count
mail_counted count (note ∷ notes) = mail_counted (count_if (mail_note_faults note == 1) count) notes

-- some notes came behind a journal, and a count is the one behind them
pub record IsCountedIn (before after : List MailNote) (old now : ℕ) : Type 0 where
  pub notes : List MailNote
  pub joined : after ≡ before ++ notes
  pub count : now ≡ mail_counted old notes

-- Boxes and records that are none.

-- what a task finds to be none is none by the words that it was fed: a gate above the room, and the first word that makes a line no
-- record
abbrev pub IsByWords : MailNote → Type 0
IsByWords (Writer name) = ⊤
IsByWords (Reader name) = ⊤
IsByWords (Start name ask) = ⊤
IsByWords (Mark name) = ⊤
IsByWords (Found name n) = ⊤
IsByWords (Posted name n) = ⊤
IsByWords (Full name n) = ⊤
IsByWords (Taken name count records) = ⊤
IsByWords (BadBox name gate most) = most < gate
IsByWords (BadRecord name i word) = (words : List ℕ) × (wrong_word words ≡ Some word)
IsByWords (Stop name) = ⊤
IsByWords (Halt name) = ⊤
IsByWords (MediaFault name line) = ⊤
IsByWords (Refused name cause) = ⊤

-- so it is of all of them
abbrev pub AreByWords : List MailNote → Type 0
AreByWords [] = ⊤
AreByWords (note ∷ notes) = IsByWords note × AreByWords notes

-- An event.

-- a world stands for a state of the machine that these notes lead to, and the media shows its memory
pub record Leads (P : MailMachines → List MailNote → MailMachines → Type 0) (image : Image) (old : MailView) (notes : List MailNote) (shown : Option Image) (new : MailView) : Type 0 where
  pub left : MailMachines
  pub does : P (record { memory = image; hosts = old.hosts }) notes left
  pub shown_is : shown ≡ Some left.memory
  pub hosts_are : new.hosts ≡ left.hosts

-- a world gets notes, and as many faults of the media as they tell were counted. Where the image is modelled its machine does
-- something, with these notes
pub record MailAdds (P : MailMachines → List MailNote → MailMachines → Type 0) (told : MediaChange) (old new : MailView) : Type 0 where
  pub notes : List MailNote
  pub entry_is : new.entry ≡ old.entry
  pub joined : new.journal ≡ old.journal ++ notes
  pub counted : HasMailCounted told.old.faults told.new.faults notes
  pub by_words : AreByWords notes
  pub leads : IfModelled told.old.image (λ image. Leads P image old notes told.new.image new)

-- this was done, or that, where no memory was left
abbrev pub SaysBy : (P Q : MailMachines → List MailNote → MailMachines → Type 0) → MediaChange → MailView → MailView → Result (Unit {0}) OutOfMemory → Type 0
SaysBy P Q told old new (Ok done) = MailAdds P told old new
SaysBy P Q told old new (Err full) = MailAdds Q told old new

-- an event was done as its row has it, or a part of it
abbrev pub MailEventSays : MailEvent → MediaChange → MailView → MailView → Result (Unit {0}) OutOfMemory → Type 0
MailEventSays e told old new ended = SaysBy (MailDoes old.entry e) (MailDoesPart old.entry e) told old new ended

-- what a call comes to as an event: a refusal is noted, and the run goes on
abbrev pub mail_outcome : {T : Type 0} → Result T MailFault → Result (Unit {0}) OutOfMemory
mail_outcome (Ok x) = Ok tt
mail_outcome (Err (fault.Refused cause)) = Ok tt
mail_outcome (Err fault.OutOfMemory) = Err (record {})

-- A run.

-- no two hosts have one name
abbrev pub AreHostsNamed : List MailHost → Type 0
AreHostsNamed hosts = (n : ℕ) (h : MailHost) → slice_get hosts n ≡ Some h → member_place (is_named h.name) hosts ≡ Some n

-- a task is the one that the journal tells of its host
abbrev pub AreTasksAsked : MailState → List MailHost → Type 0
AreTasksAsked s hosts = (n : ℕ) (h : MailHost) (t : MailTask) → slice_get hosts n ≡ Some h → h.task ≡ Some t → s.asked h.name ≡ Some t.ask

-- how many records were settled at a host's last mark, as the journal tells it
abbrev pub floor_told : Option MailHost → MailState → Option ℕ
floor_told None s = None
floor_told (Some h) s = s.floor h.name

-- what the journal has settled, and the marks of all hosts, by their numbers
abbrev pub past_told : MailState → List MailHost → MailPast
past_told s hosts = record { mail = s.mail; floors = λ n. floor_told (slice_get hosts n) s }

-- a state of the machine is held, from an image of which the box reads as this list: the journal is legal, and what the protocol
-- keeps holds, with just what the journal settles
pub record IsMailHeld (entry : Entry) (start : Image) (records : List (List ℕ)) (m : MailMachines) (journal : List MailNote) : Type 0 where
  pub legal : LegalMail (capacity_of entry.size) records journal
  pub stands : MailStands (line_at start) (record { entry = entry; hosts = m.hosts; journal = journal }) (past_told (mail_state (capacity_of entry.size) records journal) m.hosts) m.memory
  pub asked : AreTasksAsked (mail_state (capacity_of entry.size) records journal) m.hosts
  pub one : IsOneWriter m.hosts
  pub named : AreHostsNamed m.hosts
  pub place : (j : ℕ) → j ≤ capacity_of entry.size → file_line entry j < length m.memory
  pub normal : map eight m.memory ≡ m.memory

-- these events were done, from an image of which the box reads as this list, and the world with this media stands behind them
pub record HasRunMail (start : Image) (records : List (List ℕ)) (events : List MailEvent) (v : MailView) (shown : Option Image) : Type 0 where
  pub reads : box_of (file_line v.entry) (capacity_of v.entry.size) (line_at start) ≡ Ok records
  pub last : MailMachines
  pub follows : MailFollows v.entry events (unused_machines start) v.journal last
  pub shown_is : shown ≡ Some last.memory
  pub hosts_are : v.hosts ≡ last.hosts
  pub held : IsMailHeld v.entry start records last v.journal

-- and then a part of one more event, for which no memory was left
pub record HasRunMailPart (start : Image) (records : List (List ℕ)) (events : List MailEvent) (e : MailEvent) (v : MailView) (shown : Option Image) : Type 0 where
  pub reads : box_of (file_line v.entry) (capacity_of v.entry.size) (line_at start) ≡ Ok records
  pub last : MailMachines
  pub follows : MailFollowsCut v.entry events e (unused_machines start) v.journal last
  pub shown_is : shown ≡ Some last.memory
  pub hosts_are : v.hosts ≡ last.hosts
  pub held : IsMailHeld v.entry start records last v.journal

-- a run goes on with an event, or ends in it, where no memory was left
abbrev pub MailRunsOn : Image → List (List ℕ) → List MailEvent → MailEvent → MailView → Option Image → Result (Unit {0}) OutOfMemory → Type 0
MailRunsOn start records events e v shown (Ok done) = HasRunMail start records (events ++ e ∷ []) v shown
MailRunsOn start records events e v shown (Err full) = HasRunMailPart start records events e v shown
