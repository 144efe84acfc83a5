-- How a run of a mailbox's events ends, and what is put of it.
use Rattle.std.specs.Prelude.{ℕ, ⊤, ◌≡◌, ◌⊎◌, ◌≤◌, ◌++◌, Bool, true, List, take, slice_get, Option, Some, Result, Ok, Err}
use Rattle.fam_base.specs.Image.{Image, line_at}
use Rattle.fam_base.specs.declared.entry.Entry.{Entry}
use Rattle.fam_base.specs.declared.line.OutOfMemory.{OutOfMemory}
use Rattle.fam_mail.specs.Boxes.{box_of, capacity_of}
use Rattle.fam_mail.specs.declared.event.MailEvent.{MailEvent}
use Rattle.fam_mail.specs.declared.note.MailNote.{MailNote}
use Rattle.fam_mail.specs.Happens.{AreByWords, mail_counted, HasMailCounted, HasRunMail, HasRunMailPart, MailRunsOn}
use Rattle.fam_mail.specs.Legal.{LegalMail, mail_state}
use Rattle.fam_mail.specs.RunLaws.{IsBoxLeft}
use Rattle.fam_mail.specs.World.{MailView}
use Rattle.fam_mail_script.specs.Statuses.{is_good_mail}
use Rattle.fam_mail_script.specs.Texts.{mail_text}
use Rattle.fam_media.specs.Outside.{IfModelled}
use Rattle.fam_media.specs.States.{MediaChange, SinkChange, SinkState}
use Rattle.fam_outcomes.specs.declared.status.Status.{Status}
use Rattle.fam_outcomes.specs.declared.status.Status.TheVariants as status
use Rattle.fam_outcomes.specs.Statuses.{good_status}
use Rattle.fam_rules.specs.Written.{file_line}
use Rattle.fam_program.specs.Puts.{PutPart, PutWhole}
use Rattle.fam_mailbox.specs.Puts.{PutShortMail}

-- all events are done, and all notes were put; the sink failed in a note of an event that was done; or no memory was left, for an
-- event or for a text
pub data MailEnding : Type 0 where
  AllDone : MailEnding
  SinkFails : MailEnding
  WantsMemory : MailEnding

-- what is put of a run of such notes, and its status
abbrev pub PutsMail : MailEnding → List MailNote → SinkChange → Status → Type 0
PutsMail AllDone journal s given = (given ≡ good_status (is_good_mail journal)) × PutWhole (mail_text journal) s
PutsMail SinkFails journal s given = (given ≡ status.SinkFault) × PutPart (mail_text journal) s
PutsMail WantsMemory journal s given = PutShortMail journal s given

-- the first events were done, and nothing of the others
pub record FirstDone (start : Image) (records : List (List ℕ)) (events : List MailEvent) (v : MailView) (now : Option Image) : Type 0 where
  pub count : ℕ
  pub run : HasRunMail start records (take count events) v now

-- the first events were done, and a part of the next one
pub record FirstPartDone (start : Image) (records : List (List ℕ)) (events : List MailEvent) (v : MailView) (now : Option Image) : Type 0 where
  pub count : ℕ
  pub event : MailEvent
  pub event_is : slice_get events count ≡ Some event
  pub run : HasRunMailPart start records (take count events) event v now

-- which of the events were done, by how the run ends
abbrev pub HasDoneMail : MailEnding → Image → List (List ℕ) → List MailEvent → MailView → Option Image → Type 0
HasDoneMail AllDone start records events v now = HasRunMail start records events v now
HasDoneMail SinkFails start records events v now = FirstDone start records events v now
HasDoneMail WantsMemory start records events v now = FirstDone start records events v now ⊎ FirstPartDone start records events v now

-- a run over an image of which the box reads as a list: the events that were done lead from it, by the machine's rows, to a world with
-- this journal, and the media has its memory
pub record HasMailed (ending : MailEnding) (entry : Entry) (events : List MailEvent) (journal : List MailNote) (start : Image) (now : Option Image) : Type 0 where
  pub records : List (List ℕ)
  pub reads : box_of (file_line entry) (capacity_of entry.size) (line_at start) ≡ Ok records
  pub world : MailView
  pub entry_is : world.entry ≡ entry
  pub journal_is : world.journal ≡ journal
  pub done : HasDoneMail ending start records events world now

-- The event that ended a run early.

-- from an image of which the box reads as a list: the first events lead to a world with these notes before it, and then it was done,
-- or a part of it where no memory was left
pub record IsLastEvent (entry : Entry) (ended : Result (Unit {0}) OutOfMemory) (start : Image) (events : List MailEvent) (event : MailEvent) (before journal : List MailNote) (now : Option Image) : Type 0 where
  pub records : List (List ℕ)
  pub first : MailView
  pub first_entry : first.entry ≡ entry
  pub before_is : first.journal ≡ before
  pub shown : Option Image
  pub done : HasRunMail start records events first shown
  pub world : MailView
  pub world_entry : world.entry ≡ entry
  pub journal_is : world.journal ≡ journal
  pub runs : MailRunsOn start records events event world now ended

-- the notes of all events before it were put, whole, and this of its own; nothing was run behind it
pub record EndsIn (entry : Entry) (ended : Result (Unit {0}) OutOfMemory) (Puts : List MailNote → SinkChange → Type 0) (events : List MailEvent) (journal : List MailNote) (media : MediaChange) (s : SinkChange) : Type 0 where
  pub count : ℕ
  pub event : MailEvent
  pub event_is : slice_get events count ≡ Some event
  pub before : List MailNote
  pub notes : List MailNote
  pub joined : journal ≡ before ++ notes
  pub mid : SinkState
  pub later : s.old.faults ≤ mid.faults
  pub whole : PutWhole (mail_text before) (record { old = s.old; new = mid })
  pub puts : Puts notes (record { old = mid; new = s.new })
  pub told : IfModelled media.old.image (λ start. IsLastEvent entry ended start (take count events) event before journal media.new.image)

-- of its notes a part was put
abbrev pub PutsPart : List MailNote → SinkChange → Type 0
PutsPart notes s = PutPart (mail_text notes) s

-- or the first ones, and that no memory is left
abbrev pub PutsFirst : Status → List MailNote → SinkChange → Type 0
PutsFirst given notes s = PutShortMail notes s given

-- each event's notes are put when it is done, and nothing is run behind a put that failed, or where no memory was left
abbrev pub PutsByEvent : MailEnding → Entry → List MailEvent → List MailNote → MediaChange → SinkChange → Status → Type 0
PutsByEvent AllDone entry events journal media s given = ⊤
PutsByEvent SinkFails entry events journal media s given = EndsIn entry (Ok tt) PutsPart events journal media s
PutsByEvent WantsMemory entry events journal media s given =
    EndsIn entry (Ok tt) (PutsFirst given) events journal media s ⊎ EndsIn entry (Err (record {})) (PutsFirst given) events journal media s

-- events ran on the box in the file of an entry: one journal, of which the media's count rose by at least as many faults as it tells,
-- and where it counts exactly by just as many, and which is put. Where no memory was left this is so of all notes that were made, also
-- of those that were not put
pub record MailRan (exact : Bool) (entry : Entry) (events : List MailEvent) (media : MediaChange) (s : SinkChange) (given : Status) : Type 0 where
  pub ending : MailEnding
  pub journal : List MailNote
  pub counted : HasMailCounted media.old.faults media.new.faults journal
  pub exactly : exact ≡ true → media.new.faults ≡ mail_counted media.old.faults journal
  pub by_words : AreByWords journal
  pub told : IfModelled media.old.image (λ start. HasMailed ending entry events journal start media.new.image)
  pub put : PutsMail ending journal s given
  pub each : PutsByEvent ending entry events journal media s given

-- what a run leaves: its journal is legal from the list that the box was read as, and the image reads as what the journal settles, or
-- as that followed by the pending record; its other lines are as at first
pub record IsMailLeft (entry : Entry) (start image : Image) (journal : List MailNote) : Type 0 where
  pub records : List (List ℕ)
  pub reads : box_of (file_line entry) (capacity_of entry.size) (line_at start) ≡ Ok records
  pub legal : LegalMail (capacity_of entry.size) records journal
  pub left : IsBoxLeft entry start image (mail_state (capacity_of entry.size) records journal).mail
