-- How a run of events ends: one journal and one last state. What is counted of it, what a script puts of it, and what the
-- image reads as.
use Rattle.std.specs.Prelude.{ℕ, ◌≡◌, ◌⊎◌, ◌+◌, ◌^◌, ◌-◌, ◌≤◌, min, not, nat_lt, Bool, true, false, List, [], ◌∷◌, length, count_by, if◌then◌else◌}
use Rattle.std.specs.List.{list_any}
use Rattle.fam_base.specs.Image.{Image}
use Rattle.fam_base.specs.declared.entry.Params.{Params}
use Rattle.fam_format.specs.declared.faults.SuperFault.TheVariants as super
use Rattle.fam_format.specs.Reading.{reading}
use Rattle.fam_format.specs.Reading as read
use Rattle.fam_media.specs.Files.{Files}
use Rattle.fam_rules.specs.Asks.{entries_of}
use Rattle.fam_journal.specs.declared.event.Event.{Event}
use Rattle.fam_machine.specs.Mkfs.{asked, first_sent}
use Rattle.fam_journal.specs.declared.event.Event.TheVariants as event
use Rattle.fam_journal.specs.declared.refusal.Refusal.{Refusal}
use Rattle.fam_journal.specs.Calls as call
use Rattle.fam_journal.specs.Calls.{AtNumber, Call, number_of}
use Rattle.fam_journal.specs.Events.{Session}
use Rattle.fam_journal.specs.Follows.{Follows, FollowsBroken, FollowsCut, FollowsPrefix, FollowsLast, FollowsToSource, SourceEnd}
use Rattle.fam_journal.specs.Machines.{Machines}
use Rattle.fam_journal.specs.Notes.{Answer, Replied, MediaFault, Note, Host, Made, Cut, Start, Mark, Found, Writes, Answered, Stop, Halt, Umount, Refused}
use Rattle.fam_journal.specs.Past.{Origin, Given, Halted, State, Bad, Sound, past_of, settled_length, with_pending}
use Rattle.fam_journal.specs.NoteClasses.{NoteClass, note_class, Declared, Formatted, Going, Answering, Refusing}
use Rattle.fam_journal.specs.RefusalClasses.{RefusalClass, refusal_class, AtOnce, ByHost, ByImage, BySource, ByFault}

-- Notes that count.

-- how many faults an answer tells
abbrev pub answer_faults : Answer → ℕ
answer_faults (Replied given) = 0
answer_faults (MediaFault at) = 1

-- how many faults a refusal tells; by the class of the refusal
abbrev pub cause_faults_in : RefusalClass → ℕ
cause_faults_in AtOnce = 0
cause_faults_in (ByHost host) = 0
cause_faults_in ByImage = 0
cause_faults_in BySource = 0
cause_faults_in (ByFault at) = 1

-- so of a refusal, by its class
abbrev pub cause_faults : Refusal → ℕ
cause_faults cause = cause_faults_in (refusal_class cause)

-- how many faults a note tells; by the class of the note
abbrev pub note_faults_in : NoteClass → ℕ
note_faults_in (Declared name uuid) = 0
note_faults_in (Formatted host p) = 0
note_faults_in (Going host) = 0
note_faults_in (Answering host answer) = answer_faults answer
note_faults_in (Refusing name cause) = cause_faults cause

-- so of a note, by its class
abbrev pub note_faults : Note → ℕ
note_faults note = note_faults_in (note_class note)

-- how often the media failed, as the notes have it
abbrev pub faults_of : List Note → ℕ
faults_of [] = 0
faults_of (note ∷ notes) = note_faults note + faults_of notes

-- the media never failed
abbrev pub IsFaultless : List Note → Type 0
IsFaultless notes = faults_of notes ≡ 0

-- a count of 64 bits rose by at least as many faults as these notes have, or stands at its last value
abbrev pub HasCounted : ℕ → ℕ → List Note → Type 0
HasCounted before now notes = min (before + faults_of notes) (2 ^ 64 - 1) ≤ now

-- The run.

-- how the run of events ends
pub data Ending : Type 0 where
  -- all events are done
  AllDone : Ending
  -- the media failed in a mkfs
  MkfsFails : Ending
  -- a source failed or was short
  SourceFails : (end : SourceEnd) → Ending
  -- no room was found
  EndsOutOfMemory : Ending
  -- the media failed in a mkfs, and then no room was found for what is put
  EndsOutOfMemoryBroken : Ending
  -- the put of an event's notes failed: no event behind it is done
  SinkFails : Ending

-- which events are done
abbrev pub EventsDone : Ending → Files → List Event → Session → List Note → Session → Type 0
EventsDone AllDone files events old journal new = Follows files events old journal new
EventsDone MkfsFails files events old journal new = FollowsBroken files events old journal new
EventsDone (SourceFails end) files events old journal new = FollowsToSource end files events old journal new
EventsDone EndsOutOfMemory files events old journal new = FollowsPrefix files events old journal new ⊎ FollowsCut files events old journal new
EventsDone EndsOutOfMemoryBroken files events old journal new = FollowsBroken files events old journal new
EventsDone SinkFails files events old journal new = FollowsLast files events old journal new

-- a damaged image that was handed in is left as it is; behind a mkfs whose maker halted there is no superblock
abbrev pub StaysBad : Origin → Image → Type 0
StaysBad (Given image) after = after ≡ image
StaysBad Halted after = reading after ≡ read.NoSuperblock (super.NoSuper 0)

-- the image reads as what a journal settles
abbrev pub ReadsAs : State → Image → Type 0
ReadsAs (Bad origin damage gate) after = StaysBad origin after
ReadsAs (Sound p history pending) after =
    (reading after ≡ read.Sound p (entries_of history)) ⊎ (reading after ≡ read.Sound p (entries_of (with_pending history pending)))

-- a damaged image reads by its fault
abbrev pub StillBad : Origin → Image → Type 0
StillBad (Given image) after = reading after ≡ reading image
StillBad Halted after = reading after ≡ read.NoSuperblock (super.NoSuper 0)

-- the image reads as before, of a state: a damaged one by its fault; a sound one as its history, or with the pending entry
abbrev pub StillReads : State → Image → Type 0
StillReads (Bad origin damage gate) after = StillBad origin after
StillReads (Sound p history pending) after = ReadsAs (Sound p history pending) after

-- behind a mkfs with these parameters in which the media failed: the image reads as before; or it has no superblock, since word
-- 0 of line 0 is zero from the first line that is sent to the last; or it reads as the new file system, without entries
abbrev pub CutReads : Params → State → Image → Type 0
CutReads p state after = StillReads state after ⊎ ((reading after ≡ read.NoSuperblock (super.NoSuper 0)) ⊎ (reading after ≡ read.Sound p []))

-- so it is behind a call that a media fault cut, which only a mkfs may be: with the parameters that it asks for, of its host, on
-- the machine on which it began
abbrev pub CutCallReads : Call → Machines → State → Image → Type 0
CutCallReads (call.Makes name request) begun state after =
    AtNumber (number_of name begun) begun (λ h host. CutReads (asked request host.uuid (length begun.memory)) state after)
CutCallReads (call.Declares name uuid) begun state after = ⊥
CutCallReads (call.Begins name cmd) begun state after = ⊥
CutCallReads (call.Steps name) begun state after = ⊥
CutCallReads (call.Finishes name) begun state after = ⊥
CutCallReads (call.Stops name) begun state after = ⊥
CutCallReads (call.Halts name) begun state after = ⊥
CutCallReads (call.Umounts name) begun state after = ⊥
CutCallReads (call.Moves name line move) begun state after = ⊥
CutCallReads (call.Refuses name cause) begun state after = ⊥

-- so it is behind an event of a script that a media fault cut
abbrev pub CutEventReads : Event → Session → State → Image → Type 0
CutEventReads (event.Mkfs name request) begun state after =
    CutCallReads (call.Makes name request) begun.machines state after
CutEventReads (event.Host name uuid) begun state after = ⊥
CutEventReads (event.Begin name what) begun state after = ⊥
CutEventReads (event.Run name what) begun state after = ⊥
CutEventReads (event.Step name count) begun state after = ⊥
CutEventReads (event.Finish name) begun state after = ⊥
CutEventReads (event.Stop name) begun state after = ⊥
CutEventReads (event.Halt name) begun state after = ⊥
CutEventReads (event.Umount name) begun state after = ⊥
CutEventReads (event.Evict name line) begun state after = ⊥
CutEventReads (event.Leak name line mask) begun state after = ⊥
CutEventReads (event.Fetch name line mask) begun state after = ⊥

-- what the image reads as behind a run that ended so: as the journal settles; and behind a mkfs in which the media failed as
-- that mkfs, the last event of which something was done, leaves it
abbrev pub ReadsAfter : (ending : Ending) (files : Files) (events : List Event) (old : Session) (journal : List Note) (new : Session) → EventsDone ending files events old journal new → State → Image → Type 0
ReadsAfter AllDone files events old journal new done state after = ReadsAs state after
ReadsAfter MkfsFails files events old journal new done state after = CutEventReads done.event done.mid state after
ReadsAfter (SourceFails end) files events old journal new done state after = ReadsAs state after
ReadsAfter EndsOutOfMemory files events old journal new done state after = ReadsAs state after
ReadsAfter EndsOutOfMemoryBroken files events old journal new done state after = CutEventReads done.event done.mid state after
ReadsAfter SinkFails files events old journal new done state after = ReadsAs state after

-- The counts of a storm: answers, refusals, and the history's length at the end. That is 0 before the first mkfs that
-- succeeded.

-- the note is an answer; by the class of the note
abbrev pub is_answer_note_in : NoteClass → Bool
is_answer_note_in (Declared name uuid) = false
is_answer_note_in (Formatted host p) = false
is_answer_note_in (Going host) = false
is_answer_note_in (Answering host answer) = true
is_answer_note_in (Refusing name cause) = false

-- so of a note, by its class
abbrev pub is_answer_note : Note → Bool
is_answer_note note = is_answer_note_in (note_class note)

-- the note is a refusal; by the class of the note
abbrev pub is_refused_note_in : NoteClass → Bool
is_refused_note_in (Declared name uuid) = false
is_refused_note_in (Formatted host p) = false
is_refused_note_in (Going host) = false
is_refused_note_in (Answering host answer) = false
is_refused_note_in (Refusing name cause) = true

-- so of a note, by its class
abbrev pub is_refused_note : Note → Bool
is_refused_note note = is_refused_note_in (note_class note)

-- the note says that a file system was made; by the class of the note
abbrev pub is_made_note_in : NoteClass → Bool
is_made_note_in (Declared name uuid) = false
is_made_note_in (Formatted host p) = true
is_made_note_in (Going host) = false
is_made_note_in (Answering host answer) = false
is_made_note_in (Refusing name cause) = false

-- so of a note, by its class
abbrev pub is_made_note : Note → Bool
is_made_note note = is_made_note_in (note_class note)

-- the note ends the history before it: a file system was made, or its maker halted behind its first send
abbrev pub ends_history : Note → Bool
ends_history (Host name uuid) = false
ends_history (Made h p) = true
ends_history (Cut h k) = not (nat_lt k first_sent)
ends_history (Start h cmd) = false
ends_history (Mark h) = false
ends_history (Found h n) = false
ends_history (Writes h seq e) = false
ends_history (Answered h answer) = false
ends_history (Stop h) = false
ends_history (Halt h) = false
ends_history (Umount h) = false
ends_history (Refused name cause) = false

-- how many answers, refusals and settled entries there are
pub record Counted : Type 0 where
  pub answers : ℕ
  pub refused : ℕ
  pub settled : ℕ

-- the journal alone tells the state behind a mkfs, whatever the image was
abbrev pub counted : List Note → Counted
counted journal = record {
  answers = count_by is_answer_note journal;
  refused = count_by is_refused_note journal;
  settled = if list_any is_made_note journal then settled_length (past_of [] journal).state else 0;
}
