-- Statuses: their numbers, and that of an answer, of a refusal and of a note alone. docs/MANUAL.md, "Statuses".
use Rattle.std.specs.Prelude.{ℕ, Bool, true, false, ◌==◌, ◌&&◌, if◌then◌else◌, List, [], ◌∷◌}
use Rattle.fam_base.specs.declared.entry.Kind.{Kind}
use Rattle.fam_base.specs.declared.entry.Kind.TheVariants as kind
use Rattle.fam_rules.specs.declared.answers.Checked.{Checked}
use Rattle.fam_rules.specs.declared.answers.Refused.{Refused as Cause}
use Rattle.fam_rules.specs.declared.answers.Refused.TheVariants as cause
use Rattle.fam_rules.specs.Reply as reply
use Rattle.fam_rules.specs.Reply.{Reply}
use Rattle.fam_journal.specs.declared.refusal.Refusal.{Refusal}
use Rattle.fam_journal.specs.declared.refusal.Refusal.TheVariants as why
use Rattle.fam_outcomes.specs.declared.status.Status.{Status}
use Rattle.fam_outcomes.specs.declared.status.Status.TheVariants as status
use Rattle.fam_journal.specs.Notes.{Answer, Replied, MediaFault, Note}
use Rattle.fam_outcomes.specs.Texts.{is_sound_report}
use Rattle.fam_journal.specs.NoteClasses.{NoteClass, note_class, Declared, Formatted, Going, Answering, Refusing}
use Rattle.fam_commands.specs.ReplyClasses.{ReplyClass, reply_class, Appending, Declining, Showing, Reporting, Faulty}

-- 0 alone is success
abbrev pub status_number : Status → ℕ
status_number status.Done = 0
status_number status.Refused = 1
status_number status.Usage = 2
status_number status.BadScript = 3
status_number status.MediaFault = 4
status_number status.SourceFault = 5
status_number status.SinkFault = 6
status_number status.OutOfMemory = 7
status_number status.Damaged = 8
status_number status.ShadeFault = 10

-- a status is that of success
abbrev pub is_done : Status → Bool
is_done status.Done = true
is_done status.Refused = false
is_done status.Usage = false
is_done status.BadScript = false
is_done status.MediaFault = false
is_done status.SourceFault = false
is_done status.SinkFault = false
is_done status.OutOfMemory = false
is_done status.Damaged = false
is_done status.ShadeFault = false

-- nothing is missing, and nothing is extra or changed
abbrev pub is_checked_equal : Checked → Bool
is_checked_equal c = (c.missing == 0) && (c.extra == 0) && (c.changed == 0)

-- what was looked at is as it should be, or not
abbrev pub sound_status : Bool → Status
sound_status true = status.Done
sound_status false = status.Damaged

-- of an answer alone
abbrev pub reply_status : Reply → Status
reply_status (reply.Appended seq) = status.Done
reply_status (reply.NotAppended refused) = status.Refused
reply_status (reply.Played m tree) = status.Done
reply_status (reply.Mounted m) = status.Done
reply_status (reply.Same m) = status.Done
reply_status (reply.Differs m offset found wanted) = status.Damaged
reply_status (reply.Length m size wanted) = status.Damaged
reply_status (reply.Bytes m bytes) = status.Done
reply_status (reply.NotFound m) = status.Refused
reply_status (reply.IsDirectory m) = status.Refused
reply_status (reply.Checks m checked) = sound_status (is_checked_equal checked)
reply_status (reply.Reports report) = sound_status (is_sound_report report)
reply_status (reply.NoSuperblock fault) = status.Damaged
reply_status (reply.BadHeader fault) = status.Damaged
reply_status (reply.BadSlot seq reason) = status.Damaged

-- of an answer alone, also where the media failed
abbrev pub answer_status : Answer → Status
answer_status (Replied given) = reply_status given
answer_status (MediaFault at) = status.MediaFault

-- of a refusal alone
abbrev pub cause_status : Refusal → Status
cause_status why.NoHost = status.Refused
cause_status (why.SameHost host) = status.Refused
cause_status why.TooManyHosts = status.Refused
cause_status (why.BadGeometry unit log) = status.Refused
cause_status (why.TooSmall need have) = status.Refused
cause_status (why.ImageSmall lines) = status.Damaged
cause_status (why.Busy host) = status.Refused
cause_status (why.Dirty host) = status.Refused
cause_status (why.HasSuper uuid) = status.Refused
cause_status why.Idle = status.Refused
cause_status why.Mounted = status.Refused
cause_status why.NotMounted = status.Refused
cause_status (why.NoLine at lines) = status.Refused
cause_status (why.NoFile name) = status.Refused
cause_status (why.CopyLimit sum) = status.Refused
cause_status (why.BadListing at) = status.Refused
cause_status (why.MediaFault at) = status.MediaFault

-- of a note alone: what isn't an answer or a refusal is as it should be; by the class of the note
abbrev pub note_status_in : NoteClass → Status
note_status_in (Declared name uuid) = status.Done
note_status_in (Formatted host p) = status.Done
note_status_in (Going host) = status.Done
note_status_in (Answering host answer) = answer_status answer
note_status_in (Refusing name cause) = cause_status cause

-- so of a note, by its class
abbrev pub note_status : Note → Status
note_status note = note_status_in (note_class note)

-- of the last note
abbrev pub last_status : List Note → Status
last_status [] = status.Done
last_status (note ∷ []) = note_status note
last_status (note ∷ next ∷ notes) = last_status (next ∷ notes)

-- every note alone has the status Done; a refusal never has
abbrev pub is_good : List Note → Bool
is_good [] = true
is_good (note ∷ notes) = is_done (note_status note) && is_good notes

-- of events that were run to their end
abbrev pub good_status : Bool → Status
good_status true = status.Done
good_status false = status.Refused

-- Where directories are made along a path: an entry that is appended, and a directory that is there already, let it go on.

-- a file in the place of a directory stops it
abbrev pub kind_stops : Kind → Bool
kind_stops kind.File = true
kind_stops kind.Directory = false

-- a refusal stops it, but that a directory is there
abbrev pub refusal_stops : Cause → Bool
refusal_stops (cause.NotMaster me master) = true
refusal_stops (cause.LongPath limit) = true
refusal_stops cause.BadStripe = true
refusal_stops (cause.Exists found) = kind_stops found
refusal_stops cause.NoParent = true
refusal_stops cause.ParentIsFile = true
refusal_stops (cause.LogFull slots) = true
refusal_stops (cause.NoSpace units) = true

-- a reply stops it, but that of an append; by the class of the reply
abbrev pub reply_stops_in : ReplyClass → Bool
reply_stops_in (Appending seq) = false
reply_stops_in (Declining refused) = refusal_stops refused
reply_stops_in (Showing m) = true
reply_stops_in (Reporting report) = true
reply_stops_in Faulty = true

-- so of a reply, by its class
abbrev pub reply_stops : Reply → Bool
reply_stops given = reply_stops_in (reply_class given)

-- an answer stops it where its reply does, or where the media failed
abbrev pub answer_stops : Answer → Bool
answer_stops (Replied given) = reply_stops given
answer_stops (MediaFault at) = true

-- no run comes behind this note; by the class of the note
abbrev pub note_stops_in : NoteClass → Bool
note_stops_in (Declared name uuid) = false
note_stops_in (Formatted host p) = false
note_stops_in (Going host) = false
note_stops_in (Answering host answer) = answer_stops answer
note_stops_in (Refusing name cause) = true

-- so of a note, by its class
abbrev pub note_stops : Note → Bool
note_stops note = note_stops_in (note_class note)

-- no run comes behind the last note
abbrev pub last_stops : List Note → Bool
last_stops [] = false
last_stops (note ∷ []) = note_stops note
last_stops (note ∷ next ∷ notes) = last_stops (next ∷ notes)

-- the status of such a run: that the last directory is there already is no refusal
abbrev pub parents_status : List Note → Status
parents_status notes = if last_stops notes then last_status notes else status.Done
