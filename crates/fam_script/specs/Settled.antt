-- How much of a history is settled: what is left of the states of fam_journal's `specs/Past.antt` where lengths alone count.
use Rattle.std.specs.Prelude.{ℕ, ◌+◌, ◌==◌, nat_lt, true, false, if◌then◌else◌, List, [], ◌∷◌, Option, Some, None}
use Rattle.fam_journal.specs.Notes.{Answer, Replied, MediaFault, Note, Host, Made, Cut, Start, Mark, Found, Writes, Answered, Stop, Halt, Umount, Refused}
use Rattle.fam_machine.specs.Mkfs.{first_sent}
use Rattle.fam_rules.specs.declared.answers.LogState.{LogState}
use Rattle.fam_rules.specs.declared.answers.LogState.TheVariants as log
use Rattle.fam_rules.specs.Reply.{Reply}
use Rattle.fam_script.specs.declared.counts.Settled.{Settled}
use Rattle.fam_journal.specs.NoteClasses.{NoteClass, note_class, Declared, Formatted, Going, Answering, Refusing}
use Rattle.fam_commands.specs.ReplyClasses.{ReplyClass, reply_class, Appending, Declining, Showing, Reporting, Faulty}

-- nothing is settled
abbrev pub empty : Settled
empty = record { length = 0; pending = false }

-- the pending entry joins the settled ones
abbrev pub length_joined : Settled → Settled
length_joined s = record { length = if s.pending then s.length + 1 else s.length; pending = false }

-- the first m entries were shown
abbrev pub length_shown : ℕ → Settled → Settled
length_shown m s = if m == s.length + 1 then length_joined s else s

-- the master found n entries
abbrev pub length_found : ℕ → Settled → Settled
length_found n s = if n == s.length then record { length = s.length; pending = false } else length_shown n s

-- entry seq is acknowledged
abbrev pub length_acknowledged : ℕ → Settled → Settled
length_acknowledged seq s = if seq == s.length then length_joined s else s

-- a report was made of a log
abbrev pub reports : LogState → Settled → Settled
reports (log.Sound entries slots) s = length_shown entries s
reports (log.BadLog field found wanted) s = s
reports log.Unread s = s

-- a task replied; by the class of the reply
abbrev pub length_replied_in : ReplyClass → Settled → Settled
length_replied_in (Appending seq) s = length_acknowledged seq s
length_replied_in (Declining refused) s = s
length_replied_in (Showing m) s = length_shown m s
length_replied_in (Reporting report) s = reports report.log s
length_replied_in Faulty s = s

-- so of a reply, by its class
abbrev pub length_replied : Reply → Settled → Settled
length_replied given s = length_replied_in (reply_class given) s

-- a task ended
abbrev pub answered : Answer → Settled → Settled
answered (Replied given) s = length_replied given s
answered (MediaFault line) s = s

-- the maker of a file system halted after so many operations: behind its first send there is none
abbrev pub length_cut : ℕ → Settled → Option Settled
length_cut k s = if nat_lt k first_sent then Some s else None

-- behind a note, where a file system was made before
abbrev pub continued : Note → Settled → Option Settled
continued (Host name uuid) s = Some s
continued (Made h p) s = Some empty
continued (Cut h k) s = length_cut k s
continued (Start h cmd) s = Some s
continued (Mark h) s = Some s
continued (Found h n) s = Some (length_found n s)
continued (Writes h seq e) s = Some (record { length = s.length; pending = true })
continued (Answered h answer) s = Some (answered answer s)
continued (Stop h) s = Some s
continued (Halt h) s = Some s
continued (Umount h) s = Some s
continued (Refused name cause) s = Some s

-- or not; by the class of the note
abbrev pub begun_in : NoteClass → Option Settled
begun_in (Declared name uuid) = None
begun_in (Formatted h p) = Some empty
begun_in (Going h) = None
begun_in (Answering h answer) = None
begun_in (Refusing name cause) = None

-- so of a note, by its class
abbrev pub begun : Note → Option Settled
begun note = begun_in (note_class note)

-- behind one note
abbrev pub length_after : Note → Option Settled → Option Settled
length_after note None = begun note
length_after note (Some s) = continued note s

-- behind some notes
abbrev pub settled_behind : Option Settled → List Note → Option Settled
settled_behind o [] = o
settled_behind o (note ∷ notes) = settled_behind (length_after note o) notes
