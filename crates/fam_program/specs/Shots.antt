-- What is put of a command of its own, and for which lines of it no memory is wanted.
use Rattle.std.specs.Prelude.{ℕ, ◌≡◌, ◌⊎◌, ◌++◌, Bool, true, false, List, codes, Result, Ok, Err}
use Rattle.fam_media.specs.States.{SinkChange}
use Rattle.fam_rules.specs.Reply as reply
use Rattle.fam_journal.specs.declared.refusal.Refusal.{Refusal}
use Rattle.fam_journal.specs.declared.refusal.Refusal.TheVariants as why
use Rattle.fam_outcomes.specs.declared.status.Status.{Status}
use Rattle.fam_outcomes.specs.declared.status.Status.TheVariants as status
use Rattle.fam_journal.specs.Notes.{Answer, Replied, MediaFault, Note}
use Rattle.fam_outcomes.specs.Programs.{last_passes, memory_line}
use Rattle.fam_outcomes.specs.Texts.{line, number, shown}
use Rattle.fam_events.specs.declared.fault.EventFault.{EventFault}
use Rattle.fam_events.specs.declared.fault.EventFault.TheVariants as fault
use Rattle.fam_program.specs.declared.numbers.NumberLine.{NumberLine}
use Rattle.fam_program.specs.declared.numbers.NumberLine.TheVariants as by
use Rattle.fam_program.specs.Puts.{EndSays, Put}
use Rattle.fam_journal.specs.NoteClasses.{NoteClass, note_class, Declared, Formatted, Going, Answering, Refusing}

-- Last notes for whose line no memory is wanted: an entry is appended, or the media failed.

-- an answer whose text has one number alone
abbrev pub is_short_answer : Answer → Bool
is_short_answer (Replied (reply.Appended seq)) = true
is_short_answer (Replied given) = false
is_short_answer (MediaFault at) = true

-- a refusal whose text has one number alone
abbrev pub is_short_cause : Refusal → Bool
is_short_cause (why.MediaFault at) = true
is_short_cause cause = false

-- a note whose text has one number alone; by the class of the note
abbrev pub is_short_in : NoteClass → Bool
is_short_in (Declared name uuid) = false
is_short_in (Formatted host p) = false
is_short_in (Going host) = false
is_short_in (Answering host answer) = is_short_answer answer
is_short_in (Refusing name cause) = is_short_cause cause

-- so of a note, by its class
abbrev pub is_short : Note → Bool
is_short note = is_short_in (note_class note)

-- such a line: words, and a number
abbrev pub number_text : NumberLine → List ℕ
number_text (by.Appended seq) = line (codes "ok" ++ number seq)
number_text (by.Fault at) = line (codes "media fault" ++ number at)
number_text (by.MakeFault at) = line (codes "refused media fault" ++ number at)
number_text (by.Copied count) = line (codes "dup" ++ number count)
number_text (by.FromFault at) = line (codes "media fault from" ++ number at)
number_text (by.ToFault at) = line (codes "media fault to" ++ number at)

-- the last note, without its host's name; or that no memory is left for a line that wants some
abbrev pub LastSays : Status → List Note → SinkChange → Status → Type 0
LastSays own journal s given =
    Put own (shown journal) s given ⊎ (Put status.OutOfMemory memory_line s given × (last_passes is_short journal ≡ false))

-- by how the run has ended; with this status where all was done
abbrev pub ShotSays : Result (Unit {0}) EventFault → Status → List Note → SinkChange → Status → Type 0
ShotSays (Ok x) own journal s given = LastSays own journal s given
ShotSays (Err fault.MkfsFailed) own journal s given = LastSays status.MediaFault journal s given
ShotSays (Err (fault.SourceEnded end)) own journal s given = EndSays end s given
ShotSays (Err fault.OutOfMemory) own journal s given = Put status.OutOfMemory memory_line s given
