-- A note of the code as a note of a journal.
use Rattle.std.specs.Prelude.{List, map}
use Rattle.fam_format.specs.declared.faults.SuperFault.TheVariants as super_fault
use Rattle.fam_format.specs.declared.faults.LogFault.TheVariants as log_fault
use Rattle.fam_rules.specs.declared.answers.Refused.TheVariants as refused
use Rattle.fam_rules.specs.Reply as reply
use Rattle.fam_tasks.specs.declared.answer.Answer.{Answer as Given}
use Rattle.fam_tasks.specs.declared.answer.Answer.TheVariants as given
use Rattle.fam_journal.specs.Notes.{Answer, Replied, MediaFault}
use Rattle.fam_journal.specs.Notes as journal
use Rattle.fam_notes.specs.Commands.{command_of}
use Rattle.fam_notes.specs.declared.note.Note.{Note}
use Rattle.fam_notes.specs.declared.note.Note.TheVariants as note

-- what an answer is in a journal: its reply, or the line at which the media failed
abbrev pub answer_view : Given → Answer
answer_view (given.Ok seq) = Replied (reply.Appended seq)
answer_view (given.Played m tree) = Replied (reply.Played m tree)
answer_view (given.Mounted m) = Replied (reply.Mounted m)
answer_view (given.Same m) = Replied (reply.Same m)
answer_view (given.Bytes m bytes) = Replied (reply.Bytes m bytes)
answer_view (given.Checked m checked) = Replied (reply.Checks m checked)
answer_view (given.Report report) = Replied (reply.Reports report)
answer_view (given.NoSuper word) = Replied (reply.NoSuperblock (super_fault.NoSuper word))
answer_view (given.BadSuper field found wanted) = Replied (reply.NoSuperblock (super_fault.BadSuper field found wanted))
answer_view (given.BadLog field found wanted) = Replied (reply.BadHeader (log_fault.BadLog field found wanted))
answer_view (given.BadEntry seq reason) = Replied (reply.BadSlot seq reason)
answer_view (given.NotMaster me master) = Replied (reply.NotAppended (refused.NotMaster me master))
answer_view (given.LongPath limit) = Replied (reply.NotAppended (refused.LongPath limit))
answer_view given.BadStripe = Replied (reply.NotAppended refused.BadStripe)
answer_view (given.Exists kind) = Replied (reply.NotAppended (refused.Exists kind))
answer_view given.NoParent = Replied (reply.NotAppended refused.NoParent)
answer_view given.ParentIsFile = Replied (reply.NotAppended refused.ParentIsFile)
answer_view (given.LogFull slots) = Replied (reply.NotAppended (refused.LogFull slots))
answer_view (given.NoSpace units) = Replied (reply.NotAppended (refused.NoSpace units))
answer_view (given.NotFound m) = Replied (reply.NotFound m)
answer_view (given.IsDirectory m) = Replied (reply.IsDirectory m)
answer_view (given.Differs m offset found wanted) = Replied (reply.Differs m offset found wanted)
answer_view (given.Length m size wanted) = Replied (reply.Length m size wanted)
answer_view (given.MediaFault line) = MediaFault line.0

-- the note of a journal that a note stands for
abbrev pub note_view : Note → journal.Note
note_view (note.Host name uuid) = journal.Host name uuid
note_view (note.Made host params) = journal.Made host.0 params
note_view (note.Cut host k) = journal.Cut host.0 k
note_view (note.Start host cmd) = journal.Start host.0 (command_of cmd)
note_view (note.Mark host) = journal.Mark host.0
note_view (note.Found host n) = journal.Found host.0 n
note_view (note.Writes host seq entry) = journal.Writes host.0 seq entry
note_view (note.Answered host answer) = journal.Answered host.0 (answer_view answer)
note_view (note.Stop host) = journal.Stop host.0
note_view (note.Halt host) = journal.Halt host.0
note_view (note.Umount host) = journal.Umount host.0
note_view (note.Refused name cause) = journal.Refused name cause

-- the journal that notes stand for
abbrev pub notes_view : List Note → List journal.Note
notes_view notes = map note_view notes
