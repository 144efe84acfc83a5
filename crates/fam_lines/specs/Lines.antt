-- Which note a line tells. What a history doesn't tell of it stands as untold.
use Rattle.std.specs.Prelude.{replicate}
use Rattle.fam_base.specs.declared.cmd.Cmd.{Cmd}
use Rattle.fam_base.specs.declared.cmd.Cmd.TheVariants as cmd
use Rattle.fam_base.specs.declared.cmd.Content.TheVariants as content
use Rattle.fam_format.specs.Tree.{replay}
use Rattle.fam_history.specs.declared.command.ToldCommand.{ToldCommand}
use Rattle.fam_history.specs.declared.command.ToldCommand.TheVariants as told
use Rattle.fam_journal.specs.Notes as note
use Rattle.fam_journal.specs.Notes.{Answer, Note}
use Rattle.fam_rules.specs.Reply as reply
use Rattle.fam_judge.specs.Untold.{untold, untold_entry}
use Rattle.fam_lines.specs.declared.answer.HostAnswer.{HostAnswer}
use Rattle.fam_lines.specs.declared.answer.HostAnswer.TheVariants as given
use Rattle.fam_lines.specs.declared.line.Line.{Line}
use Rattle.fam_lines.specs.declared.line.Line.TheVariants as line

-- a command of which so much is told
abbrev pub untold_of : ToldCommand → Cmd
untold_of (told.Plain cmd) = cmd
untold_of (told.Cp path size attr stripe) = cmd.Cp path attr stripe (replicate size untold)
untold_of (told.VerifySource path count) = cmd.Verify path (content.Bytes (replicate count untold))
untold_of (told.Check count) = cmd.Check (replicate count untold_entry)

-- an answer; of a log that was played the tree of its entries
abbrev pub answer_of : HostAnswer → Answer
answer_of (given.Appended seq) = note.Replied (reply.Appended seq)
answer_of (given.NotAppended why) = note.Replied (reply.NotAppended why)
answer_of (given.Played m entries) = note.Replied (reply.Played m (replay entries.items))
answer_of (given.Mounted m) = note.Replied (reply.Mounted m)
answer_of (given.Same m) = note.Replied (reply.Same m)
answer_of (given.Differs m offset found wanted) = note.Replied (reply.Differs m offset found wanted)
answer_of (given.Length m size wanted) = note.Replied (reply.Length m size wanted)
answer_of (given.Bytes m bytes) = note.Replied (reply.Bytes m bytes)
answer_of (given.NotFound m) = note.Replied (reply.NotFound m)
answer_of (given.IsDirectory m) = note.Replied (reply.IsDirectory m)
answer_of (given.Checks m checked) = note.Replied (reply.Checks m checked)
answer_of (given.Reports report) = note.Replied (reply.Reports report)
answer_of (given.NoSuperblock fault) = note.Replied (reply.NoSuperblock fault)
answer_of (given.BadHeader fault) = note.Replied (reply.BadHeader fault)
answer_of (given.BadSlot seq why) = note.Replied (reply.BadSlot seq why)
answer_of (given.MediaFault at) = note.MediaFault at

-- the note of a line
abbrev pub note_of_line : Line → Note
note_of_line (line.Host name uuid) = note.Host name uuid
note_of_line (line.Made host p) = note.Made host p
note_of_line (line.Cut host k) = note.Cut host k
note_of_line (line.Start host cmd) = note.Start host (untold_of cmd)
note_of_line (line.Mark host) = note.Mark host
note_of_line (line.Found host n) = note.Found host n
note_of_line (line.Writes host seq entry) = note.Writes host seq entry
note_of_line (line.Answered host answer) = note.Answered host (answer_of answer)
note_of_line (line.Stop host) = note.Stop host
note_of_line (line.Halt host) = note.Halt host
note_of_line (line.Umount host) = note.Umount host
note_of_line (line.Refused name cause) = note.Refused name cause
