-- What is known of a line before it is judged: where the text of an answer tells entries or counts, it tells all of them.
use Rattle.std.specs.Prelude.{⊤, ◌≡◌, None, true}
use Rattle.fam_lines.specs.Behind.{NamesFirst}
use Rattle.fam_lines.specs.declared.answer.HostAnswer.{HostAnswer}
use Rattle.fam_lines.specs.declared.answer.HostAnswer.TheVariants as given
use Rattle.fam_lines.specs.declared.line.Line.{Line}
use Rattle.fam_lines.specs.declared.line.Line.TheVariants as line
use Rattle.fam_lines.specs.Resolved.{rise_behind}

-- the entries of a tree stand by rising paths, and a check names a first path just where some path differs
abbrev pub IsStepAnswer : HostAnswer → Type 0
IsStepAnswer (given.Appended seq) = ⊤
IsStepAnswer (given.NotAppended why) = ⊤
IsStepAnswer (given.Played m entries) = rise_behind None entries.items ≡ true
IsStepAnswer (given.Mounted m) = ⊤
IsStepAnswer (given.Same m) = ⊤
IsStepAnswer (given.Differs m offset found wanted) = ⊤
IsStepAnswer (given.Length m size wanted) = ⊤
IsStepAnswer (given.Bytes m bytes) = ⊤
IsStepAnswer (given.NotFound m) = ⊤
IsStepAnswer (given.IsDirectory m) = ⊤
IsStepAnswer (given.Checks m checked) = NamesFirst checked
IsStepAnswer (given.Reports report) = ⊤
IsStepAnswer (given.NoSuperblock fault) = ⊤
IsStepAnswer (given.BadHeader fault) = ⊤
IsStepAnswer (given.BadSlot seq why) = ⊤
IsStepAnswer (given.MediaFault at) = ⊤

-- so of a line
abbrev pub IsStepLine : Line → Type 0
IsStepLine (line.Host name uuid) = ⊤
IsStepLine (line.Made h p) = ⊤
IsStepLine (line.Cut h k) = ⊤
IsStepLine (line.Start h cmd) = ⊤
IsStepLine (line.Mark h) = ⊤
IsStepLine (line.Found h n) = ⊤
IsStepLine (line.Writes h seq e) = ⊤
IsStepLine (line.Answered h answer) = IsStepAnswer answer
IsStepLine (line.Stop h) = ⊤
IsStepLine (line.Halt h) = ⊤
IsStepLine (line.Umount h) = ⊤
IsStepLine (line.Refused name why) = ⊤
