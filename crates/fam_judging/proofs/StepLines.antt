-- A line that a history's text tells as a whole is one that is judged.
use Rattle.std.proofs.Common.{List}
use Rattle.fam_lines.specs.Behind.{IsEntireAnswer, IsEntireNote}
use Rattle.fam_lines.specs.declared.answer.HostAnswer.{HostAnswer}
use Rattle.fam_lines.specs.declared.answer.HostAnswer.TheVariants as given
use Rattle.fam_lines.specs.declared.host.SeenHost.{SeenHost}
use Rattle.fam_lines.specs.declared.line.Line.{Line}
use Rattle.fam_lines.specs.declared.line.Line.TheVariants as line
use Rattle.fam_lines.specs.Lines.{answer_of, note_of_line}
use Rattle.fam_lines.specs.Rising.{ListsRising, RisesIn}
use Rattle.fam_judging.specs.StepLines.{IsStepAnswer, IsStepLine}

-- an answer
step_answer : (a : HostAnswer) → RisesIn a → IsEntireAnswer (answer_of a) → IsStepAnswer a
step_answer (given.Played m entries) rises entire = rises
step_answer (given.Checks m counts) rises entire = entire
step_answer (given.Appended seq) rises entire = tt
step_answer (given.NotAppended why) rises entire = tt
step_answer (given.Mounted m) rises entire = tt
step_answer (given.Same m) rises entire = tt
step_answer (given.Differs m offset found wanted) rises entire = tt
step_answer (given.Length m size wanted) rises entire = tt
step_answer (given.Bytes m bytes) rises entire = tt
step_answer (given.NotFound m) rises entire = tt
step_answer (given.IsDirectory m) rises entire = tt
step_answer (given.Reports report) rises entire = tt
step_answer (given.NoSuperblock fault) rises entire = tt
step_answer (given.BadHeader fault) rises entire = tt
step_answer (given.BadSlot seq why) rises entire = tt
step_answer (given.MediaFault at) rises entire = tt

-- a line
pub step_line : (hosts : List SeenHost) (l : Line) → ListsRising l → IsEntireNote hosts (note_of_line l) → IsStepLine l
step_line hosts (line.Answered h answer) rises entire = step_answer answer rises entire
step_line hosts (line.Host name uuid) rises entire = tt
step_line hosts (line.Made h p) rises entire = tt
step_line hosts (line.Cut h k) rises entire = tt
step_line hosts (line.Start h cmd) rises entire = tt
step_line hosts (line.Mark h) rises entire = tt
step_line hosts (line.Found h n) rises entire = tt
step_line hosts (line.Writes h seq e) rises entire = tt
step_line hosts (line.Stop h) rises entire = tt
step_line hosts (line.Halt h) rises entire = tt
step_line hosts (line.Umount h) rises entire = tt
step_line hosts (line.Refused name why) rises entire = tt
