-- What a host's task says, as notes of a journal.
use Rattle.std.specs.Prelude.{ℕ, ◌≡◌, Bool, true, false, List, [], ◌∷◌, ◌++◌, Option, None, Result, Ok, Err}
use Rattle.fam_base.specs.declared.line.OutOfMemory.{OutOfMemory}
use Rattle.fam_cache.specs.declared.fault.OperationFault.{OperationFault}
use Rattle.fam_cache.specs.declared.fault.OperationFault.TheVariants as fault
use Rattle.fam_commands.specs.Task as spec
use Rattle.fam_notes.specs.Notes.{answer_view}
use Rattle.fam_tasks.specs.declared.answer.TaskNote.{TaskNote}
use Rattle.fam_tasks.specs.declared.answer.TaskNote.TheVariants as says
use Rattle.fam_tasks.specs.declared.answer.Turn.{Turn}
use Rattle.fam_tasks.specs.declared.answer.Turn.TheVariants as turn
use Rattle.fam_journal.specs.Notes.{Note, Mark, Found, Writes, Answered, MediaFault}
use Rattle.fam_world.specs.declared.fault.Moved.{Moved}
use Rattle.fam_world.specs.declared.fault.Moved.TheVariants.{Going, Answered as Over}

-- a note of the task of host h
abbrev pub task_note : ℕ → TaskNote → Note
task_note h says.Mark = Mark h
task_note h (says.Found n) = Found h n
task_note h (says.Writes seq e) = Writes h seq e

-- what a turn notes
abbrev pub turn_notes : ℕ → Turn → List Note
turn_notes h turn.Go = []
turn_notes h (turn.Note note) = task_note h note ∷ []
turn_notes h (turn.Done answer) = Answered h (answer_view answer) ∷ []

-- the task behind it, of one that is this now where it goes on
abbrev pub task_left_by : Turn → Option spec.Task → Option spec.Task
task_left_by turn.Go task = task
task_left_by (turn.Note note) task = task
task_left_by (turn.Done answer) task = None

-- whether a task that takes it is over
abbrev pub ends_task : Turn → Bool
ends_task turn.Go = false
ends_task (turn.Note note) = false
ends_task (turn.Done answer) = true

-- the same, as a step says it
abbrev pub moved_by : Turn → Moved
moved_by turn.Go = Going
moved_by (turn.Note note) = Going
moved_by (turn.Done answer) = Over

-- what came of operations of the task of host h is noted, and this is what is said of it
abbrev pub IsNoted : ℕ → Result Turn OperationFault → List Note → List Note → Result Moved OutOfMemory → Type 0
IsNoted h (Ok said) old new result = (new ≡ old ++ turn_notes h said) × (result ≡ Ok (moved_by said))
IsNoted h (Err (fault.MediaFault line)) old new result = (new ≡ old ++ Answered h (MediaFault line.0) ∷ []) × (result ≡ Ok Over)
IsNoted h (Err fault.OutOfMemory) old new result = (new ≡ old) × (result ≡ Err record {})
