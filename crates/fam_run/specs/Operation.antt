-- What one operation of a task does to its task, to its host's cache and to memory.
use Rattle.std.specs.Prelude.{◌≡◌, ◌≢◌, ◌<◌, Option, Some, None, Result, Ok, Err}
use Rattle.fam_base.specs.Image.{Image}
use Rattle.fam_base.specs.declared.line.LineNo.{LineNo}
use Rattle.fam_machine.specs.Caches.{Cache}
use Rattle.fam_machine.specs.Cuts.{HasFailed, IsMachine}
use Rattle.fam_machine.specs.Operations.{IsWithin, Machine, operated, given, machine}
use Rattle.fam_media.specs.Causes.{Rose}
use Rattle.fam_media.specs.Outside.{IfModelled}
use Rattle.fam_cache.specs.declared.fault.OperationFault.{OperationFault}
use Rattle.fam_cache.specs.declared.fault.OperationFault.TheVariants as fault
use Rattle.fam_cache.specs.Operations.{IsAtLine, LeavesCache, LeavesFailed, word_of}
use Rattle.fam_commands.specs.Task.{Task, op_of}
use Rattle.fam_commands.specs.Turns.{turn_of}
use Rattle.fam_tasks.specs.declared.answer.Answer.{Answer}
use Rattle.fam_tasks.specs.declared.answer.Answer.TheVariants.{MediaFault}
use Rattle.fam_tasks.specs.declared.answer.Turn.{Turn}
use Rattle.fam_tasks.specs.declared.answer.Turn.TheVariants.{Go, Note, Done}
use Rattle.fam_tasks.specs.Sound.{IsSound}
use Rattle.fam_tasks.specs.Tells.{Keeps, Tells}
use Rattle.fam_run.specs.TaskChange.{TaskChange}

-- the operation was done on this machine: memory and cache are what it leaves, and the task went on to `new`, saying `turn`
pub record HasTurned (task : Task) (m : Machine) (turn : Turn) (new : Task) (shown : Option Image) (held : Cache) : Type 0 where
  pub is : IsMachine (operated (op_of task) m) shown held
  pub tells : Tells (turn_of task (given (op_of task) m)) turn new

-- over any media: the task goes on by the word of the copy that its host has then
abbrev pub GoesOn : Task → Cache → Turn → Task → Type 0
GoesOn task held turn new = Tells (turn_of task (word_of (op_of task) held)) turn new

-- and what it keeps of the log is what its host keeps behind that
abbrev pub KeepsLog : Task → Cache → Task → Type 0
KeepsLog task held new = Keeps task (turn_of task (word_of (op_of task) held)) new

-- no task answers that the media failed
abbrev pub IsNoFault : Turn → Type 0
IsNoFault turn = (line : LineNo) → turn ≢ Done (MediaFault line)

-- the answer with which a command ends, where it ends with this turn
abbrev pub ended : Turn → Option Answer
ended Go = None
ended (Note note) = None
ended (Done given) = Some given

-- a task that goes on is on an image of as many lines
abbrev pub KeepsLines : Turn → Task → Task → Type 0
KeepsLines turn task new = ended turn ≡ None → new.lines ≡ task.lines

-- the operation that comes next was done, and with it the task takes this turn. Where an image is modelled, memory, cache
-- and task are what the machine makes of them (`turned`). On any media the cache is what the machine's table makes of the
-- operation's line (`leaves`), and the task goes on by the word of the copy (`goes`), and keeps what its host keeps (`kept`)
pub record IsDone (a : TaskChange) (turn : Turn) : Type 0 where
  pub sound : IsSound a.task
  pub within : IsWithin a.task.lines (op_of a.task)
  pub leaves : LeavesCache (op_of a.task) a.media.old.image a.old a.new
  pub goes : GoesOn a.task a.new turn a.next
  pub keeps : KeepsLines turn a.task a.next
  pub kept : KeepsLog a.task a.new a.next
  pub turned : IfModelled a.media.old.image (λ image. HasTurned a.task (machine image a.old) turn a.next a.media.new.image a.new)
  pub own : IsNoFault turn

-- the media failed in it, at this line: the operation's, or one that a fence sends. The task still stands before it
pub record IsBroken (a : TaskChange) (line : LineNo) : Type 0 where
  pub sound : IsSound a.task
  pub within : IsWithin a.task.lines (op_of a.task)
  pub task : a.next ≡ a.task
  pub copies : LeavesFailed (op_of a.task) a.old a.new
  pub failed : IfModelled a.media.old.image (λ image. HasFailed (op_of a.task) (machine image a.old) line a.media.new.image a.new)
  pub at : IsAtLine (op_of a.task) line a.old
  pub inside : line.0 < a.lines
  pub rose : Rose a.media.old.faults a.media.new.faults

-- nothing was done
pub record IsUndone (a : TaskChange) : Type 0 where
  pub task : a.next ≡ a.task
  pub cache : a.new ≡ a.old
  pub media : a.media.new ≡ a.media.old

-- what is said of operations: the turn that the task takes, or the fault
abbrev pub said_of : Result (Unit {0}) OperationFault → Turn → Result Turn OperationFault
said_of (Ok done) turn = Ok turn
said_of (Err fault) turn = Err fault

-- what came of one operation
abbrev pub Operated : TaskChange → Result Turn OperationFault → Type 0
Operated a (Ok turn) = IsDone a turn
Operated a (Err (fault.MediaFault line)) = IsBroken a line
Operated a (Err fault.OutOfMemory) = IsUndone a
