-- Operations of a task that are done as a whole: those that leave memory's image, and one behind them.
use Rattle.std.specs.Prelude.{◌≡◌, ◌<◌, Option, Result, Ok, Err}
use Rattle.fam_base.specs.Image.{Image}
use Rattle.fam_base.specs.declared.line.LineNo.{LineNo}
use Rattle.fam_machine.specs.Caches.{Cache}
use Rattle.fam_machine.specs.Cuts.{HasFailed}
use Rattle.fam_machine.specs.Operations.{IsWithin, machine}
use Rattle.fam_cache.specs.declared.fault.OperationFault.{OperationFault}
use Rattle.fam_cache.specs.declared.fault.OperationFault.TheVariants as fault
use Rattle.fam_cache.specs.Operations.{LeavesCache, LeavesFailed}
use Rattle.fam_commands.specs.Task.{Task, op_of}
use Rattle.fam_media.specs.Causes.{Rose}
use Rattle.fam_media.specs.Outside.{IfModelled}
use Rattle.fam_tasks.specs.declared.answer.Turn.{Turn}
use Rattle.fam_tasks.specs.declared.answer.Turn.TheVariants.{Go}
use Rattle.fam_tasks.specs.Sound.{IsSound}
use Rattle.fam_run.specs.Operation.{GoesOn, HasTurned, IsNoFault, IsUndone, KeepsLog}
use Rattle.fam_run.specs.TaskChange.{TaskChange}

-- one operation that leaves memory's image, behind which the task just goes on
pub record KeepsMemory (modelled : Option Image) (task : Task) (held : Cache) (next : Task) (after : Cache) : Type 0 where
  pub sound : IsSound task
  pub within : IsWithin task.lines (op_of task)
  pub leaves : LeavesCache (op_of task) modelled held after
  pub goes : GoesOn task after Go next
  pub turned : IfModelled modelled (λ image. HasTurned task (machine image held) Go next modelled after)

-- the task and its host's cache, and what such operations leave of both
pub data Led (modelled : Option Image) : Task → Cache → Task → Cache → Type 0 where
  none : {task : Task} {held : Cache} → Led modelled task held task held
  more : {task mid next : Task} {held now after : Cache} → Led modelled task held mid now → KeepsMemory modelled mid now next after → Led modelled task held next after

-- behind such operations one more was done, and with it the task takes this turn
pub record HasDone (a : TaskChange) (turn : Turn) : Type 0 where
  pub task : Task
  pub held : Cache
  pub led : Led a.media.old.image a.task a.old task held
  pub sound : IsSound task
  pub within : IsWithin task.lines (op_of task)
  pub leaves : LeavesCache (op_of task) a.media.old.image held a.new
  pub goes : GoesOn task a.new turn a.next
  pub kept : KeepsLog task a.new a.next
  pub turned : IfModelled a.media.old.image (λ image. HasTurned task (machine image held) turn a.next a.media.new.image a.new)
  pub own : IsNoFault turn

-- behind such operations the media failed in one more, at this line. The task keeps what it kept before that
pub record HasBrokenOff (a : TaskChange) (line : LineNo) : Type 0 where
  pub task : Task
  pub held : Cache
  pub led : Led a.media.old.image a.task a.old task held
  pub sound : IsSound task
  pub within : IsWithin task.lines (op_of task)
  pub kept : a.next.kept ≡ task.kept
  pub copies : LeavesFailed (op_of task) held a.new
  pub failed : IfModelled a.media.old.image (λ image. HasFailed (op_of task) (machine image held) line a.media.new.image a.new)
  pub rose : Rose a.media.old.faults a.media.new.faults
  pub inside : line.0 < a.lines

-- what came of operations that are done as a whole
abbrev pub Advanced : TaskChange → Result Turn OperationFault → Type 0
Advanced a (Ok turn) = HasDone a turn
Advanced a (Err (fault.MediaFault line)) = HasBrokenOff a line
Advanced a (Err fault.OutOfMemory) = IsUndone a
