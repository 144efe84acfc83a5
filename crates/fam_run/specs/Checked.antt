-- The words of a slot that were looked at, where memory was found for that.
use Rattle.std.specs.Prelude.{◌≡◌}
use Rattle.fam_tasks.specs.declared.answer.Turn.{Turn}
use Rattle.fam_tasks.specs.declared.answer.Turn.TheVariants.{Go}
use Rattle.fam_run.specs.Operation.{IsDone}
use Rattle.fam_run.specs.TaskChange.{TaskChange}

-- one operation was done, with which the task takes this turn, or none
pub data IsChecked (a : TaskChange) (turn : Turn) : Type 0 where
  did : IsDone a turn → IsChecked a turn
  did_not : a.next ≡ a.task → turn ≡ Go → IsChecked a turn
