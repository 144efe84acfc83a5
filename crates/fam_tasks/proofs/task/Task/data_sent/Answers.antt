use Rattle.std.proofs.Common.{rules}
use Rattle.fam_tasks.proofs.Slots.{some_line}
use Rattle.fam_tasks.proofs.task.Task.data_sent.Goals as goal

pub invariant_of-self-else-line-lines_of : goal.invariant_of-self-else-line-lines_of
invariant_of-self-else-line-lines_of c = search (rules, some_line)
