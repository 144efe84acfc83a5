use Rattle.std.proofs.Common.{rules}
use Rattle.fam_format.proofs.Formats.{shape}
use Rattle.fam_tasks.proofs.task.Task.take_line_of_slot.Goals as goal

pub invariant_of-self : goal.invariant_of-self
invariant_of-self c = search (rules, shape c.self.inside.params)

pub invariant_of-self-else-number-lines : goal.invariant_of-self-else-number-lines
invariant_of-self-else-number-lines c = search (rules, shape c.self.inside.params)
