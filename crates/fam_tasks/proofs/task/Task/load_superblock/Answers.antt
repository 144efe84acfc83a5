use Rattle.std.proofs.Common.{rules}
use Rattle.fam_tasks.proofs.Slots.{slots_in}
use Rattle.fam_tasks.proofs.task.Task.load_superblock.Goals as goal

pub invariant_of-self-in-Ok : goal.invariant_of-self-in-Ok
invariant_of-self-in-Ok c = search (rules, slots_in)
