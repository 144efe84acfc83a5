use Rattle.fam_tasks.proofs.Keeping.{ended_task}
use Rattle.fam_tasks.proofs.task.Task.check.Goals as goal

pub invariant_of-self : goal.invariant_of-self
invariant_of-self c =
    let sound = c.self.invariant.sound in
    ended_task _ c.done.ensures.last sound.command sound.least sound.most sound.kept
