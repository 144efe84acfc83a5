use Rattle.std.proofs.Common.{ap, sym, subst, ◌∙◌}
use Rattle.std.specs.Prelude.{IsSome}
use Rattle.fam_rules.specs.Decide.{wish_of}
use Rattle.fam_commands.specs.Kept.{IsKept}
use Rattle.fam_commands.specs.Task.{Task}
use Rattle.fam_tasks.proofs.Deciding.{decided_task, wishes_other}
use Rattle.fam_tasks.proofs.Keeping.{ended_task}
use Rattle.fam_tasks.proofs.task.Task.append.Goals as goal

pub invariant_of-self : goal.invariant_of-self
invariant_of-self c =
    decided_task c.self.inside c.decide.new.self c.self.invariant (ap (λ (u : Task). u.phase) c.self.view_is ∙ c.requires.phase)
    (wishes_other c.self.inside.cmd (subst (λ (u : Task). IsSome (wish_of u.cmd)) (sym c.self.view_is) c.requires.wish)) c.decide.ensures.fits c.decide.ensures.same c.decide.ensures.kept

pub invariant_of-self-in-Ok : goal.invariant_of-self-in-Ok
invariant_of-self-in-Ok c =
    decided_task c.self.inside c.decide.new.self c.self.invariant (ap (λ (u : Task). u.phase) c.self.view_is ∙ c.requires.phase)
    (wishes_other c.self.inside.cmd (subst (λ (u : Task). IsSome (wish_of u.cmd)) (sym c.self.view_is) c.requires.wish)) c.decide.ensures.fits c.decide.ensures.same c.decide.ensures.kept

pub invariant_of-self-in-Err : goal.invariant_of-self-in-Err
invariant_of-self-in-Err c =
    let sound = c.self.invariant.sound in
    ended_task _ c.done.ensures.last sound.command sound.least sound.most (subst IsKept (sym c.decide.ensures.kept) sound.kept)
