use Rattle.std.proofs.Common.{◌≡◌, ap, subst, ◌∙◌}
use Rattle.fam_commands.specs.declared.phase.Phase.{Phase}
use Rattle.fam_commands.specs.declared.phase.Phase.TheVariants as at
use Rattle.fam_commands.specs.Classes.{is_fsck}
use Rattle.fam_commands.specs.Task.{Task}
use Rattle.fam_tasks.specs.declared.task.Task.TheInside.{Inside}
use Rattle.fam_tasks.specs.Invariant.{IsInvariantAt}
use Rattle.fam_tasks.specs.Model.{task_of}
use Rattle.fam_tasks.specs.Sound.{IsSoundAt}
use Rattle.fam_tasks.proofs.Slots.{some_shown}
use Rattle.fam_tasks.proofs.task.Task.report.Goals as goal

pub report_of-report-requires : goal.report_of-report-requires
report_of-report-requires c =
    let t : Inside = c.self.inside in
    let phase : t.phase ≡ at.Decide = ap (λ (u : Task). u.phase) c.self.view_is ∙ c.requires.phase in
    let looked : IsInvariantAt at.Decide t = subst (λ (p : Phase). IsInvariantAt p t) phase c.self.invariant.held in
    let stands : IsSoundAt at.Decide (task_of t) = subst (λ (p : Phase). IsSoundAt p (task_of t)) phase c.self.invariant.sound.stands in
    record { shown = some_shown t (ap (λ (u : Task). is_fsck u.cmd) c.self.view_is ∙ c.requires.fsck) stands.super.sound looked.0 }
