use Rattle.std.proofs.Common.{◌≡◌, Some, ap, sym, subst, ◌∙◌}
use Rattle.fam_commands.specs.declared.phase.Phase.{Phase}
use Rattle.fam_commands.specs.declared.phase.Phase.TheVariants as at
use Rattle.fam_commands.specs.Task.{Task}
use Rattle.fam_tasks.specs.Sound.{IsSoundAt}
use Rattle.fam_tasks.proofs.Found.{within_image}
use Rattle.fam_tasks.proofs.task.Task.row_due.Goals as goal

pub returns-clause-within : goal.returns-clause-within
returns-clause-within c =
    let t : Task = c.args.self.now in
    let is : t.entry ≡ Some c.in-Some.entry = ap (λ (u : Task). u.entry) (sym c.self.view_is) ∙ c.in-Some.is in
    let stands : IsSoundAt (at.StoreData c.args.number 0) t = subst (λ (p : Phase). IsSoundAt p t) c.requires c.is_sound.ensures.stands in
    within_image t c.in-Some.entry c.args.number c.file_line.result.0 is stands.0.found.super stands.1 c.file_line.ensures.value
