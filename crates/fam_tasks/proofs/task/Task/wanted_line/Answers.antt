use Rattle.std.proofs.Common.{◌≡◌, ap, ◌∙◌, arith}
use Rattle.fam_commands.specs.Task.{Task, first_line}
use Rattle.fam_tasks.proofs.Found.{number_fits}
use Rattle.fam_tasks.proofs.task.Task.wanted_line.Goals as goal

pub overflow_add-first_line : goal.overflow_add-first_line
overflow_add-first_line c =
    let first : c.first_line.result ≡ first_line c.args.self.now.cmd = c.first_line.ensures ∙ ap (λ (t : Task). first_line t.cmd) c.self.view_is in
    omega (arith, number_fits c.args.self.now c.args.line c.requires)
