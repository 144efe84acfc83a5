use Rattle.std.proofs.Common.{◌≡◌, ap, sym, ◌∙◌, Some}
use Rattle.fam_commands.specs.Task.{Task}
use Rattle.fam_tasks.proofs.Found.{within_image}
use Rattle.fam_tasks.proofs.task.Task.file_line.Goals as goal

pub returns-clause-within : goal.returns-clause-within
returns-clause-within c =
    let is : c.args.self.now.entry ≡ Some c.in-Some.entry = ap (λ (t : Task). t.entry) (sym c.self.view_is) ∙ c.in-Some.is in
    within_image c.args.self.now c.in-Some.entry c.args.line c.file_line.result.0 is c.requires.known c.requires.file c.file_line.ensures.value
