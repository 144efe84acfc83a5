use Rattle.std.proofs.Common.{Option, sym, ap, ◌∙◌}
use Rattle.std.specs.Prelude.{is_some}
use Rattle.fam_commands.specs.Task.{Task}
use Rattle.fam_world.specs.View.{count_kept, kept_in}
use Rattle.fam_world.proofs.Deciding.{some_counted}
use Rattle.fam_world.proofs.find.kept_count.Goals as goal

pub returns-in-Some-clause-count : goal.returns-in-Some-clause-count
returns-in-Some-clause-count c = c.kept_count.ensures ∙ ap (λ (o : Option Task). count_kept (kept_in o c.args.host.now.kept)) (sym c.in-Some.is)

pub returns-in-Some-clause-some : goal.returns-in-Some-clause-some
returns-in-Some-clause-some c =
    ap is_some c.kept_count.ensures ∙ some_counted c.in-Some.task.kept ∙ ap (λ (o : Option Task). is_some (kept_in o c.args.host.now.kept)) (sym c.in-Some.is)
