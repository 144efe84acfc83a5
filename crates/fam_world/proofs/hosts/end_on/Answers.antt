use Rattle.std.proofs.Common.{Option, None, ap, ◌∙◌}
use Rattle.fam_commands.specs.Kept.{Kept}
use Rattle.fam_commands.specs.Task.{Task}
use Rattle.fam_world.specs.View.{host_view, kept_in}
use Rattle.fam_world.proofs.hosts.end_on.Goals as goal

pub returns : goal.returns
returns c =
    ap (λ (o : Option Task). record (host_view c.args.host.now) { task = o; kept = kept_in o c.retire.new.kept }) c.retire.ensures.task
    ∙ ap (λ (k : Option Kept). record (host_view c.args.host.now) { task = None; kept = k }) c.retire.ensures.kept
