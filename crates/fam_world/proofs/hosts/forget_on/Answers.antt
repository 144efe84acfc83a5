use Rattle.std.proofs.Common.{Option, None, ap}
use Rattle.fam_commands.specs.Task.{Task}
use Rattle.fam_world.specs.View.{host_view, kept_in}
use Rattle.fam_world.proofs.hosts.forget_on.Goals as goal

pub returns : goal.returns
returns c = ap (λ (o : Option Task). record (host_view c.args.host.now) { kept = kept_in o None }) c.requires
