use Rattle.std.proofs.Common.{ap, ◌∙◌, None}
use Rattle.fam_machine.specs.Caches.{Cache}
use Rattle.fam_journal.specs.View.{HostView}
use Rattle.fam_world.specs.View.{host_view}
use Rattle.fam_world.proofs.hosts.lose_on.Goals as goal

pub forget_on-requires : goal.forget_on-requires
forget_on-requires c = ap (λ (v : HostView). v.task) c.end_on.ensures

pub returns : goal.returns
returns c =
    ap (λ (v : HostView). record v { cache = c.lose.new.self.lines }) c.forget_on.ensures
    ∙ ap (λ (v : HostView). record v { cache = c.lose.new.self.lines; kept = None }) c.end_on.ensures
    ∙ ap (λ (k : Cache). record (host_view c.args.host.now) { cache = k; task = None; kept = None }) c.lose.ensures.lines
