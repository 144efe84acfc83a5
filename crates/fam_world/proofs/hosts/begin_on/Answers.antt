use Rattle.std.proofs.Common.{◌≡◌, Option, None, Some, sym, ap, ◌∙◌}
use Rattle.fam_commands.specs.Kept.{Kept}
use Rattle.fam_commands.specs.Task.{Task, mounted}
use Rattle.fam_journal.specs.View.{HostView}
use Rattle.fam_world.specs.View.{host_view, kept_in}
use Rattle.fam_world.proofs.hosts.begin_on.Goals as goal

pub returns : goal.returns
returns c =
    let e = c.end_on.new.host in
    let none : e.task ≡ None = ap (λ (v : HostView). v.task) c.end_on.ensures in
    ap (λ (o : Option Task). record (host_view e) { task = o; kept = kept_in o c.take.new.self }) (c.remember.ensures ∙ c.replace.ensures.after)
    ∙ ap (λ (t : Task). record (host_view e) { task = Some t; kept = t.kept }) c.task_on-task.ensures
    ∙ ap (λ (k : Option Kept). record (host_view e) { task = Some (mounted k c.args.cmd e.uuid c.args.lines); kept = k }) (c.take.ensures.value ∙ sym (ap (λ (o : Option Task). kept_in o e.kept) none))
    ∙ ap (λ (v : HostView). record v { task = Some (mounted v.kept c.args.cmd v.uuid c.args.lines) }) c.end_on.ensures
