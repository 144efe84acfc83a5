use Rattle.std.proofs.Common.{Option, Some, sym, subst}
use Rattle.fam_commands.specs.Kept.{Kept}
use Rattle.fam_commands.specs.Task.{Task}
use Rattle.fam_journal.specs.View.{HostView}
use Rattle.fam_world.specs.Counted.{HostStepsSay, task_left, task_standing}
use Rattle.fam_world.specs.View.{host_view, kept_in, notes_view}
use Rattle.fam_world.proofs.run.steps_of.Goals as goal

pub returns-clause-says : goal.returns-clause-says
returns-clause-says g c =
    let h = c.args.host.now in
    let view : HostView = host_view h in
    let size = g.M.Media.size c.args.media.now in
    let notes = notes_view c.args.journal.now.items in
    let notes_now = notes_view c.run_most-moved.new.journal.items in
    let new = c.run_most-moved.new in
    let left = kept_in c.leave.new.task c.leave.new.kept in
    subst (λ (o : Option Task). HostStepsSay c.args.at size c.args.most
    (task_standing g.M.Media.state c.args.media.now view o (kept_in o h.kept) h.cache notes)
    (task_standing g.M.Media.state new.media view c.leave.new.task left new.cache notes_now) c.run_most-moved.result) (sym c.in-Some.is)
    (subst (λ (o : Option Task). HostStepsSay c.args.at size c.args.most
    (task_standing g.M.Media.state c.args.media.now view (Some c.in-Some.task) c.in-Some.task.kept h.cache notes)
    (task_standing g.M.Media.state new.media view o left new.cache notes_now) c.run_most-moved.result) (sym c.leave.ensures.task)
    (subst (λ (k : Option Kept). HostStepsSay c.args.at size c.args.most
    (task_standing g.M.Media.state c.args.media.now view (Some c.in-Some.task) c.in-Some.task.kept h.cache notes)
    (task_standing g.M.Media.state new.media view (task_left c.run_most-moved.result (Some new.task)) k new.cache notes_now)
    c.run_most-moved.result) (sym c.leave.ensures.kept)
    (c.run_most-moved.ensures.says view)))
