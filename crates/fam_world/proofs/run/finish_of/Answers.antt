use Rattle.std.proofs.Common.{◌≡◌, Option, Some, ap, sym, subst, ◌∙◌}
use Rattle.std.proofs.lemmas.Result.{err_from_is_err_and}
use Rattle.fam_commands.specs.Kept.{Kept}
use Rattle.fam_commands.specs.Task.{Task}
use Rattle.fam_journal.specs.View.{HostView}
use Rattle.fam_world.specs.Counted.{Ends, SomeSteps, task_standing}
use Rattle.fam_world.specs.View.{host_view, kept_in, notes_view}
use Rattle.fam_world.proofs.Following.{own_up}
use Rattle.fam_world.proofs.run.finish_of.Goals as goal

pub returns-in_err-run_up-clause-runs : goal.returns-in_err-run_up-clause-runs
returns-in_err-run_up-clause-runs g c =
    let h = c.args.host.now in
    let view : HostView = host_view h in
    let size = g.M.Media.size c.args.media.now in
    let notes = notes_view c.args.journal.now.items in
    let new = c.run_up.new in
    let p = err_from_is_err_and c.from_residual.result c.from_residual.ensures.1 in
    rw p.1
    (subst (λ (o : Option Task). SomeSteps c.args.at size (task_standing g.M.Media.state c.args.media.now view o (kept_in o h.kept) h.cache notes)
    (task_standing g.M.Media.state new.media view (Some new.task) new.task.kept new.cache (notes_view new.journal.items))) (sym c.in-Some.is)
    (own_up (c.in_err-run_up.ensures.runs view)))

pub returns-clause-runs : goal.returns-clause-runs
returns-clause-runs g c =
    let h = c.args.host.now in
    let view : HostView = host_view h in
    let size = g.M.Media.size c.args.media.now in
    let notes = notes_view c.args.journal.now.items in
    let new = c.run_up.new in
    let left : kept_in c.retire.new.task c.retire.new.kept ≡ new.task.kept = ap (λ (o : Option Task). kept_in o c.retire.new.kept) c.retire.ensures.task ∙ c.retire.ensures.kept in
    subst (λ (o : Option Task). Ends c.args.at size (task_standing g.M.Media.state c.args.media.now view o (kept_in o h.kept) h.cache notes)
    (task_standing g.M.Media.state new.media view c.retire.new.task (kept_in c.retire.new.task c.retire.new.kept) new.cache
    (notes_view new.journal.items))) (sym c.in-Some.is)
    (subst (λ (k : Option Kept). Ends c.args.at size
    (task_standing g.M.Media.state c.args.media.now view (Some c.in-Some.task) c.in-Some.task.kept h.cache notes)
    (task_standing g.M.Media.state new.media view c.retire.new.task k new.cache (notes_view new.journal.items))) (sym left)
    (subst (λ (o : Option Task). Ends c.args.at size
    (task_standing g.M.Media.state c.args.media.now view (Some c.in-Some.task) c.in-Some.task.kept h.cache notes)
    (task_standing g.M.Media.state new.media view o new.task.kept new.cache (notes_view new.journal.items))) (sym c.retire.ensures.task)
    (own_up (c.in_ok-run_up.ensures.runs view))))
