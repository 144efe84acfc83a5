use Rattle.std.proofs.Common.{◌≡◌, ◌≤◌, ◌-◌, false, Some}
use Rattle.fam_journal.specs.View.{HostView}
use Rattle.fam_tasks.specs.declared.answer.Turn.TheVariants.{Go}
use Rattle.fam_world.specs.Counted.{HostStep, Iterated, task_standing}
use Rattle.fam_world.specs.Steps.{CacheFits}
use Rattle.fam_world.specs.View.{notes_view}
use Rattle.fam_world.proofs.run.run_most.Given as goal

abbrev pub invariant-operations : goal.invariant-operations
invariant-operations g l = record {
  far : (view : HostView) → Iterated (HostStep l.host.0 (g.M.Media.size l.fn.media) false)
      (task_standing g.M.Media.state l.fn.media view (Some l.fn.task) l.fn.task.kept l.fn.cache (notes_view l.fn.journal.items))
      (task_standing g.M.Media.state l.media view (Some l.task) l.task.kept l.cache (notes_view l.journal.items)) l.done;
  turn : l.turn ≡ Go;
  size : g.M.Media.size l.media ≡ g.M.Media.size l.fn.media;
  within : l.done ≤ l.most;
  fits : l.task.lines ≡ g.M.Media.size l.fn.media;
  cached : CacheFits (g.M.Media.size l.fn.media) l.cache;
  first : l.done ≡ 0 → l.media ≡ l.fn.media;
}

abbrev pub decreases-operations : goal.decreases-operations
decreases-operations g l = l.most - l.done
