use Rattle.std.proofs.Common.{◌≡◌, false, vec_len, Some}
use Rattle.std.specs.Prelude.{vec_capacity}
use Rattle.fam_commands.specs.FirstStore.{IsUnstored}
use Rattle.fam_run.proofs.Left.{left}
use Rattle.fam_tasks.specs.declared.answer.Turn.TheVariants.{Go}
use Rattle.fam_world.specs.Counted.{task_standing}
use Rattle.fam_world.specs.Places.{IsSafe}
use Rattle.fam_world.specs.View.{notes_view}
use Rattle.fam_world.proofs.Following.{FarOver}
use Rattle.fam_world.proofs.run.run_up.Given as goal

abbrev pub invariant-operations : goal.invariant-operations
invariant-operations g l = record {
  over : FarOver l.forgets l.host.0 (g.M.Media.size l.fn.media)
      (λ view. task_standing g.M.Media.state l.fn.media view (Some l.fn.task) l.fn.task.kept l.fn.cache (notes_view l.fn.journal.items))
      (λ view shown. task_standing g.M.Media.state l.media view (Some l.task) l.task.kept shown (notes_view l.journal.items))
      l.task l.cache
      (λ shown. IsUnstored l.fn.task l.fn.cache.lines → IsSafe (g.M.Media.state l.fn.media).image (g.M.Media.state l.media).image l.task shown (vec_len l.journal) (vec_capacity l.journal));
  tries : l.forgets ≡ false → l.tries ≡ false;
  turn : l.turn ≡ Go;
  size : g.M.Media.size l.media ≡ g.M.Media.size l.fn.media;
  fits : l.task.lines ≡ g.M.Media.size l.fn.media;
}

abbrev pub decreases-operations : goal.decreases-operations
decreases-operations g l = left l.task
