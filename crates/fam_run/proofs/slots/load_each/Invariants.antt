use Rattle.std.proofs.Common.{◌≡◌, ◌<◌}
use Rattle.fam_commands.specs.declared.phase.Part.TheVariants.{Slot}
use Rattle.fam_commands.specs.declared.phase.Phase.TheVariants as at
use Rattle.fam_media.specs.Causes.{IsSteady}
use Rattle.fam_tasks.specs.declared.answer.Turn.TheVariants.{Go}
use Rattle.fam_run.specs.Led.{HasDone}
use Rattle.fam_run.specs.TaskChange.{task_change}
use Rattle.fam_run.proofs.slots.load_each.Given as goal

abbrev pub invariant-lines : goal.invariant-lines
invariant-lines g l = record {
  done : HasDone (task_change g.M.Media.size g.M.Media.state l.fn.task l.task l.fn.cache l.cache l.fn.media l.media) Go;
  phase : l.line < l.due.lines → l.task.phase ≡ at.Drop (Slot l.due.slot) l.line;
  params : l.task.params ≡ l.fn.task.params;
  image : (g.M.Media.state l.media).image ≡ (g.M.Media.state l.fn.media).image;
  steady : IsSteady g.M.Media.size g.M.Media.state l.fn.media l.media;
}
