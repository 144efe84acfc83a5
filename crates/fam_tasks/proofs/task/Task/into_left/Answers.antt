use Rattle.std.proofs.Common.{◌∙◌}
use Rattle.fam_tasks.proofs.task.Task.into_left.Goals as goal

pub returns : goal.returns
returns c = c.into_host_kept.ensures ∙ c.mount.ensures.kept
