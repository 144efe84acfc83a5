use Rattle.std.proofs.Common.{◌≡◌, Some, ap, ◌∙◌}
use Rattle.fam_commands.specs.Keeping.{read_by}
use Rattle.fam_commands.specs.Task.{Task}
use Rattle.fam_commands.specs.Classes.{is_fsck}
use Rattle.fam_commands.specs.declared.phase.Phase.TheVariants as at
use Rattle.fam_tasks.proofs.AllFound.{all_found_at, fits_at}
use Rattle.fam_tasks.proofs.Keeping.{ended_task}
use Rattle.fam_tasks.proofs.task.Task.play_kept.Goals as goal

pub play-requires : goal.play-requires
play-requires c = record {
  all = all_found_at c.self.inside c.self.invariant (ap (λ (t : Task). t.phase) c.self.view_is ∙ c.requires.phase)
      (ap is_fsck (ap (λ (t : Task). t.cmd) c.self.view_is ∙ c.requires.logplay));
}

pub invariant_of-self : goal.invariant_of-self
invariant_of-self c =
    let sound = c.self.invariant.sound in
    ended_task _ c.done.ensures.last sound.command sound.least sound.most c.kept_joins.ensures

pub returns-in-Ok-clause-kept : goal.returns-in-Ok-clause-kept
returns-in-Ok-clause-kept c =
    let phase : c.self.inside.phase ≡ at.Decide = ap (λ (t : Task). t.phase) c.self.view_is ∙ c.requires.phase in
    c.in-Ok.ensures.kept c.self.inside.gate (fits_at c.self.inside c.self.invariant phase)
    ∙ ap (λ (t : Task). Some (read_by t)) c.self.view_is
