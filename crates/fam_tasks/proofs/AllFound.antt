-- A task that decides has found all entries that its host keeps.
use Rattle.std.proofs.Common.{◌≡◌, Bool, false, true, cond, ap, subst, ◌∙◌}
use Rattle.fam_commands.specs.declared.phase.Phase.{Phase}
use Rattle.fam_commands.specs.declared.phase.Phase.TheVariants as at
use Rattle.fam_replay.specs.Replay.{HasFoundAll, IsReplayOf}
use Rattle.fam_replay.proofs.Replicas.{all_found}
use Rattle.fam_tasks.specs.declared.task.Task.TheInside.{Inside}
use Rattle.fam_commands.specs.Classes.{is_fsck}
use Rattle.fam_tasks.specs.Commands.{is_logplay}
use Rattle.fam_tasks.specs.History.{IsAtHand}
use Rattle.fam_tasks.specs.Invariant.{IsInvariantAt, IsTask}

-- what was read is of the file system that the superblock told
pub fits_at : (t : Inside) → IsTask t → t.phase ≡ at.Decide → IsReplayOf t.params t.gate t.history.replay
fits_at t is phase =
    let held : IsInvariantAt at.Decide t = subst (λ (p : Phase). IsInvariantAt p t) phase is.held in
    held.0.replay

-- as many as the gate counts, and no more are kept
pub all_found_at : (t : Inside) → IsTask t → t.phase ≡ at.Decide → is_fsck t.cmd ≡ false → HasFoundAll t.history.replay
all_found_at t is phase other =
    let held : IsInvariantAt at.Decide t = subst (λ (p : Phase). IsInvariantAt p t) phase is.held in
    all_found t.params t.gate t.history.replay held.0.replay (held.0.entries other ∙ ap (λ (b : Bool). cond b t.params.slots t.gate) other)

-- and a logplay has its tree
pub hand_at : (t : Inside) → IsTask t → t.phase ≡ at.Decide → is_logplay t.cmd ≡ true → IsAtHand t.history
hand_at t is phase plays =
    let held : IsInvariantAt at.Decide t = subst (λ (p : Phase). IsInvariantAt p t) phase is.held in
    held.1 plays
