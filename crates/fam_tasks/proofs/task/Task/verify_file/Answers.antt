use Rattle.std.proofs.Common.{◌≡◌, ◌<◌, ap, sym, subst, refl, ◌∙◌, length, arith}
use Rattle.fam_format.specs.Slot.{Proper}
use Rattle.fam_commands.specs.declared.phase.Phase.{Phase}
use Rattle.fam_commands.specs.declared.phase.Phase.TheVariants as at
use Rattle.fam_commands.specs.Task.{Task}
use Rattle.fam_commands.specs.Classes.{IsVerify}
use Rattle.fam_tasks.specs.Model.{task_of}
use Rattle.fam_tasks.specs.Sound.{IsSoundAt}
use Rattle.fam_tasks.proofs.FileLines.{none_kept, verify_held, verify_looks, verify_some, wanted_line}
use Rattle.fam_tasks.proofs.Phases.{same_gate}
use Rattle.fam_tasks.proofs.Keeping.{ended_task}
use Rattle.fam_tasks.proofs.task.Task.verify_file.Goals as goal

pub invariant_of-self-2 : goal.invariant_of-self-2
invariant_of-self-2 c =
    let sound = c.self.invariant.sound in
    let phase : c.self.inside.phase ≡ at.Decide = ap (λ (t : Task). t.phase) c.self.view_is ∙ c.requires.phase in
    let gate : IsSoundAt at.Decide (task_of c.self.inside) = subst (λ (p : Phase). IsSoundAt p (task_of c.self.inside)) phase sound.stands in
    let is : IsVerify c.self.inside.cmd = subst (λ (t : Task). IsVerify t.cmd) (sym c.self.view_is) c.requires.verify in
    let proper : Proper c.self.inside.params c.args.entry.now = subst (λ (t : Task). Proper t.params c.args.entry.now) (sym c.self.view_is) c.requires.proper in
    let some : 0 < c.args.entry.now.size = omega arith in
    record {
      sound = record {
        command = sound.command;
        least = sound.least;
        most = sound.most;
        stands = (
          wanted_line _ 0 sound.command (same_gate (task_of c.self.inside) _ refl refl refl gate) (verify_looks c.self.inside.cmd is) proper
              (verify_some c.self.inside.cmd c.args.entry.now.size is some),
          ap length c.clear.ensures ∙ sym (none_kept c.self.inside.cmd),
        );
        kept = sound.kept;
      };
      held = verify_held c.self.inside.cmd _ 0 is (c.new.ensures.content ∙ c.in_ok-content_used.ensures) c.new.ensures.taken;
    }

pub invariant_of-self : goal.invariant_of-self
invariant_of-self c =
    let sound = c.self.invariant.sound in
    ended_task _ c.done.ensures.last sound.command sound.least sound.most sound.kept
