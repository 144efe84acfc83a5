use Rattle.std.proofs.Common.{◌≡◌, ◌<◌, ◌-◌, ap, sym, subst, refl, ◌∙◌, length, arith}
use Rattle.fam_format.specs.Slot.{Proper}
use Rattle.fam_commands.specs.declared.phase.Phase.{Phase}
use Rattle.fam_commands.specs.declared.phase.Phase.TheVariants as at
use Rattle.fam_commands.specs.Task.{Task, wanted_end, wanted_start}
use Rattle.fam_commands.specs.Classes.{IsRead}
use Rattle.fam_tasks.specs.Model.{task_of}
use Rattle.fam_tasks.specs.Sound.{IsSoundAt}
use Rattle.fam_tasks.proofs.FileLines.{none_kept, read_held, read_looks, some_wanted, wanted_line}
use Rattle.fam_tasks.proofs.Phases.{same_gate}
use Rattle.fam_tasks.proofs.Keeping.{ended_task}
use Rattle.fam_tasks.proofs.task.Task.read_file.Goals as goal

pub invariant_of-self-2 : goal.invariant_of-self-2
invariant_of-self-2 c =
    let sound = c.self.invariant.sound in
    let phase : c.self.inside.phase ≡ at.Decide = ap (λ (t : Task). t.phase) c.self.view_is ∙ c.requires.phase in
    let gate : IsSoundAt at.Decide (task_of c.self.inside) = subst (λ (p : Phase). IsSoundAt p (task_of c.self.inside)) phase sound.stands in
    let is : IsRead c.self.inside.cmd = subst (λ (t : Task). IsRead t.cmd) (sym c.self.view_is) c.requires.read in
    let proper : Proper c.self.inside.params c.args.entry.now = subst (λ (t : Task). Proper t.params c.args.entry.now) (sym c.self.view_is) c.requires.proper in
    let some : wanted_start c.self.inside.cmd < wanted_end c.self.inside.cmd c.args.entry.now.size = omega arith in
    let room : length c.in_ok-room.room.items ≡ wanted_end c.self.inside.cmd c.args.entry.now.size - wanted_start c.self.inside.cmd = omega (arith, c.in_ok-room.ensures) in
    record {
      sound = record {
        command = sound.command;
        least = sound.least;
        most = sound.most;
        stands = (
          wanted_line _ 0 sound.command (same_gate (task_of c.self.inside) _ refl refl refl gate) (read_looks c.self.inside.cmd is) proper (some_wanted c.self.inside.cmd c.args.entry.now.size some),
          ap length c.clear.ensures ∙ sym (none_kept c.self.inside.cmd),
        );
        kept = sound.kept;
      };
      held = read_held c.self.inside.cmd _ 0 is room;
    }

pub invariant_of-self : goal.invariant_of-self
invariant_of-self c =
    let sound = c.self.invariant.sound in
    ended_task _ c.done.ensures.last sound.command sound.least sound.most sound.kept
