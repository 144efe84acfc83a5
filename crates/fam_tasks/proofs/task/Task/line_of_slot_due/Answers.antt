use Rattle.std.proofs.Common.{ℕ, subst, arith}
use Rattle.fam_commands.specs.declared.phase.Part.TheVariants as part
use Rattle.fam_commands.specs.declared.phase.Phase.{Phase}
use Rattle.fam_commands.specs.declared.phase.Phase.TheVariants as at
use Rattle.fam_commands.specs.Task.{Task}
use Rattle.fam_tasks.specs.Sound.{IsLine, IsSoundAt}
use Rattle.fam_tasks.proofs.Phases.{slots_within}
use Rattle.fam_tasks.proofs.Slots.{slot_within}
use Rattle.fam_tasks.proofs.task.Task.line_of_slot_due.Goals as goal

pub returns : goal.returns
returns c =
    let t : Task = c.args.self.now in
    let i : ℕ = c.args.due.slot in
    let j : ℕ = c.args.due.line in
    let stands : IsSoundAt (at.Drop (part.Slot i) j) t = subst (λ (p : Phase). IsSoundAt p t) c.requires.due c.is_sound.ensures.stands in
    let line : IsLine (part.Slot i) j t = stands.0.line in
    record {
      slot = i;
      j = j;
      phase = c.requires.due;
      is = omega (arith, c.requires.first);
      within = omega (arith, c.requires.first, slot_within t i j line.0.super (omega (arith, line.1, slots_within t.cmd t.params t.gate line.0.gate)) line.2);
    }
