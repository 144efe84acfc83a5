use Rattle.std.proofs.Common.{◌≡◌, ap, subst, arith, ◌∙◌}
use Rattle.fam_format.specs.Layout.{slot_line}
use Rattle.fam_commands.specs.declared.phase.Part.{Part}
use Rattle.fam_commands.specs.declared.phase.Part.TheVariants as part
use Rattle.fam_commands.specs.Task.{Task}
use Rattle.fam_tasks.specs.Sound.{IsLine}
use Rattle.fam_tasks.proofs.Phases.{slots_within}
use Rattle.fam_tasks.proofs.Slots.{slot_small, slot_within}
use Rattle.fam_tasks.proofs.task.Task.part_line.Goals as goal

pub line_of_slot-requires : goal.line_of_slot-requires
line_of_slot-requires c =
    let t : Task = c.args.self.now in
    let line : IsLine (part.Slot c.in-Slot.i) c.args.line t = subst (λ (p : Part). IsLine p c.args.line t) c.in-Slot.is c.requires.line in
    slot_small t.params c.in-Slot.i c.args.line line.0.super.sound (omega (arith, line.1, slots_within t.cmd t.params t.gate line.0.gate)) line.2

pub returns-in-Slot-clause-within : goal.returns-in-Slot-clause-within
returns-in-Slot-clause-within c =
    let t : Task = c.args.self.now in
    let line : IsLine (part.Slot c.in-Slot.i) c.args.line t = subst (λ (p : Part). IsLine p c.args.line t) c.in-Slot.is c.requires.line in
    let is : c.line_of_slot.result.0 ≡ slot_line t.params c.in-Slot.i c.args.line = c.line_of_slot.ensures ∙ ap (λ (u : Task). slot_line u.params c.in-Slot.i c.args.line) c.self.view_is in
    omega (arith, is, slot_within t c.in-Slot.i c.args.line line.0.super (omega (arith, line.1, slots_within t.cmd t.params t.gate line.0.gate)) line.2)
