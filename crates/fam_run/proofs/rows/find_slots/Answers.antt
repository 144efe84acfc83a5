use Rattle.std.proofs.Common.{◌≡◌, ◌+◌, ◌-◌, ◌∙◌, ℕ, suc, take, drop, ap, subst, refl, arith}
use Rattle.fam_format.specs.Layout.{slot_line}
use Rattle.fam_commands.specs.declared.phase.Part.TheVariants.{Slot}
use Rattle.fam_commands.specs.declared.phase.Phase.TheVariants as at
use Rattle.fam_tasks.specs.SlotLines.{FindsSlot}
use Rattle.fam_run.specs.Rows.{FindsSlots, more, none}
use Rattle.fam_run.proofs.SlotRows.{next_drop, slot_line_next}
use Rattle.fam_run.proofs.rows.find_slots.Goals as goal

pub slots-init : goal.slots-init
slots-init c = record {
  found = none;
  few = omega arith;
  none = λ is. refl;
  params = refl;
  gate = refl;
  next = λ some. c.requires.due ∙ ap (λ (i : ℕ). at.Drop (Slot i) 0) (let same : c.args.due.slot ≡ c.args.due.slot + 0 = omega arith in same);
  place = omega (arith, c.requires.first, ap (λ (i : ℕ). slot_line c.args.task.now.params i 0) (let same : c.args.due.slot ≡ c.args.due.slot + 0 = omega arith in same));
}

pub slots-preserved : goal.slots-preserved
slots-preserved c =
    let v = c.slots.invariant in
    let d = c.args.due in
    let e = c.find_slot.ensures in
    let found = c.if-not-find_slot.false in
    let at = c.slots.at in
    let k = c.slots.k in
    let size : at + d.lines - at ≡ d.lines = omega arith in
    record {
      found = subst (λ (n : ℕ). FindsSlots d.first c.args.lines.now d.lines d.slot c.args.task.now c.find_slot.new.self n (at + d.lines)) (let number : suc k ≡ k + 1 = omega arith in number)
          (more v.found (subst (λ (n : ℕ). FindsSlot (d.first + at) (take n (drop at c.args.lines.now)) d.lines (d.slot + k) c.slots.task c.find_slot.new.self) size (e.found found)));
      few = omega (arith, c.if-read-at.false, v.few);
      none = λ is. absurd (omega (arith, is, c.requires.some));
      params = e.params ∙ v.params;
      gate = e.gate ∙ v.gate;
      next = λ below. next_drop c.find_slot.new.self.phase d.slot k c.slots.task.gate (omega (arith, below, v.gate, c.requires.gate)) (e.next found);
      place = omega (
        arith,
        v.place,
        c.requires.count,
        slot_line_next c.args.task.now.params (d.slot + k),
        ap (λ (i : ℕ). slot_line c.args.task.now.params i 0) (let number : d.slot + k + 1 ≡ d.slot + (k + 1) = omega arith in number),
      );
    }
