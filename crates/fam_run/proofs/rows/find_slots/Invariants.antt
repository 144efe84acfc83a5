use Rattle.std.proofs.Common.{◌≡◌, ◌+◌, ◌≤◌, ◌<◌}
use Rattle.fam_format.specs.Layout.{slot_line}
use Rattle.fam_commands.specs.declared.phase.Part.TheVariants.{Slot}
use Rattle.fam_commands.specs.declared.phase.Phase.TheVariants as at
use Rattle.fam_run.specs.Rows.{FindsSlots}
use Rattle.fam_run.proofs.rows.find_slots.Given as goal

abbrev pub invariant-slots : goal.invariant-slots
invariant-slots l = record {
  found : FindsSlots l.due.first l.lines l.due.lines l.due.slot l.fn.task l.task l.k l.at;
  few : l.at ≤ l.read;
  none : l.at ≡ 0 → l.k ≡ 0;
  params : l.task.params ≡ l.fn.task.params;
  gate : l.task.gate ≡ l.fn.task.gate;
  next : l.k < l.slots → l.task.phase ≡ at.Drop (Slot (l.due.slot + l.k)) 0;
  place : l.due.first + l.at ≡ slot_line l.fn.task.params (l.due.slot + l.k) 0;
}
