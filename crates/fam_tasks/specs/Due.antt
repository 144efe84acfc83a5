-- What comes next of a task, told apart by how it is done.
use Rattle.std.specs.Prelude.{ℕ, ◌≡◌, ◌≢◌, ◌<◌}
use Rattle.fam_format.specs.Layout.{geometry, slot_line}
use Rattle.fam_commands.specs.declared.phase.Part.TheVariants as part
use Rattle.fam_commands.specs.declared.phase.Phase.TheVariants as at
use Rattle.fam_commands.specs.Task.{Task}
use Rattle.fam_tasks.specs.declared.task.due.Due.{Due}
use Rattle.fam_tasks.specs.declared.task.due.Due.TheVariants.{Slot, Stored, Compared, Checked, Other}
use Rattle.fam_tasks.specs.Rest.{IsComparedLine}

-- this comes next of the task. `Other` is never a line of the new file of which no word is stored
abbrev pub IsDue : Due → Task → Type 0
IsDue (Slot due) t =
    (t.phase ≡ at.Drop (part.Slot due.slot) due.line) × (due.line < due.lines) × (due.lines ≡ (geometry t.params).lines) × (due.first ≡ slot_line t.params due.slot 0)
IsDue (Stored j) t = t.phase ≡ at.StoreData j 0
IsDue (Compared line) t = IsComparedLine line t
IsDue (Checked slot) t = t.phase ≡ at.Check slot
IsDue Other t = (j : ℕ) → t.phase ≢ at.StoreData j 0
