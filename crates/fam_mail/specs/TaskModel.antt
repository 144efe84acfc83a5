-- A task as its fields, and the room that it has for records.
use Rattle.std.specs.Prelude.{ℕ, ⊤, ◌+◌, ◌≤◌, vec_len, vec_capacity}
use Rattle.fam_mail.specs.declared.phase.Phase.{Phase}
use Rattle.fam_mail.specs.declared.phase.Phase.TheVariants as at
use Rattle.fam_mail.specs.declared.task.Task.TheInside.{Inside}
use Rattle.fam_mail.specs.Tasks.{IsSoundTask, MailTask}

-- what contracts see of it
abbrev pub task_view : Inside → MailTask
task_view a = record { ask = a.ask; capacity = a.capacity; phase = a.phase; gate = a.gate; words = a.words; records = a.records.items }

-- a take that has counted its records has room for those to come
abbrev pub HasRecordRoom : Phase → ℕ → ℕ → ℕ → Type 0
HasRecordRoom at.DropGate gate held room = ⊤
HasRecordRoom at.LoadGate gate held room = ⊤
HasRecordRoom (at.StoreRecord k) gate held room = ⊤
HasRecordRoom at.SendRecord gate held room = ⊤
HasRecordRoom at.FenceRecord gate held room = ⊤
HasRecordRoom at.StoreGate gate held room = ⊤
HasRecordRoom at.SendGate gate held room = ⊤
HasRecordRoom at.FenceGate gate held room = ⊤
HasRecordRoom at.Count gate held room = ⊤
HasRecordRoom (at.DropRecord i) gate held room = held + gate ≤ room + i
HasRecordRoom (at.LoadRecord i k) gate held room = held + gate ≤ room + i

-- its numbers fit its phase, and so does its room
pub record IsMailTask (a : Inside) : Type 0 where
  pub sound : IsSoundTask (task_view a)
  pub room : HasRecordRoom a.phase a.gate (vec_len a.records) (vec_capacity a.records)
