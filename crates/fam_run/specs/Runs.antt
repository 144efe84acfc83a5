-- Lines of the new file that are stored and sent one behind another, by one write of the media; and those of a run in a cache.
use Rattle.std.specs.Prelude.{ℕ, ◌≡◌, ◌+◌, ◌<◌, Option, None, Result, Ok, Err}
use Rattle.fam_base.specs.Image.{Image}
use Rattle.fam_base.specs.declared.line.LineNo.{LineNo}
use Rattle.fam_cache.specs.declared.fault.OperationFault.{OperationFault}
use Rattle.fam_cache.specs.declared.fault.OperationFault.TheVariants as fault
use Rattle.fam_machine.specs.declared.cell.Cell.TheVariants.{Absent}
use Rattle.fam_machine.specs.Caches.{Cache, cell_at}
use Rattle.fam_commands.specs.Task.{Task}
use Rattle.fam_commands.specs.declared.phase.Phase.TheVariants as at
use Rattle.fam_tasks.specs.declared.answer.Turn.{Turn}
use Rattle.fam_tasks.specs.declared.answer.Turn.TheVariants.{Go}
use Rattle.fam_tasks.specs.Sound.{IsSound}
use Rattle.fam_run.specs.Led.{HasBrokenOff, HasDone}
use Rattle.fam_run.specs.Operation.{IsUndone}
use Rattle.fam_run.specs.TaskChange.{TaskChange}

-- the host holds none of so many lines, from line `first` on
abbrev pub AreAbsent : Cache → ℕ → ℕ → Type 0
AreAbsent cache first count = (k : ℕ) → k < count → cell_at cache (first + k) ≡ Absent

-- a task and its host's cache, before and behind operations that lead memory's image from one to another, on a media of so many
-- lines of which no call fails
abbrev pub quiet_change : (lines faults : ℕ) → Option Image → Task → Cache → Option Image → Task → Cache → TaskChange
quiet_change lines faults modelled task held left next after = record {
  task = task;
  next = next;
  old = held;
  new = after;
  lines = lines;
  media = record { old = record { image = modelled; faults = faults }; new = record { image = left; faults = faults } };
}

-- operations of a task that stores a line of its new file next, up to the one that sends the line, behind which it just goes on:
-- memory may be another then
pub record SendsOne (modelled : Option Image) (task : Task) (held : Cache) (left : Option Image) (next : Task) (after : Cache) : Type 0 where
  pub number : ℕ
  pub at : task.phase ≡ at.StoreData number 0
  pub done : (lines faults : ℕ) → HasDone (quiet_change lines faults modelled task held left next after) Go
  pub sound : IsSound next
  pub unknown : modelled ≡ None → left ≡ None

-- several of those, one behind another: memory, a task and its host's cache, and what is left of them
pub data Sent : Option Image → Task → Cache → Option Image → Task → Cache → Type 0 where
  none : {modelled : Option Image} {task : Task} {held : Cache} → Sent modelled task held modelled task held
  more : {modelled mid left : Option Image} {task here next : Task} {held now after : Cache} → Sent modelled task held mid here now → SendsOne mid here now left next after → Sent modelled task held left next after

-- the same change from a later task, cache and image on
abbrev pub later : TaskChange → Option Image → Task → Cache → TaskChange
later a mid task held = record a { task = task; old = held; media = record { old = record { image = mid; faults = a.media.old.faults }; new = a.media.new } }

-- behind lines that were sent, operations were done
pub record HasRun (a : TaskChange) (turn : Turn) : Type 0 where
  pub mid : Option Image
  pub task : Task
  pub held : Cache
  pub sent : Sent a.media.old.image a.task a.old mid task held
  pub done : HasDone (later a mid task held) turn

-- or the media failed in one of them, at this line
pub record HasRunOff (a : TaskChange) (line : LineNo) : Type 0 where
  pub mid : Option Image
  pub task : Task
  pub held : Cache
  pub sent : Sent a.media.old.image a.task a.old mid task held
  pub broken : HasBrokenOff (later a mid task held) line

-- what came of operations that are done as a whole, lines that were sent first
abbrev pub HasAdvanced : TaskChange → Result Turn OperationFault → Type 0
HasAdvanced a (Ok turn) = HasRun a turn
HasAdvanced a (Err (fault.MediaFault line)) = HasRunOff a line
HasAdvanced a (Err fault.OutOfMemory) = IsUndone a
