-- Rows of slots that have the words which an earlier task of the host found in them.
use Rattle.std.specs.Prelude.{ℕ, suc, ◌≡◌, ◌+◌, ◌-◌, List, take, drop}
use Rattle.fam_base.specs.declared.line.LineNo.{LineNo}
use Rattle.fam_machine.specs.declared.cell.Cell.TheVariants.{Absent}
use Rattle.fam_machine.specs.Caches.{Cache, with_cell}
use Rattle.fam_cache.specs.BroughtRuns.{brought_run}
use Rattle.fam_commands.specs.Task.{Task}
use Rattle.fam_tasks.specs.Rest.{DropsLine}
use Rattle.fam_tasks.specs.SlotLines.{FindsSlot, LoadsSlotLines}
use Rattle.fam_tasks.specs.Sound.{IsSound}

-- the first task finds so many slots, from slot i on, each of `wide` lines, the words of which are these, from line `first` on,
-- and goes on up to the last task; and how many lines these are
pub data FindsSlots (first : ℕ) (lines : List (List ℕ)) (wide i : ℕ) : Task → Task → ℕ → ℕ → Type 0 where
  none : {t : Task} → FindsSlots first lines wide i t t 0 0
  more : {t mid next : Task} {n m : ℕ} → FindsSlots first lines wide i t mid n m → FindsSlot (first + m) (take wide (drop m lines)) wide (i + n) mid next → FindsSlots first lines wide i t next (suc n) (m + wide)

-- of a row that was read up to this line, the lines of the slot at hand are those from `at` on: the task loads them, and drops
-- the line, of which the media failed; the cache has all lines before it anew
pub record BreaksRow (first : ℕ) (lines : List (List ℕ)) (at done : ℕ) (line : LineNo) (t next : Task) (old new : Cache) : Type 0 where
  pub mid : Task
  pub loads : LoadsSlotLines (first + at) (drop at lines) t mid (done - at)
  pub sound : IsSound mid
  pub drops : DropsLine line mid next
  pub dropped_sound : IsSound next
  pub is : line.0 ≡ first + done
  pub cache : new ≡ with_cell (first + done) Absent (brought_run first lines done old)
