-- Lines of the new file that stand one behind another on the device, stored and sent one after another.
use Rattle.std.specs.Prelude.{ℕ, suc, ◌≡◌, ◌+◌, ◌*◌, ◌<◌, List, None}
use Rattle.fam_content.specs.Stream.{line_in}
use Rattle.fam_format.specs.Line.{line_bytes}
use Rattle.fam_machine.specs.Operations.{line_no}
use Rattle.fam_commands.specs.Task.{Task, line_of, size_of}
use Rattle.fam_commands.specs.Turns.{turn_of}
use Rattle.fam_tasks.specs.declared.answer.Turn.TheVariants.{Go}
use Rattle.fam_tasks.specs.Rest.{IsFileLineDue, StoresFileLine}
use Rattle.fam_tasks.specs.Sound.{IsSound}
use Rattle.fam_tasks.specs.Tells.{Tells}

-- so many lines of the file from line j on stand one behind another, from line `first` of the device on
pub record IsRow (first j n : ℕ) (t : Task) : Type 0 where
  pub below : (k : ℕ) → k < n → line_bytes * (j + k) < size_of t.entry
  pub each : (k : ℕ) → k < n → line_of t.entry (j + k) ≡ first + k

-- the first task stores line k of these, word by word, and goes on up to the other, which sends it
pub record StoresNext (first : ℕ) (lines : List (List ℕ)) (k : ℕ) (t sending : Task) : Type 0 where
  pub sound : IsSound t
  pub due : IsFileLineDue (line_no (first + k)) (line_in lines k) t
  pub stores : StoresFileLine (line_no (first + k)) (line_in lines k) t sending
  pub sending_sound : IsSound sending

-- the first task stores and sends so many of these lines, from line `first` on, and goes on up to the last task
pub data StoresRun (first : ℕ) (lines : List (List ℕ)) : Task → Task → ℕ → Type 0 where
  none : {t : Task} → StoresRun first lines t t 0
  more : {t mid sending next : Task} {n : ℕ} → StoresRun first lines t mid n → StoresNext first lines n mid sending → Tells (turn_of sending None) Go next → StoresRun first lines t next (suc n)
