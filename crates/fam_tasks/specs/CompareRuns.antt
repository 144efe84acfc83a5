-- Lines of a file that is compared, which stand one behind another on the device and are dropped and loaded one after another.
use Rattle.std.specs.Prelude.{ℕ, suc, ◌≡◌, ◌+◌, ◌<◌, List}
use Rattle.fam_base.specs.Image.{eight}
use Rattle.fam_content.specs.Stream.{line_in}
use Rattle.fam_machine.specs.Operations.{line_no}
use Rattle.fam_commands.specs.declared.phase.Part.TheVariants.{File}
use Rattle.fam_commands.specs.declared.phase.Phase.TheVariants as at
use Rattle.fam_commands.specs.Classes.{IsVerify}
use Rattle.fam_commands.specs.Task.{Task, part_line, size_of, wanted_lines}
use Rattle.fam_tasks.specs.declared.answer.Turn.{Turn}
use Rattle.fam_tasks.specs.declared.answer.Turn.TheVariants.{Go}
use Rattle.fam_tasks.specs.Rest.{ComparesLine}
use Rattle.fam_tasks.specs.Sound.{IsSound}

-- so many lines of the file, from the one on that is dropped next, stand one behind another, from line `first` of the device on,
-- and behind them one more is wanted
pub record IsComparedRow (first n : ℕ) (t : Task) : Type 0 where
  pub j : ℕ
  pub phase : t.phase ≡ at.Drop File j
  pub verify : IsVerify t.cmd
  pub more : j + n < wanted_lines t.cmd (size_of t.entry)
  pub each : (k : ℕ) → k < n → part_line t File (j + k) ≡ first + k

-- the first task drops and loads so many of these lines, from line `first` on, and goes on behind each but the last, behind which
-- it takes this turn, up to the last task
pub data ComparesRun (first : ℕ) (lines : List (List ℕ)) : Task → Task → ℕ → Turn → Type 0 where
  none : {t : Task} → ComparesRun first lines t t 0 Go
  more : {t mid next : Task} {n : ℕ} {turn : Turn} → ComparesRun first lines t mid n Go → IsSound mid → ComparesLine (line_no (first + n)) (eight (line_in lines n)) mid next turn
      → ComparesRun first lines t next (suc n) turn
