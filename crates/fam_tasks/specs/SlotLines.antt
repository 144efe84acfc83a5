-- A line of a slot, which is dropped and whose words are all loaded; and lines of a slot, one behind another.
use Rattle.std.specs.Prelude.{ℕ, zero, suc, ◌≡◌, ◌+◌, ◌<◌, List, [], ◌++◌, None, Some, slice_index}
use Rattle.fam_base.specs.Image.{line_at}
use Rattle.fam_base.specs.declared.line.LineNo.{LineNo}
use Rattle.fam_machine.specs.Operations.{line_no}
use Rattle.fam_commands.specs.declared.phase.Part.TheVariants.{Slot}
use Rattle.fam_commands.specs.declared.phase.Phase.TheVariants as at
use Rattle.fam_commands.specs.Task.{Task, part_line}
use Rattle.fam_commands.specs.Turns.{Goes, turn_of}
use Rattle.fam_tasks.specs.Rest.{DropsLine, Loads}
use Rattle.fam_tasks.specs.Sound.{IsSound}

-- this line of a slot is dropped next
pub record IsSlotLine (line : LineNo) (t : Task) : Type 0 where
  pub slot : ℕ
  pub j : ℕ
  pub phase : t.phase ≡ at.Drop (Slot slot) j
  pub is : line.0 ≡ part_line t (Slot slot) j
  pub within : line.0 < t.lines

-- the first task drops the line and loads all its words, one after another, which are these, and goes on up to the last
-- task
pub record LoadsSlotLine (line : LineNo) (words : List ℕ) (t next : Task) : Type 0 where
  pub dropped : Task
  pub drops : DropsLine line t dropped
  pub dropped_sound : IsSound dropped
  -- behind the first word
  pub begun : Task
  pub turn : turn_of dropped (Some (slice_index words 0)) ≡ Goes begun
  pub rest : Loads line words begun next 7

-- the words of the first n of these lines, one behind another
abbrev pub words_in : List (List ℕ) → ℕ → List ℕ
words_in lines zero = []
words_in lines (suc n) = words_in lines n ++ line_at lines n

-- the first task drops and loads so many lines, the words of which are these, from line `first` on, and goes on up to the last
-- task
pub data LoadsSlotLines (first : ℕ) (lines : List (List ℕ)) : Task → Task → ℕ → Type 0 where
  none : {t : Task} → LoadsSlotLines first lines t t 0
  more : {t mid next : Task} {n : ℕ} → LoadsSlotLines first lines t mid n → IsSound mid → LoadsSlotLine (line_no (first + n)) (line_at lines n) mid next → LoadsSlotLines first lines t next (suc n)

-- the first task drops and loads all lines of slot i, so many, the words of which are these, from line `first` on, looks at
-- them, and just goes on to the last task
pub record FindsSlot (first : ℕ) (lines : List (List ℕ)) (count i : ℕ) (t next : Task) : Type 0 where
  -- before it looks at them
  pub loaded : Task
  pub loads : LoadsSlotLines first lines t loaded count
  pub sound : IsSound loaded
  pub phase : loaded.phase ≡ at.Check i
  pub turn : turn_of loaded None ≡ Goes next
