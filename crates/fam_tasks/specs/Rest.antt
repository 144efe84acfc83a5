-- The rest of a line, whose first word a task has loaded or stored: the operations up to its last word, as a whole. And
-- a line of the new file, whose words are all stored, and one that is compared, whose words are all loaded.
use Rattle.std.specs.Prelude.{ℕ, suc, ◌≡◌, ◌+◌, ◌*◌, ◌<◌, ◌⊎◌, true, List, Some, None, slice_index}
use Rattle.fam_base.specs.declared.line.LineNo.{LineNo}
use Rattle.fam_format.specs.Layout.{slot_line}
use Rattle.fam_format.specs.Line.{last_word, line_words}
use Rattle.fam_machine.specs.declared.op.Op.TheVariants.{Load, Store, Invalidate}
use Rattle.fam_machine.specs.Operations.{IsWithin}
use Rattle.fam_commands.specs.declared.phase.Part.{Part}
use Rattle.fam_commands.specs.declared.phase.Part.TheVariants.{File}
use Rattle.fam_commands.specs.declared.phase.Phase.{Phase}
use Rattle.fam_commands.specs.declared.phase.Phase.TheVariants as at
use Rattle.fam_commands.specs.Task.{Task, data_words, line_of, op_of, part_line}
use Rattle.fam_commands.specs.Turns.{Goes, turn_of}
use Rattle.fam_commands.specs.Classes.{IsVerify}
use Rattle.fam_tasks.specs.Sound.{IsSound}
use Rattle.fam_tasks.specs.declared.answer.Turn.{Turn}
use Rattle.fam_tasks.specs.Tells.{Keeps, Tells, is_reading}

-- word 1 of this line of a part is loaded next
pub record IsRest (line : LineNo) (t : Task) : Type 0 where
  pub part : Part
  pub j : ℕ
  pub phase : t.phase ≡ at.Word part j 1
  pub is : line.0 ≡ part_line t part j
  pub within : line.0 < t.lines

-- the first task loads so many words of this line, one after another, which are among these, and goes on up to the last
-- task
pub data Loads (line : LineNo) (words : List ℕ) : Task → Task → ℕ → Type 0 where
  none : {t : Task} → Loads line words t t 0
  more : {t mid next : Task} {n : ℕ} → Loads line words t mid n → IsSound mid → (k : ℕ) → op_of mid ≡ Load line k → IsWithin mid.lines (op_of mid) → turn_of mid (Some (slice_index words k)) ≡ Goes next → Loads line words t next (suc n)

-- the words of line j of a part were loaded, from word 1 on, up to word k, which comes next
pub record Taken (line : LineNo) (words : List ℕ) (part : Part) (j : ℕ) (t now : Task) (k : ℕ) : Type 0 where
  pub count : ℕ
  pub behind : k ≡ suc count
  pub loads : Loads line words t now count
  pub phase : now.phase ≡ at.Word part j k
  pub is : line.0 ≡ part_line now part j
  pub within : line.0 < now.lines

-- word 1 of this line of the new file is stored next, and these are the line's words
pub record IsFileRest (line : LineNo) (words : List ℕ) (t : Task) : Type 0 where
  pub j : ℕ
  pub phase : t.phase ≡ at.StoreData j 1
  pub is : line.0 ≡ line_of t.entry j
  pub words_are : (k : ℕ) → k < 8 → slice_index words k ≡ slice_index (data_words t j) k
  pub within : line.0 < t.lines

-- word 1 of this line of the new slot is stored next, and these are the line's words
pub record IsSlotRest (line : LineNo) (words : List ℕ) (t : Task) : Type 0 where
  pub j : ℕ
  pub phase : t.phase ≡ at.StoreSlot j 1
  pub is : line.0 ≡ slot_line t.params t.gate j
  pub words_are : (k : ℕ) → k < 8 → slice_index words k ≡ slice_index t.words (line_words * j + k)
  pub within : line.0 < t.lines

-- one or the other
abbrev pub IsStoreRest : LineNo → List ℕ → Task → Type 0
IsStoreRest line words t = IsFileRest line words t ⊎ IsSlotRest line words t

-- the first task stores so many of these words of this line, one after another, from word 1 on, and goes on up to the
-- last task
pub data Stores (line : LineNo) (words : List ℕ) : Task → Task → ℕ → Type 0 where
  begins : {t : Task} → Stores line words t t 0
  stores : {t mid next : Task} {n : ℕ} → Stores line words t mid n → IsSound mid → op_of mid ≡ Store line (suc n) (slice_index words (suc n)) → IsWithin mid.lines (op_of mid) → turn_of mid None ≡ Goes next → Stores line words t next (suc n)

-- the other words of line j of the new file were stored, and the line is sent next
pub record StoresFileRest (line : LineNo) (words : List ℕ) (j : ℕ) (t next : Task) : Type 0 where
  pub stores : Stores line words t next 7
  pub same : next ≡ record t { phase = at.SendData j }

-- word 0 of this line of the new file is stored next, and these are the line's words
pub record IsFileLineDue (line : LineNo) (words : List ℕ) (t : Task) : Type 0 where
  pub j : ℕ
  pub phase : t.phase ≡ at.StoreData j 0
  pub is : line.0 ≡ line_of t.entry j
  pub words_are : (k : ℕ) → k < 8 → slice_index words k ≡ slice_index (data_words t j) k
  pub within : line.0 < t.lines

-- the first task stores all words of this line, one after another, and goes on up to the last task, which sends the line
pub record StoresFileLine (line : LineNo) (words : List ℕ) (t next : Task) : Type 0 where
  pub begun : Task
  pub op : op_of t ≡ Store line 0 (slice_index words 0)
  pub within : line.0 < t.lines
  pub turn : turn_of t None ≡ Goes begun
  pub rest : Stores line words begun next 7
  pub sends : op_of next ≡ Invalidate line
  pub reads_on : is_reading next.phase ≡ true
  pub lines : next.lines ≡ t.lines

-- this line of a file that is compared is dropped next
pub record IsComparedLine (line : LineNo) (t : Task) : Type 0 where
  pub j : ℕ
  pub phase : t.phase ≡ at.Drop File j
  pub verify : IsVerify t.cmd
  pub is : line.0 ≡ part_line t File j
  pub within : line.0 < t.lines

-- the first task drops the line, and the other loads its first word next
pub record DropsLine (line : LineNo) (t next : Task) : Type 0 where
  pub within : line.0 < t.lines
  pub op : op_of t ≡ Invalidate line
  pub turn : turn_of t None ≡ Goes next
  pub loads : op_of next ≡ Load line 0
  pub lines : next.lines ≡ t.lines

-- the first task drops the line and loads its words, which are these: the last task is what the last one leaves, with
-- this turn
pub record ComparesLine (line : LineNo) (words : List ℕ) (t next : Task) (turn : Turn) : Type 0 where
  pub dropped : Task
  pub drops : DropsLine line t dropped
  pub dropped_sound : IsSound dropped
  -- behind the first word
  pub begun : Task
  pub begins : turn_of dropped (Some (slice_index words 0)) ≡ Goes begun
  -- before the last one
  pub due : Task
  pub loads : Loads line words begun due 6
  pub due_sound : IsSound due
  pub due_lines : due.lines ≡ t.lines
  pub last : op_of due ≡ Load line last_word
  pub tells : Tells (turn_of due (Some (slice_index words last_word))) turn next
  pub keeps : Keeps due (turn_of due (Some (slice_index words last_word))) next

-- so many words were stored, and the next one comes next, in this phase
pub record Stored (line : LineNo) (words : List ℕ) (phase_at : ℕ → Phase) (t now : Task) (n : ℕ) : Type 0 where
  pub stored : Stores line words t now n
  pub same : now ≡ record t { phase = phase_at (suc n) }
