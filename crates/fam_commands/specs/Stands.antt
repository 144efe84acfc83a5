-- Which task stands for a command after so many operations and the words that its loads gave.
use Rattle.std.specs.Prelude.{ℕ, ◌≡◌, ◌+◌, List, [], ◌∷◌, ◌++◌, Option, Some, None}
use Rattle.fam_base.specs.declared.cmd.Cmd.{Cmd}
use Rattle.fam_machine.specs.Operations.{given_by}
use Rattle.fam_commands.specs.Kept.{Kept}
use Rattle.fam_commands.specs.Task.{Task, mounted, op_of}
use Rattle.fam_commands.specs.Turns.{Turn, Goes, Marks, Finds, Writes, Ends, turn_of}
use Rattle.fam_commands.specs.Table.{RowNote, Quiet, Mark, Found, Writing, Answer}

-- words with one more, where there is one
abbrev pub with_given : List ℕ → Option ℕ → List ℕ
with_given words None = words
with_given words (Some word) = words ++ word ∷ []

-- the task after a turn, where it goes on
abbrev pub task_after : Turn → Option Task
task_after (Goes t) = Some t
task_after (Marks t) = Some t
task_after (Finds n t) = Some t
task_after (Writes seq e t) = Some t
task_after (Ends reply) = None

-- what a turn notes
abbrev pub note_of : Turn → RowNote
note_of (Goes t) = Quiet
note_of (Marks t) = Mark
note_of (Finds n t) = Found n
note_of (Writes seq e t) = Writing seq e
note_of (Ends reply) = Answer reply

-- the turn of a task whose operation gave this word, if it gives one
abbrev pub turn_given : Task → ℕ → Turn
turn_given t word = turn_of t (given_by (op_of t) word)

-- the task is where the command, on a host that kept this, stands after these words and so many operations
pub data StandsFor (kept : Option Kept) (cmd : Cmd) (me : List ℕ) (lines : ℕ) : Task → List ℕ → ℕ → Type 0 where
  starts : StandsFor kept cmd me lines (mounted kept cmd me lines) [] 0
  goes : {t next : Task} {words : List ℕ} {made : ℕ} (word : ℕ) → StandsFor kept cmd me lines t words made → task_after (turn_given t word) ≡ Some next → StandsFor kept cmd me lines next (with_given words (given_by (op_of t) word)) (made + 1)
