-- One operation of a host's task, as its host, its cache and its task tell it, on any media.
use Rattle.std.specs.Prelude.{ℕ, ◌≡◌, ◌⊎◌, ◌<◌, ◌≤◌, Bool, true, List, [], ◌∷◌, ◌++◌, None}
use Rattle.std.specs.List.{list_any}
use Rattle.fam_base.specs.declared.line.LineNo.{LineNo}
use Rattle.fam_media.specs.Causes.{Rose}
use Rattle.fam_media.specs.Outside.{IfModelled}
use Rattle.fam_media.specs.States.{MediaChange}
use Rattle.fam_cache.specs.States.{CacheState}
use Rattle.fam_machine.specs.Caches.{cell_at}
use Rattle.fam_machine.specs.Cuts.{HasFailed, IsMachine}
use Rattle.fam_machine.specs.OneLine.{IsHeld}
use Rattle.fam_machine.specs.Operations.{machine, operated}
use Rattle.fam_commands.specs.Keeping.{kept_after}
use Rattle.fam_commands.specs.Stands.{note_of, task_after, turn_given}
use Rattle.fam_commands.specs.Task.{Task, op_of}
use Rattle.fam_journal.specs.CallRecords.{TaskFits, heading, own_turn}
use Rattle.fam_journal.specs.Ends.{is_answer_note}
use Rattle.fam_journal.specs.Machines.{notes_of}
use Rattle.fam_journal.specs.Notes.{Note, Answered, MediaFault}
use Rattle.fam_journal.specs.View.{HostView}

-- every line that a cache holds is one of a media of so many lines
pub record CacheFits (lines : ℕ) (cache : CacheState) : Type 0 where
  pub below : (l : ℕ) → IsHeld (cell_at cache.lines l) → l < lines

-- a host, the journal, how many lines the media has, and what it tells, before and behind an operation
pub record HostChange : Type 0 where
  pub old : HostView
  pub new : HostView
  pub before : List Note
  pub after : List Note
  pub lines : ℕ
  pub media : MediaChange

-- the media served it: the task goes on, or ends, by a word; that which the machine gives, where an image is modelled
pub record IsServed (at : ℕ) (t : Task) (a : HostChange) (notes : List Note) (over : Bool) : Type 0 where
  pub word : ℕ
  pub notes_are : notes ≡ notes_of at (note_of (turn_given t word))
  pub task : a.new.task ≡ task_after (turn_given t word)
  pub kept : a.new.kept ≡ kept_after (turn_given t word) t a.old.kept
  pub done : IfModelled a.media.old.image (λ image. IsMachine (operated (op_of t) (machine image a.old.cache)) a.media.new.image a.new.cache)
  pub own : IfModelled a.media.old.image (λ image. turn_given t word ≡ own_turn image a.old t)
  pub held : (l : ℕ) → IsHeld (cell_at a.new.cache l) → (l < a.lines) ⊎ IsHeld (cell_at a.old.cache l)
  pub fits : TaskFits t.lines a.new.task
  pub over_is : over ≡ list_any is_answer_note notes

-- the media failed in it: the task is gone, and the cache holds no line more
pub record StepFailed (at : ℕ) (t : Task) (a : HostChange) (notes : List Note) (over : Bool) : Type 0 where
  pub line : LineNo
  pub notes_are : notes ≡ Answered at (MediaFault line.0) ∷ []
  pub task : a.new.task ≡ None
  pub kept : a.new.kept ≡ a.old.kept
  pub held : (l : ℕ) → IsHeld (cell_at a.new.cache l) → IsHeld (cell_at a.old.cache l)
  pub failed : IfModelled a.media.old.image (λ image. HasFailed (op_of t) (machine image a.old.cache) line a.media.new.image a.new.cache)
  pub rose : Rose a.media.old.faults a.media.new.faults
  pub over_is : over ≡ true

-- one or the other, with these notes more
pub record StepsHost (at : ℕ) (t : Task) (a : HostChange) (over : Bool) : Type 0 where
  pub notes : List Note
  pub joined : a.after ≡ a.before ++ notes
  pub host : heading a.new ≡ heading a.old
  pub later : a.media.old.faults ≤ a.media.new.faults
  pub how : IsServed at t a notes over ⊎ StepFailed at t a notes over
