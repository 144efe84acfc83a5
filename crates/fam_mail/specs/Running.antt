-- What one operation of a task does to the task, to its host's cache and to memory, over any media.
use Rattle.std.specs.Prelude.{ℕ, ◌≡◌, ◌<◌, Option, Result, Ok, Err, false, unwrap_or}
use Rattle.fam_base.specs.Image.{Image}
use Rattle.fam_base.specs.declared.line.LineNo.{LineNo}
use Rattle.fam_cache.specs.States.{CacheState}
use Rattle.fam_cache.specs.declared.fault.OperationFault.{OperationFault}
use Rattle.fam_cache.specs.declared.fault.OperationFault.TheVariants as fault
use Rattle.fam_machine.specs.Caches.{Cache, cell_at}
use Rattle.fam_machine.specs.Cuts.{HasFailed, IsMachine}
use Rattle.fam_machine.specs.OneLine.{IsHeld}
use Rattle.fam_machine.specs.Operations.{given, machine, operated}
use Rattle.fam_media.specs.Causes.{Rose}
use Rattle.fam_media.specs.Outside.{IfModelled}
use Rattle.fam_media.specs.States.{MediaState}
use Rattle.fam_mail.specs.declared.turn.Turn.{Turn}
use Rattle.fam_mail.specs.Tasks.{MailTask, ends_mail_task, task_op, next_task, mail_turn}

-- every line that a cache holds is one of a media of so many lines
abbrev pub LinesFit : ℕ → Cache → Type 0
LinesFit lines cache = (l : ℕ) → IsHeld (cell_at cache l) → l < lines

-- what stands around an operation: where the file's lines are, the task, the cache, the image where it is modelled, and the
-- count of faults
pub record Around : Type 0 where
  pub place : ℕ → ℕ
  pub task : MailTask
  pub next : MailTask
  pub old : Cache
  pub new : Cache
  pub told : Option Image
  pub left : Option Image
  pub before : ℕ
  pub now : ℕ

-- around a call on a media, of which this tells the state
abbrev pub around : {M : Type 0} → (M → MediaState) → (ℕ → ℕ) → MailTask → MailTask → CacheState → CacheState → M → M → Around
around state place task next old new before after = record {
  place = place;
  task = task;
  next = next;
  old = old.lines;
  new = new.lines;
  told = (state before).image;
  left = (state after).image;
  before = (state before).faults;
  now = (state after).faults;
}

-- the operation that comes next was done, and gave this word, if it is a load; with it the task takes this turn, and goes on
pub record IsTaskDone (a : Around) (turn : Turn) : Type 0 where
  pub word : ℕ
  pub done : IfModelled a.told (λ image. IsMachine (operated (task_op a.place a.task) (machine image a.old)) a.left a.new)
  pub word_is : IfModelled a.told (λ image. word ≡ unwrap_or (given (task_op a.place a.task) (machine image a.old)) 0)
  pub turn_is : turn ≡ mail_turn word a.task
  pub goes : ends_mail_task turn ≡ false → a.next ≡ next_task word a.task

-- the media failed in it, at this line. The task still stands before it
pub record IsTaskBroken (a : Around) (line : LineNo) : Type 0 where
  pub task : a.next ≡ a.task
  pub failed : IfModelled a.told (λ image. HasFailed (task_op a.place a.task) (machine image a.old) line a.left a.new)
  pub rose : Rose a.before a.now

-- nothing was done
pub record IsTaskUndone (a : Around) : Type 0 where
  pub task : a.next ≡ a.task
  pub cache : a.new ≡ a.old
  pub image : a.left ≡ a.told
  pub faults : a.now ≡ a.before

-- what came of one operation
abbrev pub TaskOperated : Around → Result Turn OperationFault → Type 0
TaskOperated a (Ok turn) = IsTaskDone a turn
TaskOperated a (Err (fault.MediaFault line)) = IsTaskBroken a line
TaskOperated a (Err fault.OutOfMemory) = IsTaskUndone a
