-- What came of one operation, from what the cache tells of it.
use Rattle.std.proofs.Common.{ℕ, ◌≡◌, ◌<◌, Option, Ok, Err, Result, refl, sym, ap, subst, ◌∙◌}
use Rattle.std.specs.Prelude.{IsErrOf}
use Rattle.fam_machine.specs.declared.op.Op.{Op}
use Rattle.fam_machine.specs.Caches.{Cache}
use Rattle.fam_machine.specs.Cuts.{HasFailed, IsMachine}
use Rattle.fam_machine.specs.Operations.{IsWithin, given, machine, operated}
use Rattle.fam_media.specs.Causes.{Rose}
use Rattle.fam_media.specs.Outside.{IfModelled}
use Rattle.fam_media.specs.States.{MediaState}
use Rattle.fam_cache.specs.declared.fault.OperationFault.{OperationFault}
use Rattle.fam_cache.specs.declared.fault.OperationFault.TheVariants as fault
use Rattle.fam_cache.specs.Faults.{IfMediaFault}
use Rattle.fam_cache.specs.Operations.{IsAtLine, LeavesCache, LeavesFailed, word_of}
use Rattle.fam_commands.specs.Task.{Task, op_of}
use Rattle.fam_commands.specs.Turns.{turn_of}
use Rattle.fam_tasks.specs.declared.answer.Turn.{Turn}
use Rattle.fam_tasks.specs.Sound.{IsSound}
use Rattle.fam_tasks.specs.Tells.{Keeps, Tells}
use Rattle.fam_run.specs.Led.{Advanced, HasDone, none}
use Rattle.fam_run.specs.Operation.{IsDone, IsUndone, Operated, said_of}
use Rattle.fam_run.specs.TaskChange.{TaskChange}
use Rattle.fam_run.proofs.Operations.{goes_by_word, turned}
use Rattle.fam_run.proofs.Running.{lines_kept, no_fault}

module _ (a : TaskChange) (op : Op) (is : op ≡ op_of a.task) (sound : IsSound a.task) (within : IsWithin a.task.lines op) where
  -- it was done, and the task was told its word
  pub done : (word : Option ℕ) (turn : Turn)
      → IfModelled a.media.old.image (λ image. IsMachine (operated op (machine image a.old)) a.media.new.image a.new)
      → IfModelled a.media.old.image (λ image. word ≡ given op (machine image a.old)) → LeavesCache op a.media.old.image a.old a.new
      → word ≡ word_of op a.new → Tells (turn_of a.task word) turn a.next → Keeps a.task (turn_of a.task word) a.next → IsDone a turn
  done word turn does gives leaves word_is tells keeps =
      let goes = goes_by_word a.task a.next op word turn a.new is word_is tells in
      record {
        sound = sound;
        within = subst (IsWithin a.task.lines) is within;
        leaves = subst (λ (o : Op). LeavesCache o a.media.old.image a.old a.new) is leaves;
        goes = goes;
        keeps = lines_kept a.new a.task a.next turn sound goes;
        kept = subst (λ (w : Option ℕ). Keeps a.task (turn_of a.task w) a.next) (word_is ∙ ap (λ (o : Op). word_of o a.new) is) keeps;
        turned = turned a.task a.next op word turn a.media.old.image a.media.new.image a.old a.new is does gives tells;
        own = no_fault (turn_of a.task word) turn a.next tells;
      }

  -- the media failed in it, or no memory was found
  pub failed : (f : OperationFault) → a.next ≡ a.task → LeavesFailed op a.old a.new
      → IfMediaFault f (λ line. IfModelled a.media.old.image (λ image. HasFailed op (machine image a.old) line a.media.new.image a.new))
      → IfMediaFault f (λ line. IsAtLine op line a.old) → IfMediaFault f (λ line. line.0 < a.lines)
      → IfMediaFault f (λ line. Rose a.media.old.faults a.media.new.faults) → (f ≡ fault.OutOfMemory → IsUndone a) → Operated a (Err f)
  failed (fault.MediaFault line) same copies fails at inside rose undone = record {
    sound = sound;
    within = subst (IsWithin a.task.lines) is within;
    task = same;
    copies = subst (λ (o : Op). LeavesFailed o a.old a.new) is copies;
    failed = subst (λ (o : Op). IfModelled a.media.old.image (λ image. HasFailed o (machine image a.old) line a.media.new.image a.new)) is fails;
    at = subst (λ (o : Op). IsAtLine o line a.old) is at;
    inside = inside;
    rose = rose;
  }
  failed fault.OutOfMemory same copies fails at inside rose undone = undone refl

-- one operation is none and one behind it
pub alone : (a : TaskChange) (r : Result Turn OperationFault) → Operated a r → Advanced a r
alone a (Ok turn) x = record { task = a.task; held = a.old; led = none; sound = x.sound; within = x.within; leaves = x.leaves; goes = x.goes; kept = x.kept; turned = x.turned; own = x.own }
alone a (Err (fault.MediaFault line)) x =
    record {
      task = a.task;
      held = a.old;
      led = none;
      sound = x.sound;
      within = x.within;
      kept = ap (λ (t : Task). t.kept) x.task;
      copies = x.copies;
      failed = x.failed;
      rose = x.rose;
      inside = x.inside;
    }
alone a (Err fault.OutOfMemory) x = x

-- what came from where nothing was done before
pub from_same : (a : TaskChange) (r : Result Turn OperationFault) (task : Task) (old : Cache) (media : MediaState) (lines : ℕ) → task ≡ a.task → old ≡ a.old → media ≡ a.media.old → lines ≡ a.lines
    → Advanced (record a { task = task; old = old; lines = lines; media = record { old = media; new = a.media.new } }) r → Advanced a r
from_same a r task old media lines task_is old_is media_is lines_is x =
    subst (λ (m : MediaState). Advanced (record a { media = record { old = m; new = a.media.new } }) r) media_is
    (subst (λ (n : ℕ). Advanced (record a { lines = n; media = record { old = media; new = a.media.new } }) r) lines_is
    (subst (λ (c : Cache). Advanced (record a { old = c; lines = lines; media = record { old = media; new = a.media.new } }) r) old_is
    (subst (λ (t : Task). Advanced (record a { task = t; old = old; lines = lines; media = record { old = media; new = a.media.new } }) r) task_is x)))

-- what was done before nothing more was
pub to_same : (a : TaskChange) (said : Turn) (next : Task) (new : Cache) (media : MediaState) → next ≡ a.next → new ≡ a.new → media ≡ a.media.new → HasDone a said
    → HasDone (record a { next = next; new = new; media = record { old = a.media.old; new = media } }) said
to_same a said next new media next_is new_is media_is x =
    subst (λ (t : Task). HasDone (record a { next = t; new = new; media = record { old = a.media.old; new = media } }) said) (sym next_is)
    (subst (λ (c : Cache). HasDone (record a { new = c; media = record { old = a.media.old; new = media } }) said) (sym new_is)
    (subst (λ (m : MediaState). HasDone (record a { media = record { old = a.media.old; new = m } }) said) (sym media_is) x))

-- where no memory was found the call says so
pub said_full : (r : Result (Unit {0}) OperationFault) (turn : Turn) → said_of r turn ≡ Err fault.OutOfMemory → IsErrOf r fault.OutOfMemory
said_full (Ok done) turn is = absurd cc
said_full (Err f) turn is = cc
