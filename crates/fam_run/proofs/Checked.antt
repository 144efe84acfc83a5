-- The Digest of a slot.
use Rattle.std.proofs.Common.{ℕ, ◌≡◌, None, Ok, refl, ap, sym, subst}
use Rattle.fam_commands.specs.Task.{Task, op_at, op_of}
use Rattle.fam_commands.specs.Turns.{turn_of}
use Rattle.fam_commands.specs.declared.phase.Phase.TheVariants as at
use Rattle.fam_machine.specs.Caches.{Cache}
use Rattle.fam_machine.specs.declared.op.Op.TheVariants.{Digest}
use Rattle.fam_media.specs.States.{MediaState}
use Rattle.fam_tasks.specs.Sound.{IsSound}
use Rattle.fam_tasks.specs.Tells.{Keeps, Tells}
use Rattle.fam_tasks.specs.declared.answer.Turn.{Turn}
use Rattle.fam_tasks.specs.declared.answer.Turn.TheVariants.{Go}
use Rattle.fam_run.specs.Checked.{IsChecked, did, did_not}
use Rattle.fam_run.specs.Led.{HasDone}
use Rattle.fam_run.specs.Operation.{IsDone}
use Rattle.fam_run.specs.TaskChange.{TaskChange}
use Rattle.fam_run.proofs.Joined.{done_then}
use Rattle.fam_run.proofs.Operated.{alone, done}

-- a task that looks at the words of a slot has the Digest next
pub digest_next : (t : Task) (slot : ℕ) → t.phase ≡ at.Check slot → op_of t ≡ Digest
digest_next t slot phase = ap (op_at t) phase

-- and does it
pub checked : (t next : Task) (slot lines : ℕ) (turn : Turn) (cache : Cache) (media : MediaState) → t.phase ≡ at.Check slot → IsSound t
    → Tells (turn_of t None) turn next → Keeps t (turn_of t None) next
    → IsDone (record { task = t; next = next; old = cache; new = cache; lines = lines; media = record { old = media; new = media } }) turn
checked t next slot lines turn cache media phase sound told kept =
    let a : TaskChange = record { task = t; next = next; old = cache; new = cache; lines = lines; media = record { old = media; new = media } } in
    done a Digest (sym (digest_next t slot phase)) sound tt None turn (λ image is. record { image = is; cache = refl }) (λ image is. refl) refl refl told kept

-- behind operations that left memory's image it may be done too
pub checked_behind : (a : TaskChange) → a.media.new.image ≡ a.media.old.image → HasDone a Go → (next : Task) (turn : Turn)
    → IsChecked (record {
      task = a.next;
      next = next;
      old = a.new;
      new = a.new;
      lines = a.lines;
      media =
          record { old = a.media.new; new = a.media.new };
    }) turn
    → HasDone (record a { next = next }) turn
checked_behind a same before next turn (did last) =
    done_then a same before next a.new a.media.new.image a.media.new.faults a.lines a.media.new.faults turn
    (alone (record { task = a.next; next = next; old = a.new; new = a.new; lines = a.lines; media = record { old = a.media.new; new = a.media.new } }) (Ok turn) last)
checked_behind a same before next turn (did_not is go) =
    subst (λ (said : Turn). HasDone (record a { next = next }) said) (sym go) (subst (λ (t : Task). HasDone (record a { next = t }) Go) (sym is) before)
