-- Operations that leave memory's image, one behind another, behind which one more was done or the media failed in one.
use Rattle.std.proofs.Common.{ℕ, ◌≡◌, ◌<◌, ◌≤◌, inl, inr, Option, sym, subst, arith}
use Rattle.fam_base.specs.Image.{Image}
use Rattle.fam_base.specs.declared.line.LineNo.{LineNo}
use Rattle.fam_machine.specs.Caches.{Cache}
use Rattle.fam_machine.specs.Operations.{machine}
use Rattle.fam_cache.specs.Operations.{word_of}
use Rattle.fam_commands.specs.Task.{Task, op_of}
use Rattle.fam_media.specs.Causes.{Rose}
use Rattle.fam_media.specs.Outside.{IfModelled}
use Rattle.fam_tasks.specs.declared.answer.Turn.{Turn}
use Rattle.fam_tasks.specs.declared.answer.Turn.TheVariants.{Go}
use Rattle.fam_tasks.proofs.Keeping.{go_keeps}
use Rattle.fam_run.specs.Led.{HasBrokenOff, HasDone, KeepsMemory, Led, none, more}
use Rattle.fam_run.specs.Operation.{HasTurned}
use Rattle.fam_run.specs.TaskChange.{TaskChange}

-- some behind others
pub led_both : (modelled : Option Image) (t mid next : Task) (held now after : Cache) → Led modelled t held mid now → Led modelled mid now next after → Led modelled t held next after
led_both modelled t mid _ held now _ first none = first
led_both modelled t mid next held now after first (more {mid = u} {now = v} before quiet) = more (led_both modelled t mid u held now v first before) quiet

-- one that was done, behind which the task just goes on, is one of them
done_quiet : (a : TaskChange) → a.media.new.image ≡ a.media.old.image → (done : HasDone a Go) → KeepsMemory a.media.old.image done.task done.held a.next a.new
done_quiet a same done = record {
  sound = done.sound;
  within = done.within;
  leaves = done.leaves;
  goes = done.goes;
  turned = subst (λ (left : Option Image). IfModelled a.media.old.image (λ image. HasTurned done.task (machine image done.held) Go a.next left a.new)) same done.turned;
}

quiet_done : (a : TaskChange) → a.media.new.image ≡ a.media.old.image → (task : Task) (held : Cache) → Led a.media.old.image a.task a.old task held
    → KeepsMemory a.media.old.image task held a.next a.new → HasDone a Go
quiet_done a same task held led quiet = record {
  task = task;
  held = held;
  led = led;
  sound = quiet.sound;
  within = quiet.within;
  leaves = quiet.leaves;
  goes = quiet.goes;
  kept = go_keeps task a.next (word_of (op_of task) a.new) quiet.goes;
  turned = subst (λ (left : Option Image). IfModelled a.media.old.image (λ image. HasTurned task (machine image held) Go a.next left a.new)) (sym same) quiet.turned;
  own = λ line is. absurd cc;
}

pub done_led : (a : TaskChange) → a.media.new.image ≡ a.media.old.image → HasDone a Go → Led a.media.old.image a.task a.old a.next a.new
done_led a same done = more done.led (done_quiet a same done)

module _ (modelled shown : Option Image) (same : shown ≡ modelled) (size before now : ℕ) where
  -- of one and those behind it the last one was done
  pub led_done : (t task mid next : Task) (old held here new : Cache) → Led modelled t old task held → KeepsMemory modelled task held mid here
      → Led modelled mid here next new
      → HasDone (record {
        task = t;
        next = next;
        old = old;
        new = new;
        lines = size;
        media =
            record { old = record { image = modelled; faults = before }; new = record { image = shown; faults = now } };
      }) Go
  led_done t task mid _ old held here _ led quiet none =
      quiet_done (record {
        task = t;
        next = mid;
        old = old;
        new = here;
        lines = size;
        media =
            record { old = record { image = modelled; faults = before }; new = record { image = shown; faults = now } };
      }) same task held led quiet
  led_done t task mid next old held here new led quiet (more {mid = u} {now = v} others last) =
      quiet_done (record {
        task = t;
        next = next;
        old = old;
        new = new;
        lines = size;
        media =
            record { old = record { image = modelled; faults = before }; new = record { image = shown; faults = now } };
      }) same u v
      (led_both modelled t mid u old here v (more led quiet) others) last

-- a count of faults that rose later
rose_since : (before mid now : ℕ) → before ≤ mid → Rose mid now → Rose before now
rose_since before mid now later (inl less) = inl (omega (arith, later, less))
rose_since before mid now later (inr most) = inr most

-- Behind what was done up to a task and its cache, memory's image is what it was.
module _ (a : TaskChange) (same : a.media.new.image ≡ a.media.old.image) (done : HasDone a Go) (next : Task) (new : Cache) (left : Option Image) (now size before : ℕ) where
  -- both
  abbrev both : TaskChange
  both = record a { next = next; new = new; media = record { old = a.media.old; new = record { image = left; faults = now } } }

  -- what comes behind, from what the media tells of its image then
  abbrev behind_on : Option Image → TaskChange
  behind_on image = record {
    task = a.next;
    next = next;
    old = a.new;
    new = new;
    lines = size;
    media =
        record { old = record { image = image; faults = before }; new = record { image = left; faults = now } };
  }

  abbrev behind : TaskChange
  behind = behind_on a.media.new.image

  -- more was done
  pub done_both : left ≡ a.media.old.image → HasDone behind Go → HasDone both Go
  done_both still more_done =
      let then : HasDone (behind_on a.media.old.image) Go = subst (λ (m : Option Image). HasDone (behind_on m) Go) same more_done in
      led_done a.media.old.image left still a.lines a.media.old.faults now a.task done.task a.next next a.old done.held a.new new done.led (done_quiet a same done)
      (done_led (behind_on a.media.old.image) still then)

  -- one more was done, with which the task takes this turn
  pub done_then : (turn : Turn) → HasDone behind turn → HasDone both turn
  done_then turn last =
      let then : HasDone (behind_on a.media.old.image) turn = subst (λ (m : Option Image). HasDone (behind_on m) turn) same last in
      record {
        task = then.task;
        held = then.held;
        led = led_both a.media.old.image a.task a.next then.task a.old a.new then.held (done_led a same done) then.led;
        sound = then.sound;
        within = then.within;
        leaves = then.leaves;
        goes = then.goes;
        kept = then.kept;
        turned = then.turned;
        own = then.own;
      }

  -- the media failed behind it
  pub broken_behind : (line : LineNo) → a.media.old.faults ≤ before → size ≡ a.lines → HasBrokenOff behind line → HasBrokenOff both line
  broken_behind line later sizes broken =
      let then : HasBrokenOff (behind_on a.media.old.image) line = subst (λ (m : Option Image). HasBrokenOff (behind_on m) line) same broken in
      record {
        task = then.task;
        held = then.held;
        led = led_both a.media.old.image a.task a.next then.task a.old a.new then.held (done_led a same done) then.led;
        sound = then.sound;
        within = then.within;
        kept = then.kept;
        copies = then.copies;
        failed = then.failed;
        rose = rose_since a.media.old.faults before now later then.rose;
        inside = subst (λ (n : ℕ). line.0 < n) sizes then.inside;
      }
