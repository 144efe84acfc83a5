-- What a world says of so many operations by one call is what an event says of them.
use Rattle.std.proofs.Common.{◌≡◌, ℕ, ◌<◌, suc, inl, inr, Bool, true, false, List, length, Option, Some, None, Result, Ok, Err, refl, arith}
use Rattle.fam_base.specs.Image.{Image}
use Rattle.fam_media.specs.Files.{Files}
use Rattle.fam_media.specs.Outside.{IfModelled}
use Rattle.fam_media.specs.States.{ShelfChange}
use Rattle.fam_journal.specs.declared.event.Event.TheVariants.{Step}
use Rattle.fam_journal.specs.CallRecords.{FitsMedia}
use Rattle.fam_journal.specs.Shapes.{IsShaped}
use Rattle.fam_journal.specs.View.{WorldView}
use Rattle.fam_journal.specs.ByWorld.{number_in, refusal_in}
use Rattle.fam_journal.specs.Calls.{Steps}
use Rattle.fam_journal.proofs.Shapes.Running.{free_runs}
use Rattle.fam_world.specs.Counted.{Iterated, StepsSay, WorldStanding, WorldStep, none, more}
use Rattle.fam_world.proofs.Finishing.{free_of, next_so_far, so_far}
use Rattle.fam_world.specs.declared.fault.Moved.{Moved}
use Rattle.fam_world.specs.declared.fault.Moved.TheVariants as moved
use Rattle.fam_world.specs.declared.fault.WorldFault.{WorldFault}
use Rattle.fam_world.specs.declared.fault.WorldFault.TheVariants as fault
use Rattle.fam_events.specs.WorldChange.{WorldChange, still}
use Rattle.fam_events.specs.Happens.{EventDone, EventPart, EventSays}
use Rattle.fam_events.specs.declared.fault.EventFault.{EventFault}
use Rattle.fam_events.specs.declared.fault.EventFault.TheVariants as event_fault
use Rattle.fam_events.proofs.Stepping.{done_event, next_of, none_done, part_event, refused_event}

-- what the event answers
abbrev pub event_result : Result Moved WorldFault → Result (Unit {0}) EventFault
event_result (Ok moved) = Ok tt
event_result (Err (fault.Refused cause)) = Ok tt
event_result (Err fault.OutOfMemory) = Err event_fault.OutOfMemory

-- before an event: nothing has changed
abbrev pub before_event : ℕ → WorldView → Option Image → ℕ → Option Files → ℕ → WorldChange
before_event lines old told faults files copied = still lines old old told faults files copied

module _ (name : List ℕ) (lines : ℕ) (old : WorldView) (told : Option Image) (faults : ℕ) (files : Option Files) (copied : ℕ) (shaped : IsShaped old)
    (fits : FitsMedia lines old.hosts) (modelled : IfModelled told (λ image. length image ≡ lines)) where
  abbrev start : WorldStanding
  start = record { world = old; media = record { image = told; faults = faults } }

  -- an event that has come so far
  abbrev pub come : WorldStanding → WorldChange
  come s = next_of (before_event lines old told faults files copied) s.world s.media.image s.media.faults

  -- the first step wasn't refused
  first_free : (s : WorldStanding) {n : ℕ} → Iterated (WorldStep name lines false) start s n → (over : Bool) (next : WorldStanding)
      → WorldStep name lines over s next → refusal_in (Steps name) old lines ≡ None
  first_free _ none over next x = free_of (Steps name) lines faults next.media.faults old next.world x.step.answers.answers
  first_free s (more {b = mid} before last) over next x = first_free mid before false s last

  -- its host
  host_of : refusal_in (Steps name) old lines ≡ None → (at : ℕ) × (number_in name old ≡ Some at)
  host_of free = let r = free_runs lines old shaped name free in (r.0, r.1)

  all_done : (limit : ℕ) → 0 < limit → (s : WorldStanding) → Iterated (WorldStep name lines false) start s limit → EventDone (Step name limit) (come s)
  all_done _ some _ none = absurd (omega (arith, some))
  all_done _ some s (more {b = mid} {n = n} before last) =
      let free = first_free mid before false s last in
      let host = host_of free in
      done_event name (come s) shaped fits host.0 (suc n) false host.1 free (so_far name host.0 lines start s host.1 (more before last)) modelled (suc n) (omega arith) (inl refl) refl

  some_done : (limit : ℕ) (s : WorldStanding) {n : ℕ} → n < limit → Iterated (WorldStep name lines false) start s n → EventPart (Step name limit) (come s)
  some_done limit _ less none = none_done name (come start) shaped fits limit (record { world = refl; media = refl; count = refl })
  some_done limit s less (more {b = mid} {n = n} before last) =
      let free = first_free mid before false s last in
      let host = host_of free in
      part_event name (come s) shaped fits host.0 (suc n) false host.1 free (so_far name host.0 lines start s host.1 (more before last)) modelled limit (omega (arith, less)) refl

  pub event_says : (limit : ℕ) → 0 < limit → (shelf : ShelfChange) (s : WorldStanding) (r : Result Moved WorldFault)
      → StepsSay name lines limit start s r → EventSays (Step name limit) shelf (come s) (event_result r)
  event_says limit some shelf s (Ok moved.Going) x = all_done limit some s x
  event_says limit some shelf s (Ok moved.Answered) x =
      let free = first_free x.before x.goes true s x.ends in
      let host = host_of free in
      done_event name (come s) shaped fits host.0 (suc x.count) true host.1 free
      (next_so_far (so_far name host.0 lines start x.before host.1 x.goes) host.1 x.ends) modelled limit
      (let less = x.within in omega (arith, less)) (inr refl) refl
  event_says limit some shelf s (Err (fault.Refused cause)) x =
      refused_event name (come start) shaped fits cause s.world s.media.image s.media.faults (record { world = refl; media = refl; count = refl }) x modelled limit refl
  event_says limit some shelf s (Err fault.OutOfMemory) x = some_done limit s x.within x.goes
