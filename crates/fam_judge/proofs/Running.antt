-- The notes of a run of events on the machine stand at their places.
use Prim.Native.Nat.{zero, suc}
use Rattle.std.proofs.Common.{◌≡◌, inl, inr, ℕ, List, [], ◌∷◌, length, take, Some, refl, sym, subst}
use Rattle.std.specs.Prelude.{⊤, slice_get}
use Rattle.std.proofs.lemmas.Option.{same_Some}
use Rattle.fam_base.specs.declared.cmd.Cmd.{Cmd}
use Rattle.fam_base.specs.Image.{Image}
use Rattle.fam_media.specs.Files.{Files}
use Rattle.fam_protocol.specs.Tasks.{IsCommand}
use Rattle.fam_journal.proofs.Shapes.EventRows.{event_shape, follows_shape}
use Rattle.fam_journal.proofs.Shapes.Rows.{does_shape}
use Rattle.fam_journal.specs.declared.event.Ask.{Ask}
use Rattle.fam_journal.specs.declared.event.Event.{Event}
use Rattle.fam_journal.specs.declared.event.Event.TheVariants as event
use Rattle.fam_journal.specs.Calls as call
use Rattle.fam_journal.specs.Calls.{Call, Completes, Does, Unfinished}
use Rattle.fam_journal.specs.Ends.{AllDone, Ending, EndsOutOfMemory, EndsOutOfMemoryBroken, EventsDone, MkfsFails, SinkFails, SourceFails}
use Rattle.fam_journal.specs.Events.{BreaksEvent, CommandBegins, Continues, DoesEvent, PartOf, Ready, RefusesEvent, Session, SourceSays, first_session}
use Rattle.fam_journal.specs.Follows.{Follows, FollowsUpTo}
use Rattle.fam_journal.specs.Machines.{Machines}
use Rattle.fam_journal.specs.Notes.{Note}
use Rattle.fam_journal.specs.Shapes.{AreShaped, HostShape, shapes_behind}
use Rattle.fam_judge.specs.Formed.{HavePlaces}
use Rattle.fam_judge.proofs.Acting.{CallStarts, cut_fit, does_fit, refused_fit}
use Rattle.fam_judge.proofs.Operating.{AreFit, fit_both, operates_fit}

-- of each command that an ask may come to this holds
abbrev pub AskStarts : (Cmd → Type 0) → Ask → Type 0
AskStarts S what = (files : Files) (copied after : ℕ) (cmd : Cmd) → SourceSays files copied what (Ready cmd after) → IsCommand cmd → S cmd

-- so of the ask of an event
abbrev pub EventStarts : (Cmd → Type 0) → Event → Type 0
EventStarts S (event.Host name uuid) = ⊤
EventStarts S (event.Mkfs name request) = ⊤
EventStarts S (event.Begin name what) = AskStarts S what
EventStarts S (event.Run name what) = AskStarts S what
EventStarts S (event.Step name count) = ⊤
EventStarts S (event.Finish name) = ⊤
EventStarts S (event.Stop name) = ⊤
EventStarts S (event.Halt name) = ⊤
EventStarts S (event.Umount name) = ⊤
EventStarts S (event.Evict name line) = ⊤
EventStarts S (event.Leak name line mask) = ⊤
EventStarts S (event.Fetch name line mask) = ⊤

-- so of each event's ask
abbrev pub AllStart : (Cmd → Type 0) → List Event → Type 0
AllStart S [] = ⊤
AllStart S (e ∷ events) = EventStarts S e × AllStart S events

start_take : (S : Cmd → Type 0) (count : ℕ) (events : List Event) → AllStart S events → AllStart S (take count events)
start_take S zero events starts = tt
start_take S (suc count) [] starts = tt
start_take S (suc count) (e ∷ events) starts = (starts.0, start_take S count events starts.1)

start_at : (S : Cmd → Type 0) (count : ℕ) (events : List Event) (e : Event) → AllStart S events → slice_get events count ≡ Some e → EventStarts S e
start_at S count [] e starts is = absurd cc
start_at S zero (first ∷ events) e starts is = subst (EventStarts S) (same_Some first e is) starts.0
start_at S (suc count) (first ∷ events) e starts is = start_at S count events e starts.1 is

module _ (S : Cmd → Type 0) (lines : ℕ) (files : Files) where
  module _ (old : Session) (hosts : List HostShape) (shaped : AreShaped lines old.machines hosts) where
    begun : (name : List ℕ) (what : Ask) → AskStarts S what → (notes : List Note) (new : Session) → (x : CommandBegins files name what old notes new) → AreFit S hosts notes
    begun name what starts notes new x =
        does_fit S lines old.machines hosts shaped notes new.machines (call.Begins name x.cmd) (starts files old.copied x.copied x.cmd x.says x.fits) x.does

    turned_down : (name : List ℕ) (what : Ask) (notes : List Note) (new : Session) → RefusesEvent files name what old notes new → AreFit S hosts notes
    turned_down name what notes new (inl x) = refused_fit S lines old.machines hosts shaped notes new.machines name x.cause x.notes_are
    turned_down name what notes new (inr x) = does_fit S lines old.machines hosts shaped notes new.machines (call.Refuses name x.cause) tt x.does

    -- a command begins, and does operations
    goes_on : (P : ℕ → Machines → List Note → Machines → Type 0)
        → ((h : ℕ) (m : Machines) (hosts : List HostShape) → AreShaped lines m hosts → (notes : List Note) (new : Machines) → P h m notes new → AreFit S hosts notes)
        → (name : List ℕ) (what : Ask) → AskStarts S what → (notes : List Note) (new : Session) → Continues P files name what old notes new → AreFit S hosts notes
    goes_on P each name what starts notes new x =
        let behind = (does_shape lines old.machines hosts shaped x.first x.mid.machines (call.Begins name x.begun.cmd) x.begun.does).next in
        subst (AreFit S hosts) (sym x.joined)
        (fit_both S hosts x.first x.rest (begun name what starts x.first x.mid x.begun)
        (each x.host x.mid.machines (shapes_behind hosts x.first) behind x.rest new.machines x.does))

    completes : (h : ℕ) (m : Machines) (hosts : List HostShape) → AreShaped lines m hosts → (notes : List Note) (new : Machines) → Completes h m notes new
        → AreFit S hosts notes
    completes h m hosts shaped notes new x = operates_fit S lines h x.count m hosts shaped notes new x.does

    unfinished : (h : ℕ) (m : Machines) (hosts : List HostShape) → AreShaped lines m hosts → (notes : List Note) (new : Machines) → Unfinished h m notes new
        → AreFit S hosts notes
    unfinished h m hosts shaped notes new x = operates_fit S lines h x.count m hosts shaped notes new x.does

    -- a call, which begins no command
    by_call : (c : Call) → CallStarts S c → (notes : List Note) (new : Session) → Does c old.machines notes new.machines → AreFit S hosts notes
    by_call c starts notes new x = does_fit S lines old.machines hosts shaped notes new.machines c starts x

    event_fit : (e : Event) → EventStarts S e → (notes : List Note) (new : Session) → DoesEvent files e old notes new → AreFit S hosts notes
    event_fit (event.Begin name what) starts notes new (inl x) = begun name what starts notes new x
    event_fit (event.Begin name what) starts notes new (inr x) = turned_down name what notes new x
    event_fit (event.Run name what) starts notes new (inl x) = goes_on Completes completes name what starts notes new x
    event_fit (event.Run name what) starts notes new (inr x) = turned_down name what notes new x
    event_fit (event.Step name count) starts notes new (inl x) = operates_fit S lines x.host count old.machines hosts shaped notes new.machines x.does
    event_fit (event.Step name count) starts notes new (inr x) = refused_fit S lines old.machines hosts shaped notes new.machines name x.cause x.notes_are
    event_fit (event.Host name uuid) starts notes new x = by_call _ tt notes new x.0
    event_fit (event.Mkfs name request) starts notes new x = by_call _ tt notes new x.0
    event_fit (event.Finish name) starts notes new x = by_call _ tt notes new x.0
    event_fit (event.Stop name) starts notes new x = by_call _ tt notes new x.0
    event_fit (event.Halt name) starts notes new x = by_call _ tt notes new x.0
    event_fit (event.Umount name) starts notes new x = by_call _ tt notes new x.0
    event_fit e starts notes new x = by_call _ tt notes new x.0

    break_fit : (e : Event) → EventStarts S e → (notes : List Note) (new : Session) → BreaksEvent e old notes new → AreFit S hosts notes
    break_fit (event.Mkfs name request) starts notes new x =
        cut_fit S lines old.machines hosts shaped notes new.machines (call.Makes name request) x.0
    break_fit e starts notes new x = absurd x

    part_fit : (e : Event) → EventStarts S e → (notes : List Note) (new : Session) → PartOf files e old notes new → AreFit S hosts notes
    part_fit (event.Run name what) starts notes new x = goes_on Unfinished unfinished name what starts notes new x
    part_fit (event.Step name count) starts notes new x = unfinished x.host old.machines hosts shaped notes new.machines x.does.does
    part_fit (event.Finish name) starts notes new x = unfinished x.host old.machines hosts shaped notes new.machines x.does
    part_fit e starts notes new x = absurd x

  -- Runs.

  -- by each event's own notes
  pub follows_fit : (events : List Event) → AllStart S events → (old : Session) (hosts : List HostShape) → AreShaped lines old.machines hosts
      → (journal : List Note) (new : Session) → Follows files events old journal new → AreFit S hosts journal
  follows_fit [] starts old hosts shaped journal new x = subst (AreFit S hosts) (sym x.0) (tt, tt)
  follows_fit (e ∷ events) starts old hosts shaped journal new x =
      subst (AreFit S hosts) (sym x.5)
      (fit_both S hosts x.1 x.2 (event_fit old hosts shaped e starts.0 x.1 x.0 x.3)
      (follows_fit events starts.1 x.0 (shapes_behind hosts x.1) (event_shape lines files old hosts shaped e x.1 x.0 x.3).next x.2 new x.4))

  module _ (events : List Event) (starts : AllStart S events) (old : Session) (hosts : List HostShape) (shaped : AreShaped lines old.machines hosts)
      (journal : List Note) (new : Session) where
    up_to_fit : (P : Event → Session → List Note → Session → Type 0)
        → ((old : Session) (hosts : List HostShape) → AreShaped lines old.machines hosts → (e : Event) → EventStarts S e → (notes : List Note) (new : Session)
        → P e old notes new → AreFit S hosts notes)
        → FollowsUpTo P files events old journal new → AreFit S hosts journal
    up_to_fit P each x =
        let before = start_take S x.count events starts in
        let behind = (follows_shape lines files (take x.count events) old hosts shaped x.whole_notes x.mid x.whole).next in
        subst (AreFit S hosts) (sym x.joined)
        (fit_both S hosts x.whole_notes x.part_notes (follows_fit (take x.count events) before old hosts shaped x.whole_notes x.mid x.whole)
        (each x.mid (shapes_behind hosts x.whole_notes) behind x.event (start_at S x.count events x.event starts x.is) x.part_notes new x.part))

    prefix_fit : (count : ℕ) → Follows files (take count events) old journal new → AreFit S hosts journal
    prefix_fit count x = follows_fit (take count events) (start_take S count events starts) old hosts shaped journal new x

    -- however the run ends
    pub ends_fit : (ending : Ending) → EventsDone ending files events old journal new → AreFit S hosts journal
    ends_fit AllDone x = follows_fit events starts old hosts shaped journal new x
    ends_fit MkfsFails x = up_to_fit BreaksEvent (λ old hosts shaped e starts notes new p. break_fit old hosts shaped e starts notes new p) x
    ends_fit (SourceFails end) x = prefix_fit x.count x.follows
    ends_fit EndsOutOfMemory (inl x) = prefix_fit x.count x.follows
    ends_fit EndsOutOfMemory (inr x) = up_to_fit (PartOf files) (λ old hosts shaped e starts notes new p. part_fit old hosts shaped e starts notes new p) x
    ends_fit EndsOutOfMemoryBroken x = up_to_fit BreaksEvent (λ old hosts shaped e starts notes new p. break_fit old hosts shaped e starts notes new p) x
    ends_fit SinkFails x = up_to_fit (DoesEvent files) (λ old hosts shaped e starts notes new p. event_fit old hosts shaped e starts notes new p) x

-- From an image, whatever the commands are.

any_starts : (events : List Event) → AllStart (λ cmd. ⊤) events
any_starts [] = tt
any_starts (e ∷ events) = (by_event e, any_starts events)
  where
    by_event : (e : Event) → EventStarts (λ cmd. ⊤) e
    by_event (event.Begin name what) = λ files copied after cmd says fits. tt
    by_event (event.Run name what) = λ files copied after cmd says fits. tt
    by_event other = tt

module _ (files : Files) (events : List Event) (image : Image) (journal : List Note) (last : Session) where
  -- nobody is declared yet
  pub first_shaped : AreShaped (length image) (first_session image).machines []
  first_shaped = record { lines_are = refl; shaped = tt }

  -- the answers of a run
  pub ends_placed : (ending : Ending) → EventsDone ending files events (first_session image) journal last → HavePlaces [] journal
  ends_placed ending x = (ends_fit (λ cmd. ⊤) (length image) files events (any_starts events) (first_session image) [] first_shaped journal last ending x).0
