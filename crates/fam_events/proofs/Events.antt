-- What calls come to is what their events come to.
use Rattle.std.proofs.Common.{◌≡◌, ◌⊎◌, ℕ, ◌+◌, inl, inr, Bool, true, false, List, [], ◌∷◌, ◌++◌, length, Option, Some, None, Result, Ok, Err, refl, ap, sym, ◌∙◌, subst, arith}
use Prim.Native.Nat.{zero, suc}
use Rattle.std.specs.Prelude.{not, slice_get}
use Rattle.std.proofs.lemmas.List.{append_assoc}
use Rattle.std.proofs.lemmas.Option.{same_Some}
use Rattle.fam_base.specs.Image.{Image}
use Rattle.fam_media.specs.Files.{Files}
use Rattle.fam_media.specs.Outside.{IfModelled}
use Rattle.fam_sources.specs.declared.sourced.SourceEnd.{SourceEnd}
use Rattle.fam_machine.specs.HostMoves.{Evict, Fetch, Leak}
use Rattle.fam_base.specs.declared.line.LineNo.{LineNo}
use Rattle.fam_base.specs.declared.line.Mask.{Mask}
use Rattle.fam_machine.specs.declared.request.MkfsRequest.{MkfsRequest}
use Rattle.fam_media.specs.States.{MediaChange, ShelfChange}
use Rattle.fam_journal.specs.declared.event.Ask.{Ask}
use Rattle.fam_journal.specs.declared.event.Event.{Event}
use Rattle.fam_journal.specs.declared.event.Event.TheVariants as event
use Rattle.fam_journal.specs.declared.refusal.Refusal.{Refusal}
use Rattle.fam_journal.specs.declared.refusal.Refusal.TheVariants as why
use Rattle.fam_journal.specs.Calls as call
use Rattle.fam_journal.specs.Calls.{Acts, ActsAt, AtNumber, CutCall, ByRefusal, Call, Completes, CutsAt, Does, OnHost, Unfinished, asked_name, DoesOperations, busy_at, may_begin, number_of, refusal_of, when}
use Rattle.fam_journal.specs.CallRecords.{FinishPart, FitsMedia}
use Rattle.fam_journal.specs.Ends.{CutCallReads, CutEventReads}
use Rattle.fam_journal.specs.EventShapes.{BeginForm, EventBreaksShape, EventShape, NoMore, StartShape, UnfitNotes}
use Rattle.fam_journal.specs.Events.{BreaksEvent, Calls, DoesEvent, Session, mounts}
use Rattle.fam_journal.specs.Shapes.{ActsShape, AtShape, BreaksShape, CompletesShape, DoesShape, ShapeByRefusal, FreeShape, HostShape, IsShaped, OfHostShape, PartShape, UnfinishedShape, shapes_after, shapes_behind, shapes_of, runs_shape, shown_shapes}
use Rattle.fam_journal.specs.Kept.{Held}
use Rattle.fam_journal.specs.Machines.{HostState, Machines}
use Rattle.fam_journal.specs.Notes.{Note, Start}
use Rattle.fam_journal.specs.Past.{State}
use Rattle.fam_journal.specs.Names.{AreNamed}
use Rattle.fam_journal.specs.View.{WorldView}
use Rattle.fam_journal.proofs.Calls.Shown.{number_shown}
use Rattle.fam_journal.proofs.Shapes.Operations.{shapes_both}
use Rattle.fam_journal.proofs.Shapes.Views.{number_shaped, refusal_shaped}
use Rattle.fam_journal.proofs.Runs.Unique.{faults_both}
use Rattle.fam_world.proofs.Rows.{first_refusal}
use Rattle.fam_events.specs.declared.fault.EventFault.{EventFault}
use Rattle.fam_events.specs.declared.fault.EventFault.TheVariants as fault
use Rattle.fam_events.specs.WorldChange.{AddsShape, WorldChange, ComesBroken, ComesHeld, Told, asking, session}
use Rattle.fam_events.specs.declared.asks.Asked.{Asked}
use Rattle.fam_events.specs.declared.asks.Asked.TheVariants as asked
use Rattle.fam_events.specs.Begins.{AskBegun, AskRefused, AskSays, AskUndone, BegunShape, Nothing, Refuses, RefusedShape, AskStarts}
use Rattle.fam_events.specs.Calls.{CallDone, CallPart, CallSays, CallsBreak, CallsPart}
use Rattle.fam_journal.proofs.Growth.{named_both}
use Rattle.fam_journal.proofs.Shapes.Running.{busy_is, finish_as_step, free_runs}
use Rattle.fam_events.specs.Happens.{EventDone, EventEnded, EventPart, EventSays, ShapeOfPart, IsDoneBy, IsPart, IsToSource, SourceShape}

-- a shape of notes that is as strong
pub adds_as : (P Q : ℕ → List HostShape → List Note → Type 0) (a : WorldChange)
    → ((lines : ℕ) (hosts : List HostShape) (notes : List Note) → P lines hosts notes → Q lines hosts notes) → AddsShape P a → AddsShape Q a
adds_as P Q a weaker x = record {
  notes = x.notes;
  joined = x.joined;
  named = x.named;
  counted = x.counted;
  later = x.later;
  fits = x.fits;
  shaped =
      x.shaped;
  shape = weaker a.lines (shapes_of a.old.journal) x.notes x.shape;
}

pub keeps_as : (P Q : Files → Session → List Note → Session → Type 0) (a : WorldChange)
    → ((files : Files) (old : Session) (notes : List Note) (new : Session) → old.copied ≡ a.copied → P files old notes new → Q files old notes new)
    → Told (λ files start. ComesHeld (P files) start) a → Told (λ files start. ComesHeld (Q files) start) a
keeps_as P Q a weaker x start files state files_are told_is held =
    let k = x start files state files_are told_is held in
    record {
      comes = record { last = k.comes.last; notes = k.comes.notes; does = weaker files _ k.comes.notes k.comes.last refl k.comes.does; told_is = k.comes.told_is; joined = k.comes.joined };
      held = k.held;
    }

breaks_as : (P Q : Session → List Note → Session → Type 0) (R S : Session → State → Image → Type 0) (a : WorldChange)
    → ((old : Session) (notes : List Note) (new : Session) → P old notes new → Q old notes new)
    → ((old : Session) (state : State) (after : Image) → R old state after → S old state after)
    → Told (λ files start. ComesBroken P R start) a → Told (λ files start. ComesBroken Q S start) a
breaks_as P Q R S a weaker left x start files state files_are told_is held =
    let k = x start files state files_are told_is held in
    record {
      comes = record { last = k.comes.last; notes = k.comes.notes; does = weaker _ k.comes.notes k.comes.last k.comes.does; told_is = k.comes.told_is; joined = k.comes.joined };
      legal = k.legal;
      reads = left _ _ _ k.reads;
    }

-- an event that is a call
pub record IsCallOf (e : Event) (c : Call) : Type 0 where
  pub does : (files : Files) (old : Session) (notes : List Note) (new : Session) → Calls c old notes new → DoesEvent files e old notes new
  pub shape : (lines : ℕ) (hosts : List HostShape) (notes : List Note) → DoesShape c lines hosts notes → EventShape e lines hosts notes
  pub breaks : (old : Session) (notes : List Note) (new : Session) → CallsBreak c old notes new → BreaksEvent e old notes new
  pub left : (old : Session) (state : State) (after : Image) → CutCallReads c old.machines state after → CutEventReads e old state after
  pub broken : (lines : ℕ) (hosts : List HostShape) (notes : List Note) → BreaksShape c lines hosts notes → EventBreaksShape e lines hosts notes
  pub part : (files : Files) (old : Session) (notes : List Note) (new : Session) → CallsPart c old notes new → IsPart e files old notes new
  pub partly : (lines : ℕ) (hosts : List HostShape) (notes : List Note) → PartShape c lines hosts notes → ShapeOfPart e lines hosts notes

pub event_says : (e : Event) (c : Call) (shelf : ShelfChange) (a : WorldChange) → IsCallOf e c → a.copied_now ≡ a.copied → (r : Result (Unit {0}) EventFault) → CallSays c a r → EventSays e shelf a r
event_says e c shelf a of same (Ok x) says = record {
  adds = adds_as (DoesShape c) (EventShape e) a of.shape says.adds;
  keeps = keeps_as (λ files. Calls c) (IsDoneBy e a.copied_now) a (λ files old notes new first does. (of.does files old notes new does, does.1 ∙ first ∙ sym same)) says.keeps;
}
event_says e c shelf a of same (Err fault.MkfsFailed) says = record {
  adds = adds_as (BreaksShape c) (EventBreaksShape e) a of.broken says.adds;
  keeps = breaks_as (CallsBreak c) (BreaksEvent e) (λ old. CutCallReads c old.machines) (CutEventReads e) a of.breaks of.left says.keeps;
}
event_says e c shelf a of same (Err (fault.SourceEnded end)) says = absurd says
event_says e c shelf a of same (Err fault.OutOfMemory) says = record {
  adds = adds_as (PartShape c) (ShapeOfPart e) a of.partly says.adds;
  keeps = keeps_as (λ files. CallsPart c) (IsPart e) a (λ files old notes new first. of.part files old notes new) says.keeps;
}

-- a session is its machines and its count
same_session : (old new : Session) → new.machines ≡ old.machines → new.copied ≡ old.copied → new ≡ old
same_session old new machines copied = Rattle.std.proofs.Common.ap₂ (λ (m : Machines) (n : ℕ). record { machines = m; copied = n }) machines copied

-- nothing but a mkfs is cut
none_cut : (c : Call) (old new : Machines) (notes : List Note) → ((h : ℕ) (host : HostState) → CutsAt c h host old notes new → ⊥) → CutCall c old notes new → ⊥
none_cut c old new notes never x = by_number (number_of (asked_name c) old) x.1
  where
    by_host : (h : ℕ) (o : Option HostState) → OnHost o (λ host. CutsAt c h host old notes new) → ⊥
    by_host h None x = x
    by_host h (Some host) x = never h host x

    by_number : (o : Option ℕ) → AtNumber o old (λ h host. CutsAt c h host old notes new) → ⊥
    by_number None x = x
    by_number (Some h) x = by_host h (slice_get old.hosts h) x

pub host_call : (name uuid : List ℕ) → IsCallOf (event.Host name uuid) (call.Declares name uuid)
host_call name uuid = record {
  does = λ files old notes new x. x;
  shape = λ lines hosts notes x. x;
  breaks = λ old notes new x. none_cut (call.Declares name uuid) old.machines new.machines notes (λ h host z. z) x.0;
  left = λ old state after x. x;
  broken = λ lines hosts notes x. x;
  part = λ files old notes new x. inl (x.0.0, same_session old new x.0.1 x.1);
  partly = λ lines hosts notes x. inl x;
}

pub mkfs_call : (name : List ℕ) (request : MkfsRequest) → IsCallOf (event.Mkfs name request) (call.Makes name request)
mkfs_call name request = record {
  does = λ files old notes new x. x;
  shape = λ lines hosts notes x. x;
  breaks = λ old notes new x. x;
  left = λ old state after x. x;
  broken = λ lines hosts notes x. x;
  part = λ files old notes new x. inl (x.0.0, same_session old new x.0.1 x.1);
  partly = λ lines hosts notes x. inl x;
}

pub stop_call : (name : List ℕ) → IsCallOf (event.Stop name) (call.Stops name)
stop_call name = record {
  does = λ files old notes new x. x;
  shape = λ lines hosts notes x. x;
  breaks = λ old notes new x. none_cut (call.Stops name) old.machines new.machines notes (λ h host z. z) x.0;
  left = λ old state after x. x;
  broken = λ lines hosts notes x. x;
  part = λ files old notes new x. inl (x.0.0, same_session old new x.0.1 x.1);
  partly = λ lines hosts notes x. inl x;
}

pub halt_call : (name : List ℕ) → IsCallOf (event.Halt name) (call.Halts name)
halt_call name = record {
  does = λ files old notes new x. x;
  shape = λ lines hosts notes x. x;
  breaks = λ old notes new x. none_cut (call.Halts name) old.machines new.machines notes (λ h host z. z) x.0;
  left = λ old state after x. x;
  broken = λ lines hosts notes x. x;
  part = λ files old notes new x. inl (x.0.0, same_session old new x.0.1 x.1);
  partly = λ lines hosts notes x. inl x;
}

pub umount_call : (name : List ℕ) → IsCallOf (event.Umount name) (call.Umounts name)
umount_call name = record {
  does = λ files old notes new x. x;
  shape = λ lines hosts notes x. x;
  breaks = λ old notes new x. none_cut (call.Umounts name) old.machines new.machines notes (λ h host z. z) x.0;
  left = λ old state after x. x;
  broken = λ lines hosts notes x. x;
  part = λ files old notes new x. inl (x.0.0, same_session old new x.0.1 x.1);
  partly = λ lines hosts notes x. inl x;
}

pub evict_call : (name : List ℕ) (line : LineNo) → IsCallOf (event.Evict name line) (call.Moves name line.0 Evict)
evict_call name line = record {
  does = λ files old notes new x. x;
  shape = λ lines hosts notes x. x;
  breaks = λ old notes new x. none_cut (call.Moves name line.0 Evict) old.machines new.machines notes (λ h host z. z) x.0;
  left = λ old state after x. x;
  broken = λ lines hosts notes x. x;
  part = λ files old notes new x. inl (x.0.0, same_session old new x.0.1 x.1);
  partly = λ lines hosts notes x. inl x;
}

pub leak_call : (name : List ℕ) (line : LineNo) (mask : Mask) → IsCallOf (event.Leak name line mask) (call.Moves name line.0 (Leak mask.0))
leak_call name line mask = record {
  does = λ files old notes new x. x;
  shape = λ lines hosts notes x. x;
  breaks = λ old notes new x. none_cut (call.Moves name line.0 (Leak mask.0)) old.machines new.machines notes (λ h host z. z) x.0;
  left = λ old state after x. x;
  broken = λ lines hosts notes x. x;
  part = λ files old notes new x. inl (x.0.0, same_session old new x.0.1 x.1);
  partly = λ lines hosts notes x. inl x;
}

pub fetch_call : (name : List ℕ) (line : LineNo) (mask : Mask) → IsCallOf (event.Fetch name line mask) (call.Moves name line.0 (Fetch mask.0))
fetch_call name line mask = record {
  does = λ files old notes new x. x;
  shape = λ lines hosts notes x. x;
  breaks = λ old notes new x. none_cut (call.Moves name line.0 (Fetch mask.0)) old.machines new.machines notes (λ h host z. z) x.0;
  left = λ old state after x. x;
  broken = λ lines hosts notes x. x;
  part = λ files old notes new x. inl (x.0.0, same_session old new x.0.1 x.1);
  partly = λ lines hosts notes x. inl x;
}

-- A finish.

-- operations of an idle host are none
idle_none : (h count : ℕ) (old new : Machines) (notes : List Note) → busy_at h old ≡ false → DoesOperations h count old notes new → (notes ≡ []) × (new ≡ old)
idle_none h zero old new notes idle x = x
idle_none h (suc count) old new notes idle (inl x) = (x.1, x.2)
idle_none h (suc count) old new notes idle (inr x) = absurd (let busy = x.0 in cc)

finish_part : (files : Files) (name : List ℕ) (old new : Session) (notes : List Note) → FinishPart name old.machines notes new.machines
    → new.copied ≡ old.copied → IsPart (event.Finish name) files old notes new
finish_part files name old new notes (inr x) copied = inl (x.0, same_session old new x.1 copied)
finish_part files name old new notes (inl x) copied = by_busy (busy_at x.host old.machines) refl
  where
    by_busy : (t : Bool) → busy_at x.host old.machines ≡ t → IsPart (event.Finish name) files old notes new
    by_busy true is =
        inr record { host = x.host; number = x.number; busy = ap (λ (b : Bool). when (not b) why.Idle) is; does = x.does; copied = copied }
    by_busy false is = let none = idle_none x.host x.does.count old.machines new.machines notes is x.does.does in inl (none.0, same_session old new none.1 copied)

finish_shape : (name : List ℕ) (lines : ℕ) (hosts : List HostShape) (notes : List Note) → PartShape (call.Finishes name) lines hosts notes → ShapeOfPart (event.Finish name) lines hosts notes
finish_shape name lines hosts notes (inl none) = inl none
finish_shape name lines hosts notes (inr x) = inr x

pub finish_call : (name : List ℕ) → IsCallOf (event.Finish name) (call.Finishes name)
finish_call name = record {
  does = λ files old notes new x. x;
  shape = λ lines hosts notes x. x;
  breaks = λ old notes new x. none_cut (call.Finishes name) old.machines new.machines notes (λ h host z. z) x.0;
  left = λ old state after x. x;
  broken = λ lines hosts notes x. x;
  part = λ files old notes new x. finish_part files name old new notes x.0 x.1;
  partly = finish_shape name;
}

-- Commands that begin.

-- a refusal is the event's own
refused_as : (Q : ℕ → List HostShape → List Note → Type 0) (name : List ℕ) (what : Ask) (lines : ℕ) (hosts : List HostShape) (notes : List Note)
    → RefusedShape name what lines hosts notes → BeginForm Q name what lines hosts notes
refused_as Q name what lines hosts notes shape = by_refusal (may_begin name (mounts what) (shown_shapes lines hosts)) shape
  where
    by_refusal : (o : Option Refusal) → ShapeByRefusal name o notes (UnfitNotes name what notes) → ShapeByRefusal name o notes (UnfitNotes name what notes ⊎ StartShape Q name what lines hosts notes)
    by_refusal None x = inl x
    by_refusal (Some cause) x = x

started_as : (Q : ℕ → List HostShape → List Note → Type 0) (name : List ℕ) (what : Ask) (lines : ℕ) (hosts : List HostShape) (notes : List Note)
    → may_begin name (mounts what) (shown_shapes lines hosts) ≡ None → StartShape Q name what lines hosts notes
    → BeginForm Q name what lines hosts notes
started_as Q name what lines hosts notes free starts =
    subst (λ (o : Option Refusal). ShapeByRefusal name o notes (UnfitNotes name what notes ⊎ StartShape Q name what lines hosts notes)) (sym free) (inr starts)

pub begin_refused : (name : List ℕ) (what : Ask) (a : WorldChange) → AskRefused name what a → EventDone (event.Begin name what) a
begin_refused name what a x = record {
  adds = adds_as (RefusedShape name what) (EventShape (event.Begin name what)) a (refused_as NoMore name what) x.adds;
  keeps = keeps_as (Refuses name what a.copied_now) (IsDoneBy (event.Begin name what) a.copied_now) a (λ files old notes new first does. (inr does.0, does.1)) x.keeps;
}

pub run_refused : (name : List ℕ) (what : Ask) (a : WorldChange) → AskRefused name what a → EventDone (event.Run name what) a
run_refused name what a x = record {
  adds = adds_as (RefusedShape name what) (EventShape (event.Run name what)) a (refused_as CompletesShape name what) x.adds;
  keeps = keeps_as (Refuses name what a.copied_now) (IsDoneBy (event.Run name what) a.copied_now) a (λ files old notes new first does. (inr does.0, does.1)) x.keeps;
}

pub begin_begun : (name : List ℕ) (what : Ask) (a : WorldChange) → AskBegun name what a → EventDone (event.Begin name what) a
begin_begun name what a x = record {
  adds = adds_as (BegunShape name what) (EventShape (event.Begin name what)) a (λ lines hosts notes shape. started_as NoMore name what lines hosts notes shape.free shape.starts) x.adds;
  keeps = keeps_as (AskStarts name what a.copied_now) (IsDoneBy (event.Begin name what) a.copied_now) a (λ files old notes new first does. (inl does.0, does.1)) x.keeps;
}

-- nothing was done
pub begin_undone : (e : Event) (a : WorldChange) → AskUndone a → EventPart e a
begin_undone e a x = record {
  adds = adds_as (λ lines hosts notes. notes ≡ []) (ShapeOfPart e) a (λ lines hosts notes none. inl none) x.adds;
  keeps = keeps_as (λ files. Nothing) (IsPart e) a (λ files old notes new first does. inl does) x.keeps;
}

-- a source of a begin is one of a run
pub run_ended : (name : List ℕ) (what : Ask) (end : SourceEnd) (a : WorldChange) → EventEnded (event.Begin name what) end a → EventEnded (event.Run name what) end a
run_ended name what end a x = record {
  adds = adds_as (SourceShape (event.Begin name what)) (SourceShape (event.Run name what)) a
      (λ lines hosts notes shape. record { none = shape.none; host = shape.host; source = shape.source; reads = shape.reads; free = shape.free })
      x.adds;
  keeps = keeps_as (IsToSource (event.Begin name what) end) (IsToSource (event.Run name what) end) a
      (λ files old notes new first does. (record { host = does.0.host; source = does.0.source; reads = does.0.reads; free = does.0.free; ends = does.0.ends }, does.1, does.2)) x.keeps;
}

pub begin_asked : (name : List ℕ) (what : Ask) (shelf : ShelfChange) (a : WorldChange) (x : Asked) → AskSays name what shelf a (Ok x) → EventDone (event.Begin name what) a
begin_asked name what shelf a asked.Refused says = begin_refused name what a says
begin_asked name what shelf a asked.Begun says = begin_begun name what a says

pub begin_fault : (name : List ℕ) (what : Ask) (shelf : ShelfChange) (a : WorldChange) (f : EventFault) → AskSays name what shelf a (Err f) → EventSays (event.Begin name what) shelf a (Err f)
begin_fault name what shelf a fault.MkfsFailed says = absurd says
begin_fault name what shelf a (fault.SourceEnded end) says = says
begin_fault name what shelf a fault.OutOfMemory says = begin_undone (event.Begin name what) a says

pub run_fault : (name : List ℕ) (what : Ask) (shelf : ShelfChange) (a : WorldChange) (f : EventFault) → AskSays name what shelf a (Err f) → EventSays (event.Run name what) shelf a (Err f)
run_fault name what shelf a fault.MkfsFailed says = absurd says
run_fault name what shelf a (fault.SourceEnded end) says = (run_ended name what end a says.0, says.1)
run_fault name what shelf a fault.OutOfMemory says = begin_undone (event.Run name what) a says

-- on as many lines
pub with_lines : (n m : ℕ) → n ≡ m → (name : List ℕ) (what : Ask) (shelf : ShelfChange) (old new : WorldView) (told : Option Image) (faults : ℕ)
    (files : Option Files) (copied now : ℕ) (r : Result Asked EventFault)
    → (IfModelled told (λ image. length image ≡ n) → FitsMedia n old.hosts → AskSays name what shelf (asking n old new told faults files copied now) r)
    → IfModelled told (λ image. length image ≡ m) → FitsMedia m old.hosts → AskSays name what shelf (asking m old new told faults files copied now) r
with_lines n m same name what shelf old new told faults files copied now r says =
    subst (λ (k : ℕ). IfModelled told (λ image. length image ≡ k) → FitsMedia k old.hosts → AskSays name what shelf (asking k old new told faults files copied now) r) same says

-- A run: it begins, and then a finish goes on from there.

module _ (name : List ℕ) (what : Ask) (lines : ℕ) (old mid new : WorldView) (told told_now : Option Image) (faults faults_now : ℕ)
    (files : Option Files) (copied now : ℕ) (shaped : IsShaped old) (begun : AskBegun name what (asking lines old mid told faults files copied now))
    (modelled : IfModelled told (λ image. length image ≡ lines)) where
  abbrev over : MediaChange
  over = record { old = record { image = told; faults = faults }; new = record { image = told_now; faults = faults_now } }

  -- from the mid on, and all of it
  abbrev b : WorldChange
  b = record { lines = lines; old = mid; new = new; media = over; files = files; copied = now; copied_now = now }

  abbrev a : WorldChange
  a = record { lines = lines; old = old; new = new; media = over; files = files; copied = copied; copied_now = now }

  abbrev shapes : List HostShape
  shapes = shapes_of old.journal

  abbrev start : StartShape NoMore name what lines shapes begun.adds.notes
  start = begun.adds.shape.starts

  -- the hosts behind its start
  shapes_mid : shapes_of mid.journal ≡ shapes_after shapes (Start start.host start.cmd)
  shapes_mid =
      ap shapes_of begun.adds.joined
      ∙ shapes_both [] old.journal begun.adds.notes
      ∙ ap (λ (ns : List Note). shapes_behind shapes ns) (start.notes_are ∙ ap (λ (ns : List Note). Start start.host start.cmd ∷ ns) start.follow)

  number_mid : number_of name (shown_shapes lines (shapes_of mid.journal)) ≡ Some start.host
  number_mid = sym (number_shaped lines mid begun.adds.shaped name) ∙ begun.number ∙ number_shaped lines old shaped name ∙ start.number

  -- with notes of operations behind it
  joined : (P Q : ℕ → List HostShape → List Note → Type 0) → AddsShape P b → ((notes : List Note) → P lines (shapes_of mid.journal) notes → Q lines shapes (begun.adds.notes ++ notes)) → AddsShape Q a
  joined P Q x shape = record {
    notes = begun.adds.notes ++ x.notes;
    joined = x.joined ∙ ap (λ (j : List Note). j ++ x.notes) begun.adds.joined ∙ append_assoc old.journal begun.adds.notes x.notes;
    named = named_both (length old.hosts) begun.adds.notes x.notes begun.adds.named (subst (λ (n : ℕ). AreNamed n x.notes) begun.count_is x.named);
    counted = let m = begun.adds.counted in let n = x.counted in let sum = faults_both begun.adds.notes x.notes in omega (arith, m, n, sum);
    later = x.later;
    fits = x.fits;
    shaped = x.shaped;
    shape = shape x.notes x.shape;
  }

  starting_shape : (Q : ℕ → List HostShape → List Note → Type 0) (notes : List Note) → Q start.host (shapes_of mid.journal) notes → StartShape Q name what lines shapes (begun.adds.notes ++ notes)
  starting_shape Q notes is = record {
    host = start.host;
    number = start.number;
    cmd = start.cmd;
    asked = start.asked;
    rest = notes;
    notes_are = ap (λ (ns : List Note). ns ++ notes) (start.notes_are ∙ ap (λ (ns : List Note). Start start.host start.cmd ∷ ns) start.follow);
    follow = subst (λ (fs : List HostShape). Q start.host fs notes) shapes_mid is;
  }

  -- and where the image is modelled
  joins : (P : Session → List Note → Session → Type 0) (Q : Files → Session → List Note → Session → Type 0) → Told (λ files start. ComesHeld P start) b
      → ((files_now : Files) (first : Image) (state : Machines)
      (k : ComesHeld (AskStarts name what now files_now) first (asking lines old mid told faults files copied now) state)
      (m : ComesHeld P first b k.comes.last.machines)
      → Q files_now (session state copied) (k.comes.notes ++ m.comes.notes) m.comes.last) → Told (λ files first. ComesHeld (Q files) first) a
  joins P Q x row first files_now state files_are told_is held =
      let k = begun.keeps first files_now state files_are told_is held in
      let m = x first files_now k.comes.last.machines files_are k.comes.told_is k.held in
      record {
        comes = record {
          last = m.comes.last;
          notes = k.comes.notes ++ m.comes.notes;
          does = row files_now first state k m;
          told_is = m.comes.told_is;
          joined = m.comes.joined ∙ ap (λ (j : List Note). j ++ m.comes.notes) k.comes.joined ∙ append_assoc old.journal k.comes.notes m.comes.notes;
        };
        held = m.held;
      }

  completes_shape : (notes : List Note) → DoesShape (call.Finishes name) lines (shapes_of mid.journal) notes → CompletesShape start.host (shapes_of mid.journal) notes
  completes_shape notes shape =
      by_shape (slice_get (shapes_of mid.journal) start.host)
      (subst (λ (o : Option ℕ). AtShape o (shapes_of mid.journal) (λ h f. ActsShape (call.Finishes name) h f lines (shapes_of mid.journal) notes)) number_mid
      (subst (λ (r : Option Refusal). ShapeByRefusal name r notes (FreeShape (call.Finishes name) lines (shapes_of mid.journal) notes))
      (sym (refusal_shaped lines mid begun.adds.shaped (call.Finishes name) tt) ∙ begun.runs) shape))
    where
      by_shape : (o : Option HostShape) → OfHostShape o (λ f. ActsShape (call.Finishes name) start.host f lines (shapes_of mid.journal) notes) → CompletesShape start.host (shapes_of mid.journal) notes
      by_shape None none = absurd none
      by_shape (Some f) x = x

  completes : (first : Image) (state : Machines) → Held first state mid state.memory → length state.memory ≡ lines
      → (notes : List Note) (left : Machines) → Does (call.Finishes name) state notes left
      → (h : ℕ) × (number_of name state ≡ Some h) × Completes h state notes left
  completes first state held lines_are notes left row =
      let free : refusal_of (call.Finishes name) state ≡ None = first_refusal first state mid held (call.Finishes name) lines lines_are ∙ begun.runs in
      by_number (number_of name state) refl (subst (λ (o : Option Refusal). ByRefusal name o notes state left (Acts (call.Finishes name) state notes left)) free row)
    where
      by_host : (h : ℕ) → number_of name state ≡ Some h → (o : Option HostState)
          → OnHost o (λ host. ActsAt (call.Finishes name) h host state notes left)
          → (h : ℕ) × (number_of name state ≡ Some h) × Completes h state notes left
      by_host h is None x = absurd x
      by_host h is (Some host) x = (h, is, x)

      by_number : (o : Option ℕ) → number_of name state ≡ o → AtNumber o state (λ h host. ActsAt (call.Finishes name) h host state notes left)
          → (h : ℕ) × (number_of name state ≡ Some h) × Completes h state notes left
      by_number None is x = absurd x
      by_number (Some h) is x = by_host h is (slice_get state.hosts h) x

  lines_mid : (state : Machines) → told ≡ Some state.memory → length state.memory ≡ lines
  lines_mid state is = modelled state.memory is

  run_done : CallDone (call.Finishes name) b → EventDone (event.Run name what) a
  run_done x = record {
    adds = joined (DoesShape (call.Finishes name)) (EventShape (event.Run name what)) x.adds (λ notes shape.
        started_as CompletesShape name what lines shapes (begun.adds.notes ++ notes) begun.adds.shape.free (starting_shape CompletesShape notes (completes_shape notes shape)));
    keeps = joins (Calls (call.Finishes name)) (IsDoneBy (event.Run name what) now) x.keeps (λ files_now first state k m.
        let c = completes first k.comes.last.machines k.held (lines_mid k.comes.last.machines k.comes.told_is) m.comes.notes m.comes.last.machines m.comes.does.0 in (
          inl record {
            mid = k.comes.last;
            first = k.comes.notes;
            rest = m.comes.notes;
            begun = k.comes.does.0;
            host = c.0;
            number = c.1;
            does = c.2;
            copied = m.comes.does.1 ∙ sym k.comes.does.1;
            joined = refl;
          },
          m.comes.does.1,
        ));
  }

  -- some operations of it, without its answer, where no memory was left

  -- the host runs it
  runs_mid : runs_shape (slice_get (shapes_of mid.journal) start.host) ≡ true
  runs_mid =
      let r = free_runs lines mid begun.adds.shaped name (sym (finish_as_step name mid lines) ∙ begun.runs) in
      subst (λ (h : ℕ). runs_shape (slice_get (shapes_of mid.journal) h) ≡ true) (same_Some r.0 start.host (sym r.1 ∙ number_shaped lines mid begun.adds.shaped name ∙ number_mid)) r.2

  part_shape : (notes : List Note) → PartShape (call.Finishes name) lines (shapes_of mid.journal) notes → UnfinishedShape start.host (shapes_of mid.journal) notes
  part_shape notes (inl none) = subst (λ (ns : List Note). UnfinishedShape start.host (shapes_of mid.journal) ns) (sym none) record { operations = tt; runs = runs_mid }
  part_shape notes (inr x) = subst (λ (h : ℕ). UnfinishedShape h (shapes_of mid.journal) notes) (same_Some x.host start.host (sym x.number ∙ number_mid)) x.part

  unfinished : (first : Image) (state : Machines) → Held first state mid state.memory → (notes : List Note) (left : Machines)
      → FinishPart name state notes left → (h : ℕ) × (number_of name state ≡ Some h) × Unfinished h state notes left
  unfinished first state held notes left (inl x) = (x.host, x.number, x.does)
  unfinished first state held notes left (inr x) = (
    start.host,
    number_shown (length first) state mid name held.stands ∙ number_shaped lines mid begun.adds.shaped name ∙ number_mid,
    record { count = 0; does = x; runs = ap (busy_at start.host) x.1 ∙ busy_is first state mid held begun.adds.shaped start.host ∙ runs_mid },
  )

  run_part : CallPart (call.Finishes name) b → EventPart (event.Run name what) a
  run_part x = record {
    adds = joined (PartShape (call.Finishes name)) (ShapeOfPart (event.Run name what)) x.adds (λ notes shape. inr (starting_shape UnfinishedShape notes (part_shape notes shape)));
    keeps = joins (CallsPart (call.Finishes name)) (IsPart (event.Run name what)) x.keeps (λ files_now first state k m.
        let c = unfinished first k.comes.last.machines k.held m.comes.notes m.comes.last.machines m.comes.does.0 in
        inr record {
          mid = k.comes.last;
          first = k.comes.notes;
          rest = m.comes.notes;
          begun = k.comes.does.0;
          host = c.0;
          number = c.1;
          does = c.2;
          copied = m.comes.does.1 ∙ sym k.comes.does.1;
          joined = refl;
        });
  }

  pub run_says : (shelf : ShelfChange) (r : Result (Unit {0}) EventFault) → CallSays (call.Finishes name) b r → EventSays (event.Run name what) shelf a r
  run_says shelf (Ok x) says = run_done says
  run_says shelf (Err fault.MkfsFailed) says = absurd says.adds.shape
  run_says shelf (Err (fault.SourceEnded end)) says = absurd says
  run_says shelf (Err fault.OutOfMemory) says = run_part says
