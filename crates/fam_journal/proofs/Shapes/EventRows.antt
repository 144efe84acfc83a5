-- What an event adds has its shape, and so has the journal of a run.
use Prim.Native.Nat.{zero, suc}
use Rattle.std.proofs.Common.{◌≡◌, ◌⊎◌, inl, inr, ℕ, ◌+◌, Bool, true, false, List, [], ◌∷◌, ◌++◌, length, take, Option, Some, None, refl, ap, sym, ◌∙◌, subst, arith}
use Rattle.std.specs.Prelude.{if◌then◌else◌, map, slice_get, nat_le, min, ◌^◌, ◌-◌}
use Rattle.std.specs.FinMap as finmap
use Rattle.std.proofs.lemmas.Option.{same_Some}
use Rattle.fam_base.specs.declared.cmd.Cmd.{Cmd}
use Rattle.fam_commands.specs.Classes.{is_mount}
use Rattle.fam_media.specs.Files.{Files}
use Rattle.fam_journal.specs.declared.event.Ask.{Ask}
use Rattle.fam_journal.specs.declared.event.Ask.TheVariants as ask
use Rattle.fam_journal.specs.declared.event.Event.{Event}
use Rattle.fam_journal.specs.declared.event.Event.TheVariants as event
use Rattle.fam_journal.specs.declared.refusal.Refusal.{Refusal}
use Rattle.fam_journal.specs.declared.refusal.Refusal.TheVariants as why
use Rattle.fam_journal.specs.Calls as call
use Rattle.fam_journal.specs.Calls.{Call, Completes, Does, DoesOperations, Unfinished, has_name, idle_refusal, may_begin, number_of, on_host}
use Rattle.fam_journal.specs.Ends.{AllDone, Ending, EventsDone, MkfsFails, EndsOutOfMemory, EndsOutOfMemoryBroken, SinkFails, SourceFails}
use Rattle.fam_journal.specs.EventShapes.{AskShape, BeginForm, EndsShape, EventBreaksShape, EventShape, EventPartShape, FollowsShape, ShapePrefix, ShapeUpTo, NoMore, StartShape, StepShape, StepsShape, UnfitShape, UnfitNotes}
use Rattle.fam_journal.specs.Events.{BreaksEvent, BytesSay, DoesEvent, Continues, CommandBegins, RefusesEvent, ListingIs, MayNotStep, PartOf, Ready, Session, SourceSays, Sourced, Unfit, WithinSays, copy_limit, mounts, source_of}
use Rattle.fam_journal.specs.Follows.{Follows, FollowsUpTo}
use Rattle.fam_journal.specs.Shapes.{AreShaped, CompletesShape, DoesShape, ShapeByRefusal, HostShape, SomeShape, UnfinishedShape, shapes_after, shapes_behind, shown_shape, shown_shapes}
use Rattle.fam_journal.specs.Machines.{Machines}
use Rattle.fam_journal.specs.Members.{index_from}
use Rattle.fam_journal.specs.Notes.{Note, Start}
use Rattle.fam_journal.proofs.Shapes.Operations.{shapes_both, operates_shape, runs_same}
use Rattle.fam_journal.proofs.Shapes.Rows.{Shaped, breaks_shape, does_shape, shaped_as, may_told, number_told, step_told, unfinished_shape}

-- Sources.

-- the cause of an unfit source is one of the ask's
unfit_as : (what : Ask) (mine cause : Refusal) (copied after : ℕ) → UnfitShape what mine → Unfit cause after ≡ Unfit mine copied → UnfitShape what cause
unfit_as what mine cause copied after shape e = subst (UnfitShape what) (sym same) shape
  where
    same : cause ≡ mine
    same = cc

module _ (what : Ask) (name : List ℕ) (source : source_of what ≡ Some name) where
  unfit_within : (t : Bool) (bytes : List ℕ) (copied : ℕ) (reads : List ℕ → ℕ → Sourced → Type 0) (cause : Refusal) (after : ℕ)
      → ((bytes : List ℕ) (copied : ℕ) → reads bytes copied (Unfit cause after) → UnfitShape what cause) → WithinSays t bytes copied reads (Unfit cause after) → UnfitShape what cause
  unfit_within true bytes copied reads cause after each says = each bytes (copied + length bytes) says
  unfit_within false bytes copied reads cause after each says = unfit_as what (why.CopyLimit (min (copied + length bytes) (2 ^ 64 - 1))) cause copied after (name, source) says

  unfit_bytes : (o : Option (List ℕ)) (copied : ℕ) (reads : List ℕ → ℕ → Sourced → Type 0) (cause : Refusal) (after : ℕ)
      → ((bytes : List ℕ) (copied : ℕ) → reads bytes copied (Unfit cause after) → UnfitShape what cause) → BytesSay name o copied reads (Unfit cause after) → UnfitShape what cause
  unfit_bytes None copied reads cause after each says = unfit_as what (why.NoFile name) cause copied after source says
  unfit_bytes (Some bytes) copied reads cause after each says = unfit_within (nat_le (copied + length bytes) copy_limit) bytes copied reads cause after each says

unfit_listing : (source : List ℕ) (cause : Refusal) (after : ℕ) (bytes : List ℕ) (copied : ℕ) → ListingIs bytes copied (Unfit cause after) → UnfitShape (ask.Check source) cause
unfit_listing source cause after bytes copied (inl x) = absurd (let e = x.2 in cc)
unfit_listing source cause after bytes copied (inr x) = unfit_as (ask.Check source) (why.BadListing x.0) cause copied after tt x.2

source_unfit : (files : Files) (copied : ℕ) (what : Ask) (cause : Refusal) (after : ℕ) → SourceSays files copied what (Unfit cause after) → UnfitShape what cause
source_unfit files copied (ask.Plain c) cause after says = absurd cc
source_unfit files copied (ask.Cp source path attr stripe) cause after says = unfit_bytes (ask.Cp source path attr stripe) source refl
    (finmap.get files source) copied _ cause after (λ bytes copied says. absurd cc) says
source_unfit files copied (ask.VerifySource path source) cause after says = unfit_bytes (ask.VerifySource path source) source refl
    (finmap.get files source) copied _ cause after (λ bytes copied says. absurd cc) says
source_unfit files copied (ask.Check source) cause after says = unfit_bytes (ask.Check source) source refl (finmap.get files source) copied ListingIs
    cause after (unfit_listing source cause after) says

-- the command of a source that is read is one of the ask's
ready_as : (what : Ask) (mine c : Cmd) (copied after : ℕ) → AskShape what mine → Ready c after ≡ Ready mine copied → AskShape what c
ready_as what mine c copied after shape e = subst (AskShape what) (sym same) shape
  where
    same : c ≡ mine
    same = cc

ready_within : (what : Ask) (t : Bool) (bytes : List ℕ) (copied : ℕ) (reads : List ℕ → ℕ → Sourced → Type 0) (c : Cmd) (after : ℕ)
    → ((bytes : List ℕ) (copied : ℕ) → reads bytes copied (Ready c after) → AskShape what c) → WithinSays t bytes copied reads (Ready c after) → AskShape what c
ready_within what true bytes copied reads c after each says = each bytes (copied + length bytes) says
ready_within what false bytes copied reads c after each says = absurd cc

ready_bytes : (what : Ask) (name : List ℕ) (o : Option (List ℕ)) (copied : ℕ) (reads : List ℕ → ℕ → Sourced → Type 0) (c : Cmd) (after : ℕ)
    → ((bytes : List ℕ) (copied : ℕ) → reads bytes copied (Ready c after) → AskShape what c) → BytesSay name o copied reads (Ready c after) → AskShape what c
ready_bytes what name None copied reads c after each says = absurd cc
ready_bytes what name (Some bytes) copied reads c after each says = ready_within what (nat_le (copied + length bytes) copy_limit) bytes copied reads c after each says

ready_listing : (source : List ℕ) (c : Cmd) (after : ℕ) (bytes : List ℕ) (copied : ℕ) → ListingIs bytes copied (Ready c after) → AskShape (ask.Check source) c
ready_listing source c after bytes copied (inl x) = ready_as (ask.Check source) _ c copied after (x.0, refl) x.2
ready_listing source c after bytes copied (inr x) = absurd (let e = x.2 in cc)

source_ready : (files : Files) (copied : ℕ) (what : Ask) (c : Cmd) (after : ℕ) → SourceSays files copied what (Ready c after) → AskShape what c
source_ready files copied (ask.Plain own) c after says = ready_as (ask.Plain own) own c copied after refl says
source_ready files copied (ask.Cp source path attr stripe) c after says =
    ready_bytes (ask.Cp source path attr stripe) source (finmap.get files source) copied _ c after
    (λ bytes copied says. ready_as (ask.Cp source path attr stripe) _ c copied after (bytes, refl) says) says
source_ready files copied (ask.VerifySource path source) c after says =
    ready_bytes (ask.VerifySource path source) source (finmap.get files source) copied _ c after (λ bytes copied says. ready_as (ask.VerifySource path source) _ c copied after (bytes, refl) says) says
source_ready files copied (ask.Check source) c after says = ready_bytes (ask.Check source) source (finmap.get files source) copied ListingIs c after (ready_listing source c after) says

-- it is a mount just where the ask is
pub mounts_asked : (what : Ask) (c : Cmd) → AskShape what c → mounts what ≡ is_mount c
mounts_asked (ask.Plain own) c is = ap is_mount (sym is)
mounts_asked (ask.Cp source path attr stripe) c is = ap is_mount (sym is.1)
mounts_asked (ask.VerifySource path source) c is = ap is_mount (sym is.1)
mounts_asked (ask.Check source) c is = ap is_mount (sym is.1)

-- the host of a command that begins may begin it
pub begun_free : (files : Files) (name : List ℕ) (what : Ask) (old new : Session) (notes : List Note)
    → (x : CommandBegins files name what old notes new) → may_begin name (is_mount x.cmd) old.machines ≡ None
begun_free files name what old new notes x =
    sym (ap (λ (mount : Bool). may_begin name mount old.machines) (mounts_asked what x.cmd (source_ready files old.copied what x.cmd x.copied x.says))) ∙ x.free

-- Events.

-- a host that begins a command keeps its name
names_started : (name : List ℕ) (h : ℕ) (cmd : Cmd) (hosts : List HostShape) (i : ℕ)
    → index_from i (has_name name) (map shown_shape (shapes_after hosts (Start h cmd))) ≡ index_from i (has_name name) (map shown_shape hosts)
names_started name h cmd [] i = refl
names_started name zero cmd (x ∷ hosts) i = refl
names_started name (suc h) cmd (x ∷ hosts) i = ap (λ (o : Option ℕ). if has_name name (shown_shape x) then Some i else o) (names_started name h cmd hosts (i + 1))

number_started : (lines : ℕ) (hosts : List HostShape) (h : ℕ) (cmd : Cmd) (name : List ℕ)
    → number_of name (shown_shapes lines (shapes_after hosts (Start h cmd))) ≡ number_of name (shown_shapes lines hosts)
number_started lines hosts h cmd name = names_started name h cmd hosts 0

module _ (lines : ℕ) (files : Files) (old : Session) (hosts : List HostShape) (shaped : AreShaped lines old.machines hosts) where
  abbrev m : Machines
  m = old.machines

  abbrev told : Machines
  told = shown_shapes lines hosts

  may : (name : List ℕ) (mount : Bool) → may_begin name mount m ≡ may_begin name mount told
  may name mount = may_told lines m hosts shaped name mount

  -- a row's notes and state
  row : (c : Call) (notes : List Note) (new : Machines) → Does c m notes new → Shaped (DoesShape c lines hosts) lines hosts notes new
  row c notes new x = does_shape lines m hosts shaped notes new c x

  -- a command begins
  record Began (name : List ℕ) (what : Ask) (notes : List Note) (new : Machines) : Type 0 where
    host : ℕ
    number : number_of name told ≡ Some host
    cmd : Cmd
    asked : AskShape what cmd
    notes_are : notes ≡ Start host cmd ∷ []
    next : AreShaped lines new (shapes_behind hosts notes)

  module _ (name : List ℕ) (what : Ask) where
    begun : (new : Session) (notes : List Note) → CommandBegins files name what old notes new → Began name what notes new.machines
    unfolding call.refusal_of
    begun new notes x =
        let r = row (call.Begins name x.cmd) notes new.machines x.does in
        by_number (number_of name told) refl r.next
        (subst (λ (o : Option Refusal).
        ShapeByRefusal name o notes (Rattle.fam_journal.specs.Shapes.FreeShape (call.Begins name x.cmd) lines hosts notes))
        (sym (may name (is_mount x.cmd)) ∙ begun_free files name what old new notes x) r.shape)
      where
        at_host : (h : ℕ) → number_of name told ≡ Some h → AreShaped lines new.machines (shapes_behind hosts notes) → (o : Option HostShape)
            → Rattle.fam_journal.specs.Shapes.OfHostShape o (λ f. notes ≡ Start h x.cmd ∷ []) → Began name what notes new.machines
        at_host h n next None y = absurd y
        at_host h n next (Some f) y = record { host = h; number = n; cmd = x.cmd; asked = source_ready files old.copied what x.cmd x.copied x.says; notes_are = y; next = next }

        by_number : (o : Option ℕ) → number_of name told ≡ o → AreShaped lines new.machines (shapes_behind hosts notes)
            → Rattle.fam_journal.specs.Shapes.AtShape o hosts (λ h f. notes ≡ Start h x.cmd ∷ []) → Began name what notes new.machines
        by_number None n next y = absurd y
        by_number (Some h) n next y = at_host h n next (slice_get hosts h) y

    -- nothing may begin, or the free shape
    freed : (Q : ℕ → List HostShape → List Note → Type 0) (notes : List Note) → may_begin name (mounts what) m ≡ None
        → UnfitNotes name what notes ⊎ StartShape Q name what lines hosts notes → BeginForm Q name what lines hosts notes
    freed Q notes free x = subst (λ (o : Option Refusal).
        ShapeByRefusal name o notes (UnfitNotes name what notes ⊎ StartShape Q name what lines hosts notes))
        (sym (sym (may name (mounts what)) ∙ free)) x

    refused : (Q : ℕ → List HostShape → List Note → Type 0) (new : Session) (notes : List Note) → RefusesEvent files name what old notes new
        → Shaped (BeginForm Q name what lines hosts) lines hosts notes new.machines
    unfolding call.refusal_of
    refused Q new notes (inl x) = record {
      shape = subst (λ (o : Option Refusal). ShapeByRefusal name o notes (UnfitNotes name what notes ⊎ StartShape Q name what lines hosts notes))
          (sym (sym (may name (mounts what)) ∙ x.first)) x.notes_are;
      next = subst (λ (z : List Note). AreShaped lines new.machines (shapes_behind hosts z)) (sym x.notes_are) (subst (λ (z : Session). AreShaped lines z.machines hosts) (sym x.same) shaped);
    }
    refused Q new notes (inr x) = record {
      shape = freed Q notes x.free (inl record { why = x.cause; unfit = source_unfit files old.copied what x.cause x.copied x.says; notes_are = x.does.0 });
      next = (row (call.Refuses name x.cause) notes new.machines x.does).next;
    }

    starts : (new : Session) (notes : List Note) → CommandBegins files name what old notes new → Shaped (BeginForm NoMore name what lines hosts) lines hosts notes new.machines
    starts new notes x =
        let b = begun new notes x in
        record {
          shape = freed NoMore notes x.free (inr record { host = b.host; number = b.number; cmd = b.cmd; asked = b.asked; rest = []; notes_are = b.notes_are; follow = refl });
          next = b.next;
        }

    -- it begins and goes on
    goes : (P : ℕ → Machines → List Note → Machines → Type 0) (Q : ℕ → List HostShape → List Note → Type 0)
        → ((h : ℕ) (m : Machines) (hosts : List HostShape) → AreShaped lines m hosts → (notes : List Note) (new : Machines) → P h m notes new → Shaped (Q h hosts) lines hosts notes new)
        → (new : Session) (notes : List Note) → Continues P files name what old notes new → Shaped (StartShape Q name what lines hosts) lines hosts notes new.machines
    goes P Q each new notes x =
        let b = begun x.mid x.first x.begun in
        let behind : AreShaped lines x.mid.machines (shapes_after hosts (Start b.host b.cmd)) = subst (λ (z : List Note). AreShaped lines x.mid.machines (shapes_behind hosts z)) b.notes_are b.next in
        let same : x.host ≡ b.host = same_Some x.host b.host
        (sym x.number ∙ number_told lines x.mid.machines (shapes_after hosts (Start b.host b.cmd)) behind name
        ∙ number_started lines hosts b.host b.cmd name ∙ b.number) in
        let r = each b.host x.mid.machines (shapes_after hosts (Start b.host b.cmd)) behind x.rest new.machines (subst (λ (h : ℕ). P h x.mid.machines x.rest new.machines) same x.does) in
        let all : notes ≡ Start b.host b.cmd ∷ x.rest = x.joined ∙ ap (λ (z : List Note). z ++ x.rest) b.notes_are in
        record {
          shape = record { host = b.host; number = b.number; cmd = b.cmd; asked = b.asked; rest = x.rest; notes_are = all; follow = r.shape };
          next = subst (λ (z : List Note). AreShaped lines new.machines (shapes_behind hosts z)) (sym all) r.next;
        }

  -- operations of a host that has a task
  steps : (name : List ℕ) (count : ℕ) (notes : List Note) (new : Machines) (h : ℕ) → number_of name m ≡ Some h → DoesOperations h count m notes new
      → Shaped (StepsShape count name lines hosts) lines hosts notes new
  steps name count notes new h n x =
      let o = operates_shape lines h count m hosts shaped notes new x in
      record { shape = record { host = h; number = sym (number_told lines m hosts shaped name) ∙ n; operations = o.shape; within = o.within }; next = o.next }

  step_freed : (name : List ℕ) (count h : ℕ) (notes : List Note) → number_of name m ≡ Some h → idle_refusal h m ≡ None
      → StepsShape count name lines hosts notes → StepShape count name lines hosts notes
  step_freed name count h notes n idle x =
      subst (λ (o : Option Refusal). ShapeByRefusal name o notes (StepsShape count name lines hosts notes))
      (sym (sym (step_told lines m hosts shaped name) ∙ ap (λ (o : Option ℕ). on_host o (λ h. idle_refusal h m)) n ∙ idle)) x

  step_refused : (name : List ℕ) (count : ℕ) (new : Session) (notes : List Note) → MayNotStep name old notes new → Shaped (StepShape count name lines hosts) lines hosts notes new.machines
  step_refused name count new notes x = record {
    shape = subst (λ (o : Option Refusal). ShapeByRefusal name o notes (StepsShape count name lines hosts notes)) (sym (sym (step_told lines m hosts shaped name) ∙ x.first)) x.notes_are;
    next = subst (λ (z : List Note). AreShaped lines new.machines (shapes_behind hosts z)) (sym x.notes_are) (subst (λ (z : Session). AreShaped lines z.machines hosts) (sym x.same) shaped);
  }

  completes : (h : ℕ) (m : Machines) (hosts : List HostShape) → AreShaped lines m hosts → (notes : List Note) (new : Machines)
      → Completes h m notes new → Shaped (CompletesShape h hosts) lines hosts notes new
  completes h m hosts shaped notes new x =
      let o = operates_shape lines h x.count m hosts shaped notes new x.does in
      record {
        shape = record { operations = o.shape; done = sym (runs_same lines h new.hosts (shapes_behind hosts notes) o.next.shaped) ∙ x.done };
        next = o.next;
      }

  -- operations of the host of a name, which has not answered
  unfinished : (name : List ℕ) (h : ℕ) (notes : List Note) (new : Machines) → number_of name m ≡ Some h → Unfinished h m notes new → SomeShape name lines hosts notes
  unfinished name h notes new n x = record { host = h; number = sym (number_told lines m hosts shaped name) ∙ n; part = (unfinished_shape lines m hosts shaped h notes new x).shape }

  begin_free : (name : List ℕ) (what : Ask) (new : Session) (notes : List Note) → Continues Completes files name what old notes new
      → Shaped (BeginForm CompletesShape name what lines hosts) lines hosts notes new.machines
  begin_free name what new notes x =
      let r = goes name what Completes CompletesShape completes new notes x in
      record { shape = freed name what CompletesShape notes x.begun.free (inr r.shape); next = r.next }

  pub event_shape : (e : Event) (notes : List Note) (new : Session) → DoesEvent files e old notes new → Shaped (EventShape e lines hosts) lines hosts notes new.machines
  event_shape (event.Begin name what) notes new (inl x) = starts name what new notes x
  event_shape (event.Begin name what) notes new (inr x) = refused name what NoMore new notes x
  event_shape (event.Run name what) notes new (inl x) = begin_free name what new notes x
  event_shape (event.Run name what) notes new (inr x) = refused name what CompletesShape new notes x
  event_shape (event.Step name count) notes new (inl x) =
      let r = steps name count notes new.machines x.host x.number x.does in
      record { shape = step_freed name count x.host notes x.number x.busy r.shape; next = r.next }
  event_shape (event.Step name count) notes new (inr x) = step_refused name count new notes x
  event_shape e notes new x = row _ notes new.machines x.0

  pub event_breaks : (e : Event) (notes : List Note) (new : Session) → BreaksEvent e old notes new → EventBreaksShape e lines hosts notes
  event_breaks (event.Mkfs name request) notes new x = breaks_shape lines m hosts shaped notes new.machines name request x.0
  event_breaks e notes new x = absurd x

  pub event_part : (e : Event) (notes : List Note) (new : Session) → PartOf files e old notes new → EventPartShape e lines hosts notes
  event_part (event.Run name what) notes new x = (goes name what Unfinished UnfinishedShape (λ h m hosts shaped notes new x. unfinished_shape lines m hosts shaped h notes new x) new notes x).shape
  event_part (event.Step name count) notes new x =
      let few = (operates_shape lines x.host x.does.does.count m hosts shaped notes new.machines x.does.does.does).within in
      let most = x.does.within in
      (unfinished name x.host notes new.machines x.number x.does.does, omega (arith, few, most))
  event_part (event.Finish name) notes new x = unfinished name x.host notes new.machines x.number x.does
  event_part e notes new x = absurd x

-- Runs.

module _ (lines : ℕ) (files : Files) where
  pub follows_shape : (events : List Event) (old : Session) (hosts : List HostShape) → AreShaped lines old.machines hosts
      → (journal : List Note) (new : Session) → Follows files events old journal new
      → Shaped (FollowsShape lines events hosts) lines hosts journal new.machines
  follows_shape [] old hosts shaped journal new x =
      shaped_as (λ z. z ≡ []) lines hosts journal [] new.machines old.machines x.0 (ap (λ (s : Session). s.machines) x.1) record { shape = refl; next = shaped }
  follows_shape (e ∷ events) old hosts shaped journal new x =
      let first = event_shape lines files old hosts shaped e x.1 x.0 x.3 in
      let rest = follows_shape events x.0 (shapes_behind hosts x.1) first.next x.2 new x.4 in
      record {
        shape = (x.1, x.2, first.shape, rest.shape, x.5);
        next = subst (λ (z : List HostShape). AreShaped lines new.machines z) (sym (ap (shapes_behind hosts) x.5 ∙ shapes_both hosts x.1 x.2)) rest.next;
      }

  module _ (events : List Event) (old : Session) (hosts : List HostShape) (shaped : AreShaped lines old.machines hosts) (journal : List Note) (new : Session) where
    up_to : (P : Event → Session → List Note → Session → Type 0) (Q : Event → ℕ → List HostShape → List Note → Type 0)
        → ((old : Session) (hosts : List HostShape) → AreShaped lines old.machines hosts → (e : Event) (notes : List Note) (new : Session) → P e old notes new → Q e lines hosts notes)
        → FollowsUpTo P files events old journal new → ShapeUpTo Q lines events hosts journal
    up_to P Q each x =
        let whole = follows_shape (take x.count events) old hosts shaped x.whole_notes x.mid x.whole in
        record {
          count = x.count;
          event = x.event;
          is = x.is;
          whole_notes = x.whole_notes;
          part_notes = x.part_notes;
          whole = whole.shape;
          part = each x.mid (shapes_behind hosts x.whole_notes) whole.next x.event x.part_notes new x.part;
          joined = x.joined;
        }

    prefix : (count : ℕ) → Follows files (take count events) old journal new → ShapePrefix lines events hosts journal
    prefix count x = record { count = count; follows = (follows_shape (take count events) old hosts shaped journal new x).shape }

    pub ends_shape : (ending : Ending) → EventsDone ending files events old journal new → EndsShape ending lines events hosts journal
    ends_shape AllDone x = (follows_shape events old hosts shaped journal new x).shape
    ends_shape MkfsFails x = up_to BreaksEvent EventBreaksShape (λ old hosts shaped e notes new p. event_breaks lines files old hosts shaped e notes new p) x
    ends_shape (SourceFails end) x =
        let whole = follows_shape (take x.count events) old hosts shaped journal new x.follows in
        record {
          count = x.count;
          event = x.event;
          is = x.is;
          host = x.reads.host;
          source = x.reads.source;
          reads = x.reads.reads;
          free = sym (may_told lines new.machines (shapes_behind hosts journal) whole.next x.reads.host false) ∙ x.reads.free;
          follows = whole.shape;
        }
    ends_shape EndsOutOfMemory (inl x) = inl (prefix x.count x.follows)
    ends_shape EndsOutOfMemory (inr x) = inr (up_to (PartOf files) EventPartShape (λ old hosts shaped e notes new p. event_part lines files old hosts shaped e notes new p) x)
    ends_shape EndsOutOfMemoryBroken x = up_to BreaksEvent EventBreaksShape (λ old hosts shaped e notes new p. event_breaks lines files old hosts shaped e notes new p) x
    ends_shape SinkFails x = up_to (DoesEvent files) EventShape (λ old hosts shaped e notes new p. (event_shape lines files old hosts shaped e notes new p).shape) x
