-- Whatever events come, the state is kept: so each journal that follows events is legal, and the image reads as it says.
use Prim.Native.Nat.{zero, suc}
use Rattle.std.proofs.Common.{◌≡◌, ℕ, inl, inr, List, [], ◌∷◌, ◌++◌, length, take, Option, Some, None, refl, ap, sym, ◌∙◌, subst}
use Rattle.std.specs.Prelude.{slice_get}
use Rattle.std.specs.FinMap as finmap
use Rattle.std.proofs.lemmas.List.{append-nil, append_assoc}
use Rattle.std.proofs.lemmas.Option.{same_Some}
use Rattle.fam_base.specs.Image.{Image}
use Rattle.fam_commands.specs.Classes.{is_mount}
use Rattle.fam_machine.specs.declared.request.MkfsRequest.{MkfsRequest}
use Rattle.fam_machine.specs.Mkfs.{asked}
use Rattle.fam_media.specs.Files.{Files}
use Rattle.fam_journal.specs.declared.event.Ask.{Ask}
use Rattle.fam_journal.specs.declared.event.Event.{Event}
use Rattle.fam_journal.specs.declared.event.Event.TheVariants as event
use Rattle.fam_journal.specs.declared.refusal.Refusal.{Refusal}
use Rattle.fam_journal.specs.declared.refusal.Refusal.TheVariants as why
use Rattle.fam_journal.specs.Calls as call
use Rattle.fam_journal.specs.Calls.{ActsAt, ActsOf, Acts, AtNumber, CutCall, ByRefusal, Call, Completes, CutsAt, Does, MakesOrHalts, OnHost, DoesOperations, Unfinished, begins_refusal, line_refusal, makes_refusal, asked_name, number_of, on_host, refusal_of, umounts_refusal, IsSoundRequest}
use Rattle.fam_journal.specs.Ends.{AllDone, CutEventReads, Ending, EventsDone, MkfsFails, EndsOutOfMemory, EndsOutOfMemoryBroken, ReadsAs, SinkFails, SourceFails}
use Rattle.fam_journal.specs.Events.{BreaksEvent, DoesEvent, Continues, CommandBegins, RefusesEvent, MayNotStep, PartOf, Session, first_session}
use Rattle.fam_journal.specs.Follows.{Follows, FollowsBroken}
use Rattle.fam_journal.specs.Kept.{Reached}
use Rattle.fam_journal.specs.CallRecords.{IsSoundCall}
use Rattle.fam_journal.specs.Laws.{AreSound, IsImage, IsSettled, IsValidEvent}
use Rattle.fam_journal.specs.Legal.{Legal}
use Rattle.fam_journal.specs.Machines.{HostState, Machines, Operation, host_done, operation, unused, with_parts, with_task}
use Rattle.fam_journal.specs.Notes.{Halt, Note, Refused, Stop}
use Rattle.fam_journal.specs.Past.{State, first_past, past_of}
use Rattle.fam_journal.proofs.Calls.Begin.{held_first}
use Rattle.fam_journal.proofs.Settled.Journals.{legal_both}
use Rattle.fam_journal.proofs.Calls.Keeping.{begins_kept, declared_kept, enough_to_make, halts_kept, kept_as, made_kept, met_kept, move_failed_kept, moved_kept, operation_at, refused_kept, umounts_kept, uuids_kept}
use Rattle.fam_journal.proofs.Runs.CutReads.{event_cut, refused_state}
use Rattle.fam_journal.proofs.Runs.Left.{held_reads}
use Rattle.fam_journal.proofs.Calls.Rows.{Declared, declared, halted_held, stopped_held}
use Rattle.fam_journal.proofs.Calls.Tests.{below_of, no_when}

-- notes behind a journal, in two parts
pub kept_both : (start : Image) (state : Machines) (journal a b notes : List Note) → notes ≡ a ++ b → Reached start state ((journal ++ a) ++ b) → Reached start state (journal ++ notes)
kept_both start state journal a b notes is kept =
    subst (λ (z : List Note). Reached start state z) (append_assoc journal a b ∙ ap (λ (z : List Note). journal ++ z) (sym is)) kept

-- no notes
pub kept_quiet : (start : Image) (journal notes : List Note) (new left : Machines) → notes ≡ [] → new ≡ left → Reached start left journal → Reached start new (journal ++ notes)
kept_quiet start journal notes new left e f kept =
    kept_as start journal notes [] new left e f (subst (λ (z : List Note). Reached start left z) (sym (append-nil journal)) kept)

-- An operation of any host.

pub declared_at : (start : Image) (state : Machines) (journal : List Note) (kept : Reached start state journal) (h : ℕ) (host : HostState)
    → slice_get state.hosts h ≡ Some host → Declared start state (record { hosts = kept.views; journal = journal }) h
declared_at start state journal kept h host is = declared start state (record { hosts = kept.views; journal = journal }) state.memory kept.held h host is

pub operation_kept : (start : Image) (h : ℕ) (state : Machines) (journal : List Note) → Reached start state journal
    → (notes : List Note) (new : Machines) → Operation h state notes new → Reached start new (journal ++ notes)
unfolding operation
operation_kept start h state journal kept notes new op = by_host (slice_get state.hosts h) refl
  where
    by_host : (o : Option HostState) → slice_get state.hosts h ≡ o → Reached start new (journal ++ notes)
    by_host None none = absurd (let e : host_done op.outcome h state (slice_get state.hosts h) ≡ None = ap (host_done op.outcome h state) none in let f = op.is in cc)
    by_host (Some host) is = operation_at start state journal kept h (declared_at start state journal kept h host is) notes new op

pub operates_kept : (start : Image) (h count : ℕ) (state : Machines) (journal : List Note) → Reached start state journal
    → (notes : List Note) (new : Machines) → DoesOperations h count state notes new → Reached start new (journal ++ notes)
operates_kept start h zero state journal kept notes new o = kept_quiet start journal notes new state o.0 o.1 kept
operates_kept start h (suc count) state journal kept notes new (inl o) = kept_quiet start journal notes new state o.1 o.2 kept
operates_kept start h (suc count) state journal kept notes new (inr o) =
    kept_both start new journal o.2 o.3 notes o.6
    (operates_kept start h count o.1 (journal ++ o.2) (operation_kept start h state journal kept o.2 o.1 o.4) o.3 new o.5)

-- Calls.

module _ (start : Image) (state : Machines) (journal : List Note) (kept : Reached start state journal) (notes : List Note) (new : Machines) where
  -- a file system is made, or its maker halts
  make_kept : (request : MkfsRequest) → IsSoundRequest request
      → (h : ℕ) (d : Declared start state (record { hosts = kept.views; journal = journal }) h)
      → makes_refusal request.unit request.log h state ≡ None
      → (halt : Option ℕ) → MakesOrHalts halt h (asked request d.host.uuid (length state.memory)) request.force d.host state notes new → Reached start new (journal ++ notes)
  make_kept request good h d may None x = kept_as start journal notes _ new _ x.notes_are x.left (made_kept start state journal kept h d request good may)
  make_kept request good h d may (Some k) x = kept_as start journal notes _ new _ x.notes_are x.left (halts_kept start state journal kept h d request good may k)

  -- of a declared host
  act_kept : (c : Call) → IsSoundCall c → refusal_of c state ≡ None → (h : ℕ) → number_of (asked_name c) state ≡ Some h
      → (d : Declared start state (record { hosts = kept.views; journal = journal }) h) → ActsAt c h d.host state notes new
      → Reached start new (journal ++ notes)
  unfolding refusal_of
  act_kept (call.Declares name uuid) sound free h number d x = absurd x
  act_kept (call.Makes name request) sound free h number d (inl x) =
      let may : makes_refusal request.unit request.log h state ≡ None = sym (ap (λ (o : Option ℕ). on_host o (λ h. makes_refusal request.unit request.log h state)) number) ∙ free in
      make_kept request sound h d may request.halt x
  act_kept (call.Makes name request) sound free h number d (inr x) =
      let may : makes_refusal request.unit request.log h state ≡ None = sym (ap (λ (o : Option ℕ). on_host o (λ h. makes_refusal request.unit request.log h state)) number) ∙ free in
      kept_as start journal notes _ new _ x.notes_are x.left
      (met_kept start state journal kept h d name (why.HasSuper x.other.fs)
      (enough_to_make start state journal kept h d request.unit request.log may))
  act_kept (call.Begins name cmd) sound free h number d x =
      let may : begins_refusal h (is_mount cmd) state ≡ None = sym (ap (λ (o : Option ℕ). on_host o (λ h. begins_refusal h (is_mount cmd) state)) number) ∙ free in
      kept_as start journal notes _ new _ x.0 x.1 (begins_kept start state journal kept h d cmd sound may)
  act_kept (call.Steps name) sound free h number d x = operation_kept start h state journal kept notes new x
  act_kept (call.Finishes name) sound free h number d x = operates_kept start h x.count state journal kept notes new x.does
  act_kept (call.Stops name) sound free h number d x =
      kept_as start journal notes (Stop h ∷ []) new (with_task h None state) x.0 x.1
      record { views = _; held = stopped_held start state (record { hosts = kept.views; journal = journal }) kept.held h d; uuids = uuids_kept h _ (λ z. refl) state.hosts kept.uuids }
  act_kept (call.Halts name) sound free h number d x =
      kept_as start journal notes (Halt h ∷ []) new (with_parts h (record { image = state.memory; cache = finmap.empty }) None None state) x.0 x.1
      record { views = _; held = halted_held start state (record { hosts = kept.views; journal = journal }) kept.held h d; uuids = uuids_kept h _ (λ z. refl) state.hosts kept.uuids }
  act_kept (call.Umounts name) sound free h number d x =
      let may : umounts_refusal h state ≡ None = sym (ap (λ (o : Option ℕ). on_host o (λ h. umounts_refusal h state)) number) ∙ free in
      kept_as start journal notes _ new _ x.0 x.1 (umounts_kept start state journal kept h d may)
  act_kept (call.Moves name line move) sound free h number d (inl x) =
      let may : line_refusal line state ≡ None = sym (ap (λ (o : Option ℕ). on_host o (λ h. line_refusal line state)) number) ∙ free in
      kept_quiet start journal notes new _ x.notes_are x.left
      (moved_kept start state journal kept h d move line
      (below_of (length state.memory) line (no_when _ (why.NoLine line (length state.memory)) may)))
  act_kept (call.Moves name line move) sound free h number d (inr x) =
      let may : line_refusal line state ≡ None = sym (ap (λ (o : Option ℕ). on_host o (λ h. line_refusal line state)) number) ∙ free in
      kept_as start journal notes _ new _ x.notes_are x.left
      (move_failed_kept start state journal kept h d move line x.through x.image name (why.MediaFault (record { 0 = line }))
      (below_of (length state.memory) line (no_when _ (why.NoLine line (length state.memory)) may)) x.fails)
  act_kept (call.Refuses name cause) sound free h number d x = absurd x

  acts_of_kept : (c : Call) → IsSoundCall c → refusal_of c state ≡ None → ActsOf c state notes new → Reached start new (journal ++ notes)
  acts_of_kept c sound free x = by_number (number_of (asked_name c) state) refl x
    where
      by_host : (h : ℕ) → number_of (asked_name c) state ≡ Some h → (o : Option HostState) → slice_get state.hosts h ≡ o
          → OnHost o (λ host. ActsAt c h host state notes new) → Reached start new (journal ++ notes)
      by_host h number None is x = absurd x
      by_host h number (Some host) is x =
          let d = declared_at start state journal kept h host is in
          act_kept c sound free h number d (subst (λ (z : HostState). ActsAt c h z state notes new) (same_Some host d.host (sym is ∙ d.host_is)) x)

      by_number : (o : Option ℕ) → number_of (asked_name c) state ≡ o → AtNumber o state (λ h host. ActsAt c h host state notes new) → Reached start new (journal ++ notes)
      by_number None is x = absurd x
      by_number (Some h) is x = by_host h is (slice_get state.hosts h) refl x

  acts_kept : (c : Call) → IsSoundCall c → refusal_of c state ≡ None → Acts c state notes new → Reached start new (journal ++ notes)
  acts_kept (call.Declares name uuid) sound free x = kept_as start journal notes _ new _ x.0 x.1 (declared_kept start state journal kept name uuid sound free)
  acts_kept (call.Refuses name cause) sound free x = kept_as start journal notes _ new _ x.0 x.1 (refused_kept start state journal kept name cause)
  acts_kept e sound free x = acts_of_kept e sound free x

  -- a row of a call keeps what is held
  pub does_kept : (c : Call) → IsSoundCall c → Does c state notes new → Reached start new (journal ++ notes)
  does_kept c sound does = by_refusal (refusal_of c state) refl does
    where
      by_refusal : (o : Option Refusal) → refusal_of c state ≡ o → ByRefusal (asked_name c) o notes state new (Acts c state notes new) → Reached start new (journal ++ notes)
      by_refusal (Some cause) is x = kept_as start journal notes _ new _ x.0 x.1 (refused_kept start state journal kept (asked_name c) cause)
      by_refusal None is x = acts_kept c sound is x

-- Events.

module _ (start : Image) (files : Files) where
  pub begun_kept : (name : List ℕ) (what : Ask) (old new : Session) (journal notes : List Note) → Reached start old.machines journal
      → CommandBegins files name what old notes new → Reached start new.machines (journal ++ notes)
  begun_kept name what old new journal notes kept x =
      does_kept start old.machines journal kept notes new.machines (call.Begins name x.cmd) x.fits x.does

  refused_event_kept : (name : List ℕ) (what : Ask) (old new : Session) (journal notes : List Note) → Reached start old.machines journal
      → RefusesEvent files name what old notes new → Reached start new.machines (journal ++ notes)
  refused_event_kept name what old new journal notes kept (inl x) =
      kept_as start journal notes _ new.machines _ x.notes_are (ap (λ (s : Session). s.machines) x.same) (refused_kept start old.machines journal kept name x.cause)
  refused_event_kept name what old new journal notes kept (inr x) = does_kept start old.machines journal kept notes new.machines (call.Refuses name x.cause) tt x.does

  goes_kept : (P : ℕ → Machines → List Note → Machines → Type 0)
      → ((h : ℕ) (state : Machines) (journal : List Note) → Reached start state journal → (notes : List Note) (new : Machines) → P h state notes new
      → Reached start new (journal ++ notes))
      → (name : List ℕ) (what : Ask) (old new : Session) (journal notes : List Note) → Reached start old.machines journal
      → Continues P files name what old notes new → Reached start new.machines (journal ++ notes)
  goes_kept P keeps name what old new journal notes kept x =
      kept_both start new.machines journal x.first x.rest notes x.joined
      (keeps x.host x.mid.machines (journal ++ x.first) (begun_kept name what old x.mid journal x.first kept x.begun) x.rest new.machines x.does)

  not_step_kept : (name : List ℕ) (old new : Session) (journal notes : List Note) → Reached start old.machines journal → MayNotStep name old notes new → Reached start new.machines (journal ++ notes)
  not_step_kept name old new journal notes kept x =
      kept_as start journal notes _ new.machines _ x.notes_are (ap (λ (s : Session). s.machines) x.same) (refused_kept start old.machines journal kept name x.cause)

  completes_kept : (h : ℕ) (state : Machines) (journal : List Note) → Reached start state journal → (notes : List Note) (new : Machines)
      → Completes h state notes new → Reached start new (journal ++ notes)
  completes_kept h state journal kept notes new x = operates_kept start h x.count state journal kept notes new x.does

  unfinished_kept : (h : ℕ) (state : Machines) (journal : List Note) → Reached start state journal → (notes : List Note) (new : Machines)
      → Unfinished h state notes new → Reached start new (journal ++ notes)
  unfinished_kept h state journal kept notes new x = operates_kept start h x.count state journal kept notes new x.does

  pub event_kept : (e : Event) → IsValidEvent e → (old new : Session) (journal notes : List Note) → Reached start old.machines journal
      → DoesEvent files e old notes new → Reached start new.machines (journal ++ notes)
  event_kept (event.Host name uuid) sound old new journal notes kept x = does_kept start old.machines journal kept notes new.machines (call.Declares name uuid) sound x.0
  event_kept (event.Mkfs name request) sound old new journal notes kept x =
      does_kept start old.machines journal kept notes new.machines (call.Makes name request) sound x.0
  event_kept (event.Begin name what) sound old new journal notes kept (inl x) = begun_kept name what old new journal notes kept x
  event_kept (event.Begin name what) sound old new journal notes kept (inr x) = refused_event_kept name what old new journal notes kept x
  event_kept (event.Run name what) sound old new journal notes kept (inl x) = goes_kept Completes completes_kept name what old new journal notes kept x
  event_kept (event.Run name what) sound old new journal notes kept (inr x) = refused_event_kept name what old new journal notes kept x
  event_kept (event.Step name count) sound old new journal notes kept (inl x) = operates_kept start x.host count old.machines journal kept notes new.machines x.does
  event_kept (event.Step name count) sound old new journal notes kept (inr x) = not_step_kept name old new journal notes kept x
  event_kept e sound old new journal notes kept x = does_kept start old.machines journal kept notes new.machines _ tt x.0

  part_kept : (e : Event) → IsValidEvent e → (old new : Session) (journal notes : List Note) → Reached start old.machines journal
      → PartOf files e old notes new → Reached start new.machines (journal ++ notes)
  part_kept (event.Run name what) sound old new journal notes kept x = goes_kept Unfinished unfinished_kept name what old new journal notes kept x
  part_kept (event.Step name count) sound old new journal notes kept x = unfinished_kept x.host old.machines journal kept notes new.machines x.does.does
  part_kept (event.Finish name) sound old new journal notes kept x = unfinished_kept x.host old.machines journal kept notes new.machines x.does
  part_kept e sound old new journal notes kept x = absurd x

  pub follows_kept : (events : List Event) → AreSound events → (old new : Session) (journal notes : List Note) → Reached start old.machines journal
      → Follows files events old notes new → Reached start new.machines (journal ++ notes)
  follows_kept [] sound old new journal notes kept x = kept_quiet start journal notes new.machines old.machines x.0 (ap (λ (s : Session). s.machines) x.1) kept
  follows_kept (e ∷ events) sound old new journal notes kept x =
      kept_both start new.machines journal x.1 x.2 notes x.5
      (follows_kept events sound.1 x.0 new (journal ++ x.1) x.2 (event_kept e sound.0 old x.0 journal x.1 kept x.3) x.4)

  -- prefixes of sound events
  pub prefix_sound : (count : ℕ) (events : List Event) → AreSound events → AreSound (take count events)
  prefix_sound zero events sound = tt
  prefix_sound (suc count) [] sound = tt
  prefix_sound (suc count) (e ∷ events) sound = (sound.0, prefix_sound count events sound.1)

  one_sound : (events : List Event) (count : ℕ) (e : Event) → AreSound events → slice_get events count ≡ Some e → IsValidEvent e
  one_sound [] count e sound is = absurd cc
  one_sound (x ∷ events) zero e sound is = subst IsValidEvent (same_Some x e is) sound.0
  one_sound (x ∷ events) (suc count) e sound is = one_sound events count e sound.1 is

-- The media failed in a mkfs: one note says so.
pub cut_notes : (c : Call) (old new : Machines) (notes : List Note) → CutCall c old notes new → (name : List ℕ) × (cause : Refusal) × (notes ≡ Refused name cause ∷ [])
cut_notes c old new notes x = by_number (number_of (asked_name c) old) x.1
  where
    at_host : (c : Call) (h : ℕ) (host : HostState) → CutsAt c h host old notes new → (who : List ℕ) × (cause : Refusal) × (notes ≡ Refused who cause ∷ [])
    at_host (call.Makes name request) h host y = (name, why.MediaFault y.line, y.notes_are)
    at_host c h host y = absurd y

    by_host : (h : ℕ) (o : Option HostState) → OnHost o (λ host. CutsAt c h host old notes new) → (who : List ℕ) × (cause : Refusal) × (notes ≡ Refused who cause ∷ [])
    by_host h None y = absurd y
    by_host h (Some host) y = at_host c h host y

    by_number : (o : Option ℕ) → AtNumber o old (λ h host. CutsAt c h host old notes new) → (who : List ℕ) × (cause : Refusal) × (notes ≡ Refused who cause ∷ [])
    by_number None y = absurd y
    by_number (Some h) y = by_host h (slice_get old.hosts h) y

broken_notes : (e : Event) (old new : Session) (notes : List Note) → BreaksEvent e old notes new → (name : List ℕ) × (cause : Refusal) × (notes ≡ Refused name cause ∷ [])
broken_notes (event.Mkfs name request) old new notes x = cut_notes (call.Makes name request) old.machines new.machines notes x.0
broken_notes e old new notes x = absurd x

-- so the state behind it is the one before
pub broken_state : (start : Image) (e : Event) (old new : Session) (journal notes all : List Note) → BreaksEvent e old notes new
    → all ≡ journal ++ notes → (past_of start all).state ≡ (past_of start journal).state
broken_state start e old new journal notes all x joined =
    let b = broken_notes e old new notes x in
    ap (λ (z : List Note). (past_of start z).state) joined ∙ refused_state start journal notes b.0 b.1 b.2

-- Whole runs.

module _ (start : Image) (image : IsImage start) (files : Files) (events : List Event) (sound : AreSound events) where
  pub first_kept : Reached start (unused start) []
  first_kept = record { views = []; held = held_first start image.limit image.normal; uuids = λ k host none. absurd cc }

  -- a state that is kept is settled
  settled : (state : Machines) (journal : List Note) → Reached start state journal → Legal start journal × ReadsAs (past_of start journal).state state.memory
  settled state journal kept = (kept.held.legal, held_reads start state (record { hosts = kept.views; journal = journal }) state.memory kept.held)

  whole_kept : (count : ℕ) (journal : List Note) (last : Session) → Follows files (take count events) (first_session start) journal last → Reached start last.machines journal
  whole_kept count journal last follows = follows_kept start files (take count events) (prefix_sound start files count events sound) (first_session start) last [] journal first_kept follows

  -- the media failed in the last event, a mkfs
  broken_legal : (journal : List Note) (last : Session) → FollowsBroken files events (first_session start) journal last → Legal start journal
  broken_legal journal last x =
      let s = settled x.mid.machines x.whole_notes (whole_kept x.count x.whole_notes x.mid x.whole) in
      let b = broken_notes x.event x.mid last x.part_notes x.part in
      subst (λ (z : List Note). Legal start z) (sym (x.joined ∙ ap (λ (z : List Note). x.whole_notes ++ z) b.2)) (legal_both (first_past start) x.whole_notes (Refused b.0 b.1 ∷ []) s.0 (tt, tt))

  -- and the image reads as that mkfs leaves it
  broken_reads : (journal : List Note) (last : Session) (x : FollowsBroken files events (first_session start) journal last)
      → CutEventReads x.event x.mid (past_of start journal).state last.machines.memory
  broken_reads journal last x =
      subst (λ (s : State). CutEventReads x.event x.mid s last.machines.memory) (sym (broken_state start x.event x.mid last x.whole_notes x.part_notes journal x.part x.joined))
      (event_cut start x.event (one_sound start files events x.count x.event sound x.is) x.mid last x.whole_notes x.part_notes (whole_kept x.count x.whole_notes x.mid x.whole) x.part)

  pub run_settled : (ending : Ending) (journal : List Note) (last : Session)
      (done : EventsDone ending files events (first_session start) journal last) → IsSettled ending start files events journal last done
  run_settled AllDone journal last x =
      let s = settled last.machines journal (follows_kept start files events sound (first_session start) last [] journal first_kept x) in
      record { legal = s.0; reads = s.1 }
  run_settled MkfsFails journal last x = record { legal = broken_legal journal last x; reads = broken_reads journal last x }
  run_settled EndsOutOfMemoryBroken journal last x = record { legal = broken_legal journal last x; reads = broken_reads journal last x }
  run_settled SinkFails journal last x =
      let before = whole_kept x.count x.whole_notes x.mid x.whole in
      let after = event_kept start files x.event (one_sound start files events x.count x.event sound x.is) x.mid last x.whole_notes x.part_notes before x.part in
      let s = settled last.machines journal (subst (λ (z : List Note). Reached start last.machines z) (sym x.joined) after) in
      record { legal = s.0; reads = s.1 }
  run_settled (SourceFails end) journal last x =
      let s = settled last.machines journal (whole_kept x.count journal last x.follows) in
      record { legal = s.0; reads = s.1 }
  run_settled EndsOutOfMemory journal last (inl x) =
      let s = settled last.machines journal (whole_kept x.count journal last x.follows) in
      record { legal = s.0; reads = s.1 }
  run_settled EndsOutOfMemory journal last (inr x) =
      let before = whole_kept x.count x.whole_notes x.mid x.whole in
      let after = part_kept start files x.event (one_sound start files events x.count x.event sound x.is) x.mid last x.whole_notes x.part_notes before x.part in
      let s = settled last.machines journal (subst (λ (z : List Note). Reached start last.machines z) (sym x.joined) after) in
      record { legal = s.0; reads = s.1 }
