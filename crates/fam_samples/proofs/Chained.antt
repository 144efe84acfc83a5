-- From what a call promises to the row of its event, and to the next call.
use Prim.Native.Nat.{zero, suc}
use Rattle.std.proofs.Common.{◌≡◌, inl, inr, ℕ, Bool, true, false, List, [], ◌∷◌, ◌++◌, length, Option, Some, None, refl, ap, sym, ◌∙◌, subst}
use Rattle.std.specs.Prelude.{slice_get, not}
use Rattle.std.proofs.lemmas.List.{append-nil, append_assoc}
use Rattle.fam_base.specs.Image.{Image}
use Rattle.fam_media.specs.Files.{Files}
use Rattle.fam_journal.specs.declared.event.Event.TheVariants as event
use Rattle.fam_journal.specs.declared.refusal.Refusal.{Refusal}
use Rattle.fam_journal.specs.declared.refusal.Refusal.TheVariants as why
use Rattle.fam_commands.specs.Classes.{is_mount}
use Rattle.fam_journal.specs.Calls as call
use Rattle.fam_journal.specs.Calls.{Acts, ActsAt, AtNumber, ByRefusal, Call, Does, OnHost, DoesOperations, busy_at, idle_refusal, may_begin, asked_name, number_of, on_host, refusal_of, when}
use Rattle.fam_journal.specs.CallRecords.{FinishPart, Answers, IsSoundCall, DoesRow, WorldCall, refusal_noted}
use Rattle.fam_journal.specs.Ends.{AllDone, CutEventReads, EventsDone, MkfsFails, EndsOutOfMemory}
use Rattle.fam_journal.specs.Events.{DoesEvent, Session, first_session}
use Rattle.fam_journal.specs.Kept.{Held}
use Rattle.fam_journal.specs.Laws.{IsImage}
use Rattle.fam_journal.specs.Machines.{HostState, Machines, unused}
use Rattle.fam_journal.specs.Notes.{Note, Refused}
use Rattle.fam_journal.specs.Past.{State}
use Rattle.fam_journal.specs.View.{WorldStands, WorldView, empty_world}
use Rattle.fam_journal.specs.ByWorld.{TakesNoMedia, refusal_in, world_after}
use Rattle.fam_journal.proofs.JournalLaws.{begun, kept_on}
use Rattle.fam_journal.proofs.Calls.Shown.{refusal_shown}
use Rattle.fam_journal.proofs.Calls.WorldRows.{row_done}
use Rattle.fam_journal.proofs.Runs.Following.{broken_state}
use Rattle.fam_samples.specs.Caller.{ComesTo, ComesToCut, CutTrace, Trace, OutOfMemoryTrace, Wishes, events}
use Rattle.fam_machine.specs.MkfsRequest.{mkfs_request}

module _ (start : Image) (state : Machines) (old : WorldView) (held : Held start state old state.memory) where
  lines_are : length state.memory ≡ length start
  lines_are = held.kept.held.lines

  stands : WorldStands (length state.memory) state old
  stands = subst (λ (n : ℕ). WorldStands n state old) (sym lines_are) held.stands

  told_refusal : (c : Call) → refusal_of c state ≡ refusal_in c old (length start)
  told_refusal c = refusal_shown (length state.memory) state old c stands ∙ ap (refusal_in c old) lines_are

  -- a call that takes no media did its row
  world_moves : (c : Call) (answered : Option Refusal) (new : WorldView) → IsSoundCall c → TakesNoMedia c (length start) old
      → WorldCall c (length start) answered old new → DoesRow start (Some state.memory) (Does c state) old new
  world_moves c answered new sound takes w =
      let takes' : TakesNoMedia c (length state.memory) old = subst (λ (n : ℕ). TakesNoMedia c n old) (sym lines_are) takes in
      let x = row_done state old stands c takes' in
      let same : world_after c (length state.memory) old ≡ new = ap (λ (n : ℕ). world_after c n old) lines_are ∙ sym w.after in
      let joined : new.journal ≡ old.journal ++ x.notes = sym (ap (λ (z : WorldView). z.journal) same) ∙ x.joined in
      let here : WorldStands (length start) x.left new = subst (λ (z : WorldView). WorldStands (length start) x.left z) same
      (subst (λ (n : ℕ). WorldStands n x.left (world_after c (length state.memory) old)) lines_are x.stands) in
      record {
        state = x.left;
        notes = x.notes;
        row = x.row;
        told_is = ap Some (sym x.memory);
        joined = joined;
        held = kept_on start state x.left old new c x.notes held sound x.row here joined;
      }

  -- where it begins a command nothing stands against that
  may : (name : List ℕ) (cmd : Rattle.fam_base.specs.declared.cmd.Cmd.Cmd) (new : WorldView) → WorldCall (call.Begins name cmd) (length start) None old new → may_begin name (is_mount cmd) state ≡ None
  unfolding refusal_of
  may name cmd new w = told_refusal (call.Begins name cmd) ∙ sym w.said

-- a step that isn't refused is one operation
module _ (files : Files) (name : List ℕ) (old new : Machines) (notes : List Note) where
  by_host : (h : ℕ) → number_of name old ≡ Some h → idle_refusal h old ≡ None → (o : Option HostState)
      → OnHost o (λ host. ActsAt (call.Steps name) h host old notes new) → DoesOperations h 1 old notes new
  by_host h number free None x = absurd x
  by_host h number free (Some host) x = inr (busy, new, notes, [], x, (refl, refl), sym (append-nil notes))
    where
      go : (t : Bool) → when t why.Idle ≡ None → t ≡ false
      go true e = absurd cc
      go false e = refl

      busy : busy_at h old ≡ true
      busy = back (busy_at h old) (go (not (busy_at h old)) free)
        where
          back : (t : Bool) → not t ≡ false → t ≡ true
          back true e = refl
          back false e = absurd cc

  step_event : (copied : ℕ) → refusal_of (call.Steps name) old ≡ None → Does (call.Steps name) old notes new
      → DoesEvent files (event.Step name 1) (record { machines = old; copied = copied }) notes (record { machines = new; copied = copied })
  unfolding refusal_of
  step_event copied free row = by_number (number_of name old) refl free (subst (λ (o : Option Refusal). ByRefusal name o notes old new (Acts (call.Steps name) old notes new)) free row)
    where
      by_number : (o : Option ℕ) → number_of name old ≡ o → on_host o (λ h. idle_refusal h old) ≡ None
          → AtNumber o old (λ h host. ActsAt (call.Steps name) h host old notes new)
          → DoesEvent files (event.Step name 1) (record { machines = old; copied = copied }) notes (record { machines = new; copied = copied })
      by_number None number none x = absurd cc
      by_number (Some h) number none x = inl record { host = h; number = number; busy = none; does = by_host h number none (slice_get old.hosts h) x; copied = refl }

-- a call that answered nothing wasn't refused
free_of : (c : Call) (lines before now : ℕ) (old new : WorldView) → Answers c lines None before now old new → refusal_in c old lines ≡ None
free_of c lines before now old new a = go (refusal_in c old lines) refl
  where
    go : (o : Option Refusal) → refusal_in c old lines ≡ o → o ≡ None
    go None is = refl
    go (Some cause) is =
        absurd (let said : None ≡ refusal_noted (Refused (asked_name c) cause ∷ []) = a.said ∙ ap refusal_noted (a.refused cause is).0 in cc)

-- one call's notes behind a journal, and what is noted later
behind : (j n rest k : List Note) → k ≡ j ++ n → k ++ rest ≡ j ++ (n ++ rest)
behind j n rest k is = ap (λ (z : List Note). z ++ rest) is ∙ append_assoc j n rest

joined_all : (n1 n2 n3 n4 n5 n6 n7 j1 j2 j3 j4 j5 j6 j7 : List Note) → j1 ≡ [] ++ n1 → j2 ≡ j1 ++ n2 → j3 ≡ j2 ++ n3 → j4 ≡ j3 ++ n4 → j5 ≡ j4 ++ n5
    → j6 ≡ j5 ++ n6 → j7 ≡ j6 ++ n7 → j7 ≡ n1 ++ (n2 ++ (n3 ++ (n4 ++ (n5 ++ (n6 ++ (n7 ++ []))))))
joined_all n1 n2 n3 n4 n5 n6 n7 j1 j2 j3 j4 j5 j6 j7 e1 e2 e3 e4 e5 e6 e7 =
    sym (append-nil j7)
    ∙ behind j6 n7 [] j7 e7
    ∙ behind j5 n6 (n7 ++ []) j6 e6
    ∙ behind j4 n5 (n6 ++ (n7 ++ [])) j5 e5
    ∙ behind j3 n4 (n5 ++ (n6 ++ (n7 ++ []))) j4 e4
    ∙ behind j2 n3 (n4 ++ (n5 ++ (n6 ++ (n7 ++ [])))) j3 e3
    ∙ behind j1 n2 (n3 ++ (n4 ++ (n5 ++ (n6 ++ (n7 ++ []))))) j2 e2
    ∙ behind [] n1 (n2 ++ (n3 ++ (n4 ++ (n5 ++ (n6 ++ (n7 ++ [])))))) j1 e1

-- operations of a host that has no task are none
idle_none : (h count : ℕ) (old new : Machines) (notes : List Note) → busy_at h old ≡ false → DoesOperations h count old notes new → (notes ≡ []) × (new ≡ old)
idle_none h zero old new notes idle x = x
idle_none h (suc count) old new notes idle (inl x) = (x.1, x.2)
idle_none h (suc count) old new notes idle (inr x) = absurd (let busy = x.0 in cc)

abbrev at_session : Machines → Session
at_session m = record { machines = m; copied = 0 }

module _ (start : Image) (files : Files) (w : Wishes) (image : IsImage start) where
  first_held : Held start (unused start) empty_world (unused start).memory
  first_held = begun start image

  pub done : (t : Trace start w) → ComesTo start AllDone files (events w) t.halted t.evicted.told
  done t =
      let m1 = world_moves start (unused start) empty_world first_held (call.Declares w.name w.uuid) None t.declared w.is_uuid tt t.host in
      let m2 = t.mkfs.leaves start m1.state m1.told_is m1.held in
      let m3 = world_moves start m2.state t.made.world m2.held (call.Begins w.name w.cmd) None t.begun w.fits tt t.begin in
      let m4 = t.step.keeps start m3.state (m2.told_is ∙ m3.told_is) m3.held in
      let m5 = t.finish.keeps start m4.state m4.told_is m4.held in
      let m6 = t.evict.keeps start m5.state m5.told_is m5.held in
      let m7 = world_moves start m6.state t.evicted.world m6.held (call.Halts w.name) None t.halted tt tt t.halt in
      let free : refusal_of (call.Steps w.name) m3.state ≡ None = told_refusal start m3.state t.begun m3.held (call.Steps w.name)
      ∙ free_of (call.Steps w.name) (length start) t.made.faults t.stepped.faults t.begun t.stepped.world t.step.answers.answers in
      record {
        last = at_session m7.state;
        follows = (
          at_session m1.state,
          m1.notes,
          _,
          (m1.row, refl),
          (
            at_session m2.state,
            m2.notes,
            _,
            (m2.row, refl),
            (
              at_session m3.state,
              m3.notes,
              _,
              inl record { free = may start m2.state t.made.world m2.held w.name w.cmd t.begun t.begin; cmd = w.cmd; copied = 0; says = refl; fits = w.fits; does = m3.row; copied_is = refl },
              (
                at_session m4.state,
                m4.notes,
                _,
                step_event files w.name m3.state m4.state m4.notes 0 free m4.row,
                (
                  at_session m5.state,
                  m5.notes,
                  _,
                  (m5.row, refl),
                  (
                    at_session m6.state,
                    m6.notes,
                    _,
                    (m6.row, refl),
                    (at_session m7.state, m7.notes, [], (m7.row, refl), (refl, refl), refl),
                    refl,
                  ),
                  refl,
                ),
                refl,
              ),
              refl,
            ),
            refl,
          ),
          joined_all m1.notes m2.notes m3.notes m4.notes m5.notes m6.notes m7.notes _ _ _ _ _ _ _ m1.joined m2.joined m3.joined m4.joined m5.joined m6.joined m7.joined,
        );
        left = m6.told_is ∙ m7.told_is;
        held = m7.held;
      }

  pub cut : (t : CutTrace start w) → ComesToCut start MkfsFails files (events w) t.cut.world t.cut.told
  cut t =
      let m1 = world_moves start (unused start) empty_world first_held (call.Declares w.name w.uuid) None t.declared w.is_uuid tt t.host in
      let m2 = t.mkfs.leaves start m1.state m1.told_is m1.held in
      record {
        last = at_session m2.state;
        follows = record {
          count = 1;
          event = event.Mkfs w.name (mkfs_request w.fs 4096 65536 1 false None);
          is = refl;
          mid = at_session m1.state;
          whole_notes = m1.notes;
          part_notes = m2.notes;
          whole = (at_session m1.state, m1.notes, [], (m1.row, refl), (refl, refl), sym (append-nil m1.notes));
          part = (m2.row, refl);
          joined = m2.joined ∙ ap (λ (j : List Note). j ++ m2.notes) m1.joined;
        };
        left = m2.told_is;
        legal = m2.legal;
        reads = subst (λ (s : State). CutEventReads (event.Mkfs w.name (mkfs_request w.fs 4096 65536 1 false None)) (at_session m1.state) s m2.state.memory)
            (sym (broken_state start (event.Mkfs w.name (mkfs_request w.fs 4096 65536 1 false None)) (at_session m1.state) (at_session m2.state) t.declared.journal
            m2.notes t.cut.world.journal (m2.row, refl) m2.joined)) m2.reads;
      }

  pub out_of_memory : (t : OutOfMemoryTrace start w) → ComesTo start EndsOutOfMemory files (event.Host w.name w.uuid ∷ event.Finish w.name ∷ []) t.wanting.world t.wanting.told
  out_of_memory t =
      let m1 = world_moves start (unused start) empty_world first_held (call.Declares w.name w.uuid) None t.declared w.is_uuid tt t.host in
      let m2 = t.finish.parts start m1.state m1.told_is m1.held in
      record {
        last = at_session m2.state;
        follows = by_part m1.state m1.notes m1.row m2.state m2.notes _
            (m2.joined ∙ ap (λ (j : List Note). j ++ m2.notes) m1.joined) m2.row;
        left = m2.told_is;
        held = m2.held;
      }
    where
      by_part : (mid : Machines) (first : List Note) → Does (call.Declares w.name w.uuid) (unused start) first mid
          → (new : Machines) (notes journal : List Note) → journal ≡ first ++ notes → FinishPart w.name mid notes new
          → EventsDone EndsOutOfMemory files (event.Host w.name w.uuid ∷ event.Finish w.name ∷ []) (first_session start) journal (at_session new)
      by_part mid first row new notes journal joined (inr x) = inl record { count = 1; follows = (at_session mid, first, notes, (row, refl), (x.0, ap at_session x.1), joined) }
      by_part mid first row new notes journal joined (inl x) = by_busy (busy_at x.host mid) refl
        where
          by_busy : (t : Bool) → busy_at x.host mid ≡ t → EventsDone EndsOutOfMemory files (event.Host w.name w.uuid ∷ event.Finish w.name ∷ []) (first_session start) journal (at_session new)
          by_busy true is = inr record {
            count = 1;
            event = event.Finish w.name;
            is = refl;
            mid = at_session mid;
            whole_notes = first;
            part_notes = notes;
            whole = (at_session mid, first, [], (row, refl), (refl, refl), sym (append-nil first));
            part = record { host = x.host; number = x.number; busy = ap (λ (b : Bool). when (not b) why.Idle) is; does = x.does; copied = refl };
            joined = joined;
          }
          by_busy false is =
              let none = idle_none x.host x.does.count mid new notes is x.does.does in
              inl record { count = 1; follows = (at_session mid, first, notes, (row, refl), (none.0, ap at_session none.1), joined) }
