-- A command that ends otherwise than with an entry appended, or with a fault of the media, leaves memory as it was.
use Prim.Native.Nat.{zero, suc}
use Rattle.std.proofs.Common.{◌≡◌, ◌⊎◌, ℕ, ◌+◌, inl, inr, Bool, true, false, List, [], ◌∷◌, ◌++◌, length, take, Option, Some, None, option_map, refl, ap, sym, ◌∙◌, subst}
use Rattle.std.specs.Prelude.{if◌then◌else◌, is_some, map, nat_lt, slice_get, unwrap_or}
use Rattle.std.proofs.lemmas.List.{append-nil}
use Rattle.std.proofs.lemmas.Option.{same_Some}
use Rattle.std.specs.FinMap as map_of_lines
use Rattle.fam_base.specs.Image.{Image, eight, line_at}
use Rattle.fam_base.specs.declared.line.LineNo.{LineNo}
use Rattle.fam_format.specs.Layout.{geometry}
use Rattle.fam_rules.specs.Reply as reply
use Rattle.fam_rules.specs.Reply.{Reply}
use Rattle.fam_rules.specs.Written.{lines_of}
use Rattle.fam_format.specs.Line.{last_word}
use Rattle.fam_media.specs.Files.{Files}
use Rattle.fam_machine.specs.declared.cell.Cell.{Cell}
use Rattle.fam_machine.specs.declared.cell.Cell.TheVariants.{Absent, Clean, Dirty}
use Rattle.fam_machine.specs.Caches.{IsClean, IsCleanCell, cell_at}
use Rattle.fam_machine.specs.OneLine.{failed_send}
use Rattle.fam_machine.specs.Operations.{Breaking, Failure, Machine, failed, given, given_by, not_brought, not_sent, operated, torn_at}
use Rattle.fam_machine.proofs.CleanCaches.{clean_empty}
use Rattle.fam_machine.proofs.OneOperation.{operated_length, same_given}
use Rattle.fam_commands.specs.declared.phase.Phase.{Phase}
use Rattle.fam_commands.specs.declared.phase.Phase.TheVariants as at
use Rattle.fam_commands.specs.Appends.{IsBeforeWrites}
use Rattle.fam_commands.specs.FirstStore.{IsUpToStore}
use Rattle.fam_commands.specs.Keeping.{kept_after}
use Rattle.fam_commands.specs.Kept.{IsKept}
use Rattle.fam_commands.specs.Stands.{StandsFor, goes, note_of, starts, task_after, turn_given, with_given}
use Rattle.fam_commands.specs.Task.{Task, op_at, mounted, op_of, size_of}
use Rattle.fam_commands.specs.Turns.{Turn, Goes, Marks, Finds, Writes, Ends, turn_at}
use Rattle.fam_commands.proofs.Steps.Standing.{next_operation}
use Rattle.fam_commands.proofs.UpToStores.{up_to_next}
use Rattle.fam_journal.specs.declared.event.Ask.{Ask}
use Rattle.fam_journal.specs.declared.event.Event.{Event}
use Rattle.fam_journal.specs.declared.event.Event.TheVariants as event
use Rattle.fam_journal.specs.declared.refusal.Refusal.{Refusal}
use Rattle.fam_journal.specs.Calls as call
use Rattle.fam_journal.specs.Calls.{Acts, ActsAt, ByRefusal, Completes, Does, DoesOperations, busy_at, has_name, is_busy_host, number_of, refusal_of}
use Rattle.fam_journal.specs.Events.{Continues, DoesEvent, Session, first_session}
use Rattle.fam_journal.specs.Follows.{Follows}
use Rattle.fam_journal.specs.Machines as machine
use Rattle.fam_journal.specs.Machines.{Fails, HostState, Machines, Outcome, Passes, TaskState, cut_task, machine_of, notes_of, operation, task_begun, task_on, unused, with_parts, with_machine, with_task}
use Rattle.fam_journal.specs.View.{StandsAs}
use Rattle.fam_journal.specs.Notes.{Answered, MediaFault, Note, Replied}
use Rattle.fam_outcomes.specs.Programs.{last_passes}
use Rattle.fam_journal.proofs.Calls.Cases.{by_host, by_refusal, place_same}
use Rattle.fam_journal.proofs.Shapes.EventRows.{begun_free}
use Rattle.fam_journal.proofs.Calls.Members.{changed_at_member}
use Rattle.fam_journal.proofs.Calls.TaskRows.{row_served}
use Rattle.fam_world.proofs.UpToOn.{first_behind, reads_clean, reads_leave}
use Rattle.fam_program.specs.Shots.{is_short}

-- The last note behind others.

pub last_behind : (test : Note → Bool) (front notes : List Note) → last_passes test notes ≡ true → last_passes test (front ++ notes) ≡ true
last_behind test [] notes is = is
last_behind test (note ∷ []) [] is = absurd (let e : false ≡ true = is in cc)
last_behind test (note ∷ []) (next ∷ notes) is = is
last_behind test (note ∷ other ∷ front) notes is = last_behind test (other ∷ front) notes is

behind_of : (test : Note → Bool) (front rest notes : List Note) → notes ≡ front ++ rest → last_passes test rest ≡ true → last_passes test notes ≡ true
behind_of test front rest notes joined is = ap (last_passes test) joined ∙ last_behind test front rest is

-- An operation of a task that has come to its first store, or behind it.

-- it goes on there, or answers that an entry is appended
abbrev WritesOn : Turn → Type 0
WritesOn (Goes n) = IsBeforeWrites n.phase → ⊥
WritesOn (Marks n) = ⊥
WritesOn (Finds k n) = ⊥
WritesOn (Writes seq e n) = ⊥
WritesOn (Ends said) = (seq : ℕ) × (said ≡ reply.Appended seq)

choose : (b : Bool) (x y : Phase) → (IsBeforeWrites x → ⊥) → (IsBeforeWrites y → ⊥) → IsBeforeWrites (if b then x else y) → ⊥
choose true x y a c = a
choose false x y a c = c

writes_on : (p : Phase) (t : Task) (word : ℕ) → (IsBeforeWrites p → ⊥) → WritesOn (turn_at p t word)
writes_on (at.StoreData j k) t word writing = choose (nat_lt k last_word) (at.StoreData j (k + 1)) (at.SendData j) (λ x. x) (λ x. x)
writes_on (at.SendData j) t word writing = choose (nat_lt (j + 1) (lines_of (size_of t.entry))) (at.StoreData (j + 1) 0) (at.StoreSlot 0 0) (λ x. x) (λ x. x)
writes_on (at.StoreSlot j k) t word writing = choose (nat_lt k last_word) (at.StoreSlot j (k + 1)) (at.SendSlot j) (λ x. x) (λ x. x)
writes_on (at.SendSlot j) t word writing = choose (nat_lt (j + 1) (geometry t.params).lines) (at.StoreSlot (j + 1) 0) at.FenceSlot (λ x. x) (λ x. x)
writes_on at.FenceSlot t word writing = λ x. x
writes_on at.StoreGate t word writing = λ x. x
writes_on at.SendGate t word writing = λ x. x
writes_on at.FenceGate t word writing = (t.gate, refl)
writes_on e t word writing = absurd (writing tt)

-- A fault of the media in an operation before the first store sends nothing.

clean_send : (through : ℕ) (words : List ℕ) (c : Cell) → IsCleanCell c → failed_send through words c ≡ None
clean_send through words Absent clean = refl
clean_send through words (Clean copy) clean = refl
clean_send through words (Dirty a copy) clean = absurd clean

brought_same : (l : LineNo) (m : Machine) (c : Cell) (x : Failure) → not_brought l m c ≡ Some x → x.left.image ≡ m.image
brought_same l m Absent x is = ap (λ (f : Failure). f.left.image) (sym (same_Some _ x is))
brought_same l m (Clean words) x is = absurd cc
brought_same l m (Dirty a words) x is = absurd cc

module _ (through : Breaking) (m : Machine) (clean : IsClean m.cache) (x : Failure) where
  sent_same : (l : LineNo) → not_sent through.mask l m ≡ Some x → x.left.image ≡ m.image
  sent_same l is =
      let none : not_sent through.mask l m ≡ None = ap (option_map (torn_at l m)) (clean_send through.mask (line_at m.image l.0) (cell_at m.cache l.0) (clean l.0)) in
      absurd (let bad = sym none ∙ is in cc)

  fails_same : (p : Phase) (t : Task) → IsBeforeWrites p → failed through (op_at t p) m ≡ Some x → x.left.image ≡ m.image
  fails_same at.DropMagic t before is = sent_same _ is
  fails_same at.Magic t before is = brought_same _ m _ x is
  fails_same (at.Drop part j) t before is = sent_same _ is
  fails_same (at.Word part j k) t before is = brought_same _ m _ x is
  fails_same at.DropGate t before is = sent_same _ is
  fails_same at.Gate t before is = brought_same _ m _ x is
  fails_same (at.Check i) t before is = absurd cc
  fails_same at.Decide t before is = absurd cc
  fails_same e t before is = absurd before

-- Operations of a host's task up to its answer.

module _ (h : ℕ) where
  -- where the task stands
  record At (state : Machines) (t : Task) : Type 0 where
    host : HostState
    host_is : slice_get state.hosts h ≡ Some host
    s : TaskState
    s_is : host.task ≡ Some s
    standing : StandsAs (length state.memory) s t

  -- nothing comes behind the answer
  none_behind : (count : ℕ) (state new : Machines) (rest : List Note) → busy_at h state ≡ false → DoesOperations h count state rest new → (rest ≡ []) × (new ≡ state)
  none_behind zero state new rest idle does = does
  none_behind (suc count) state new rest idle (inl x) = (x.1, x.2)
  none_behind (suc count) state new rest idle (inr x) = absurd (let busy = x.0 in cc)

  module _ (state : Machines) (t : Task) (here : At state t) where
    abbrev m : Machine
    m = machine_of state here.host

    abbrev word : ℕ
    word = unwrap_or (given (op_of t) m) 0

    abbrev turn : Turn
    turn = turn_given t word

    abbrev on : TaskState
    on = task_on here.s (given (op_of t) m)

    abbrev left : Turn → Machines
    left z = with_parts h (operated (op_of t) m) (machine.task_behind (note_of z) on) (kept_after z t here.host.kept) state

    busy : busy_at h state ≡ true
    busy = ap is_busy_host here.host_is ∙ ap (λ (o : Option TaskState). is_some o) here.s_is

    -- the media served it
    row : operation Passes h state ≡ Some (record { notes = notes_of h (note_of turn); left = left turn })
    row = row_served state h here.host here.host_is here.s here.s_is (length state.memory) refl t here.standing m refl turn refl

    abbrev passes : machine.Done
    passes = record { notes = notes_of h (note_of turn); left = left turn }

    passed : (first : List Note) (mid : Machines) → operation Passes h state ≡ Some (record { notes = first; left = mid }) → (notes_of h (note_of turn) ≡ first) × (left turn ≡ mid)
    passed first mid is =
        let same = same_Some passes (record { notes = first; left = mid }) (sym row ∙ is) in (ap (λ (z : machine.Done). z.notes) same, ap (λ (z : machine.Done). z.left) same)

    host_left : (z : Turn) → slice_get (left z).hosts h
        ≡ Some (record here.host {
          cache = (operated (op_of t) m).cache;
          task = machine.task_behind (note_of z) on;
          kept =
              kept_after z t here.host.kept;
        })
    host_left z = changed_at_member h
        (λ y. record y { cache = (operated (op_of t) m).cache; task = machine.task_behind (note_of z) on; kept = kept_after z t here.host.kept })
        state.hosts here.host here.host_is

    idle_left : (z : Turn) → machine.task_behind (note_of z) on ≡ None → busy_at h (left z) ≡ false
    idle_left z none = ap is_busy_host (host_left z) ∙ ap (λ (o : Option TaskState). is_some o) none

    -- the task that goes on
    abbrev next_at : (z : Turn) (n : Task) → task_after turn ≡ Some n → machine.task_behind (note_of z) on ≡ Some on → At (left z) n
    next_at z n next task = record {
      host = record here.host { cache = (operated (op_of t) m).cache; task = machine.task_behind (note_of z) on; kept = kept_after z t here.host.kept };
      host_is = host_left z;
      s = on;
      s_is = task;
      standing = record {
        joined = here.standing.joined;
        stands = subst (λ (k : ℕ). StandsFor here.s.kept here.s.cmd here.s.me k n (with_given here.s.words (given (op_of t) m)) (here.s.made + 1)) (sym (operated_length (op_of t) m))
            (subst (λ (o : Option ℕ). StandsFor here.s.kept here.s.cmd here.s.me (length state.memory) n (with_given here.s.words o)
            (here.s.made + 1)) (same_given (op_of t) m) (goes word here.standing.stands next));
      };
    }

    -- the media failed in it
    cut_row : (through : Breaking) → operation (Fails through) h state ≡ cut_task h state (failed through (op_of t) m)
    unfolding operation
    cut_row through =
        ap (machine.host_done (Fails through) h state) here.host_is
        ∙ ap (machine.task_done (Fails through) h state here.host) here.s_is
        ∙ ap (machine.op_done (Fails through) h state here.host here.s)
        (next_operation here.s.kept here.s.cmd here.s.me (length state.memory) t here.s.words here.s.made here.standing.joined
        here.standing.stands)

    record IsCutAt (through : Breaking) (first : List Note) (mid : Machines) : Type 0 where
      failure : Failure
      fails : failed through (op_of t) m ≡ Some failure
      first_is : first ≡ Answered h (MediaFault failure.line.0) ∷ []
      mid_is : mid ≡ with_machine h failure.left None state

    cut_of : (through : Breaking) (first : List Note) (mid : Machines) → operation (Fails through) h state ≡ Some (record { notes = first; left = mid }) → IsCutAt through first mid
    cut_of through first mid is = by_failure (failed through (op_of t) m) refl
      where
        by_failure : (o : Option Failure) → failed through (op_of t) m ≡ o → IsCutAt through first mid
        by_failure None fails = absurd (let bad : None ≡ Some (record { notes = first; left = mid }) = ap (cut_task h state) (sym fails) ∙ sym (cut_row through) ∙ is in cc)
        by_failure (Some x) fails =
            let same = same_Some (record { notes = Answered h (MediaFault x.line.0) ∷ []; left = with_machine h x.left None state })
            (record { notes = first; left = mid }) (ap (cut_task h state) (sym fails) ∙ sym (cut_row through) ∙ is) in
            record { failure = x; fails = fails; first_is = sym (ap (λ (z : machine.Done). z.notes) same); mid_is = sym (ap (λ (z : machine.Done). z.left) same) }

    cut_idle : (through : Breaking) (first : List Note) (mid : Machines) → IsCutAt through first mid → busy_at h mid ≡ false
    cut_idle through first mid x =
        ap (busy_at h) x.mid_is ∙ ap is_busy_host (changed_at_member h (λ y. record y { cache = x.failure.left.cache; task = None }) state.hosts here.host here.host_is)

    -- notes that end with an answer or a fault, and nothing behind it
    ends_short : (test : Note → Bool) (note : Note) (first rest notes : List Note) → first ≡ note ∷ [] → rest ≡ [] → notes ≡ first ++ rest → test note ≡ true → last_passes test notes ≡ true
    ends_short test note first rest notes first_is none joined is =
        ap (last_passes test) (joined ∙ ap (λ (ns : List Note). first ++ ns) none ∙ append-nil first ∙ first_is) ∙ is

  abbrev LaterWrites : ℕ → Machines → List Note → Type 0
  LaterWrites count new rest = (mid : Machines) (n : Task) → At mid n → (IsBeforeWrites n.phase → ⊥) → DoesOperations h count mid rest new → last_passes is_short rest ≡ true

  -- Of an append that has come to its first store they end with an entry, or with a fault.
  writes_end : (count : ℕ) (state new : Machines) (notes : List Note) (t : Task) → At state t → (IsBeforeWrites t.phase → ⊥)
      → DoesOperations h count state notes new → busy_at h new ≡ false → last_passes is_short notes ≡ true
  writes_end zero state new notes t here writing does done = absurd (let a = busy state t here in let same = ap (busy_at h) does.1 in cc)
  writes_end (suc count) state new notes t here writing (inl x) done = absurd (let a = busy state t here in let b = x.0 in cc)
  writes_end (suc count) state new notes t here writing (inr x) done =
      by_outcome (λ mid n at_n writing_n does. writes_end count mid new x.3 n at_n writing_n does done) x.4.outcome x.4.is
    where
      by_turn : LaterWrites count new x.3 → (first_is : notes_of h (note_of (turn state t here)) ≡ x.2) → left state t here (turn state t here) ≡ x.1
          → (z : Turn) → turn state t here ≡ z → WritesOn z → last_passes is_short notes ≡ true
      by_turn later first_is left_is (Goes n) is on_is =
          behind_of is_short x.2 x.3 notes x.6
          (later (left state t here (Goes n)) n (next_at state t here (Goes n) n (ap task_after is) refl) on_is
          (subst (λ (y : Machines). DoesOperations h count y x.3 new) (sym left_is ∙ ap (left state t here) is) x.5))
      by_turn later first_is left_is (Marks n) is on_is = absurd on_is
      by_turn later first_is left_is (Finds k n) is on_is = absurd on_is
      by_turn later first_is left_is (Writes seq e n) is on_is = absurd on_is
      by_turn later first_is left_is (Ends said) is on_is =
          let idle : busy_at h x.1 ≡ false = ap (busy_at h) (sym left_is ∙ ap (left state t here) is) ∙ idle_left state t here (Ends said) refl in
          let first : x.2 ≡ Answered h (Replied (reply.Appended on_is.0)) ∷ [] =
          sym first_is ∙ ap (λ (y : Turn). notes_of h (note_of y)) is ∙ ap (λ (r : Reply). Answered h (Replied r) ∷ []) on_is.1 in
          ends_short state t here is_short (Answered h (Replied (reply.Appended on_is.0))) x.2 x.3 notes first (none_behind count x.1 new x.3 idle x.5).0 x.6 refl

      by_outcome : LaterWrites count new x.3 → (o : Outcome) → operation o h state ≡ Some (record { notes = x.2; left = x.1 }) → last_passes is_short notes ≡ true
      by_outcome later Passes is =
          by_turn later (passed state t here x.2 x.1 is).0 (passed state t here x.2 x.1 is).1 (turn state t here) refl
          (writes_on t.phase t (unwrap_or (given_by (op_of t) (word state t here)) 0) writing)
      by_outcome later (Fails through) is =
          let c = cut_of state t here through x.2 x.1 is in
          ends_short state t here is_short (Answered h (MediaFault c.failure.line.0)) x.2 x.3 notes c.first_is (none_behind count x.1 new x.3 (cut_idle state t here through x.2 x.1 c) x.5).0 x.6 refl

  -- Of one that reads, on a cache that has nothing to send, they end so, or leave memory.
  abbrev IsSpared : Machines → Machines → List Note → Type 0
  IsSpared old new notes = (last_passes is_short notes ≡ true) ⊎ (new.memory ≡ old.memory)

  abbrev LaterReads : ℕ → Machines → List Note → Type 0
  LaterReads count new rest =
      (mid : Machines) (n : Task) (at_n : At mid n) → IsBeforeWrites n.phase → IsClean at_n.host.cache → map eight mid.memory ≡ mid.memory → DoesOperations h count mid rest new → IsSpared mid new rest

  reads_end : (count : ℕ) (state new : Machines) (notes : List Note) (t : Task) → (here : At state t) → IsBeforeWrites t.phase
      → IsClean here.host.cache → map eight state.memory ≡ state.memory → DoesOperations h count state notes new → busy_at h new ≡ false
      → IsSpared state new notes
  reads_end zero state new notes t here before clean normal does done = inr (ap (λ (z : Machines). z.memory) does.1)
  reads_end (suc count) state new notes t here before clean normal (inl x) done = inr (ap (λ (z : Machines). z.memory) x.2)
  reads_end (suc count) state new notes t here before clean normal (inr x) done =
      by_outcome (λ mid n at_n before_n clean_n normal_n does. reads_end count mid new x.3 n at_n before_n clean_n normal_n does done) x.4.outcome x.4.is
    where
      same_then : (operated (op_of t) (m state t here)).image ≡ state.memory
      same_then = reads_leave state.memory normal here.host.cache clean t.phase t before

      clean_then : IsClean (operated (op_of t) (m state t here)).cache
      clean_then = reads_clean state.memory normal here.host.cache clean t.phase t before

      on_from : IsSpared x.1 new x.3 → x.1.memory ≡ state.memory → IsSpared state new notes
      on_from (inl short) same = inl (behind_of is_short x.2 x.3 notes x.6 short)
      on_from (inr kept) same = inr (kept ∙ same)

      by_next : LaterReads count new x.3 → (z : Turn) (n : Task) → turn state t here ≡ z → task_after z ≡ Some n
          → machine.task_behind (note_of z) (on state t here) ≡ Some (on state t here) → left state t here z ≡ x.1 → IsUpToStore n
          → IsSpared state new notes
      by_next later z n is after task left_is (inl before_n) =
          on_from
          (subst (λ (y : Machines). IsSpared y new x.3) left_is
          (later (left state t here z) n (next_at state t here z n (ap task_after is ∙ after) task) before_n clean_then (ap (λ (i : Image). map eight i) same_then ∙ normal ∙ sym same_then)
          (subst (λ (y : Machines). DoesOperations h count y x.3 new) (sym left_is) x.5)))
          (ap (λ (y : Machines). y.memory) (sym left_is) ∙ same_then)
      by_next later z n is after task left_is (inr first) =
          inl (
          behind_of is_short x.2 x.3 notes x.6
          (writes_end count (left state t here z) new x.3 n (next_at state t here z n (ap task_after is ∙ after) task) (first_behind n first)
          (subst (λ (y : Machines). DoesOperations h count y x.3 new) (sym left_is) x.5) done)
          )

      up_to : (z : Turn) (n : Task) → turn state t here ≡ z → task_after z ≡ Some n → IsUpToStore n
      up_to z n is after = up_to_next t n (unwrap_or (given_by (op_of t) (word state t here)) 0) before (ap task_after is ∙ after)

      by_turn : LaterReads count new x.3 → left state t here (turn state t here) ≡ x.1 → (z : Turn) → turn state t here ≡ z → IsSpared state new notes
      by_turn later left_is (Goes n) is = by_next later (Goes n) n is refl refl (ap (left state t here) (sym is) ∙ left_is) (up_to (Goes n) n is refl)
      by_turn later left_is (Marks n) is = by_next later (Marks n) n is refl refl (ap (left state t here) (sym is) ∙ left_is) (up_to (Marks n) n is refl)
      by_turn later left_is (Finds k n) is = by_next later (Finds k n) n is refl refl (ap (left state t here) (sym is) ∙ left_is) (up_to (Finds k n) n is refl)
      by_turn later left_is (Writes seq e n) is = by_next later (Writes seq e n) n is refl refl (ap (left state t here) (sym is) ∙ left_is) (up_to (Writes seq e n) n is refl)
      by_turn later left_is (Ends said) is =
          let mid_is : left state t here (Ends said) ≡ x.1 = ap (left state t here) (sym is) ∙ left_is in
          let idle : busy_at h x.1 ≡ false = ap (busy_at h) (sym mid_is) ∙ idle_left state t here (Ends said) refl in
          inr (ap (λ (y : Machines). y.memory) ((none_behind count x.1 new x.3 idle x.5).1 ∙ sym mid_is) ∙ same_then)

      by_outcome : LaterReads count new x.3 → (o : Outcome) → operation o h state ≡ Some (record { notes = x.2; left = x.1 }) → IsSpared state new notes
      by_outcome later Passes is = by_turn later (passed state t here x.2 x.1 is).1 (turn state t here) refl
      by_outcome later (Fails through) is =
          let c = cut_of state t here through x.2 x.1 is in
          inr (
          ap (λ (y : Machines). y.memory) ((none_behind count x.1 new x.3 (cut_idle state t here through x.2 x.1 c) x.5).1 ∙ c.mid_is)
          ∙ fails_same through (m state t here) clean c.failure t.phase t before c.fails
          )

-- A run of a command, of a host whose cache has nothing to send and which keeps a history or nothing.

abbrev pub AreClean : Machines → Type 0
AreClean state = (h : ℕ) (host : HostState) → slice_get state.hosts h ≡ Some host → IsClean host.cache × IsKept host.kept

abbrev pub IsSparedBy : Session → Session → List Note → Type 0
IsSparedBy old new notes = (last_passes is_short notes ≡ true) ⊎ (new.machines.memory ≡ old.machines.memory)

module _ (files : Files) (name : List ℕ) (what : Ask) (old new : Session) (notes : List Note) (clean : AreClean old.machines) (normal : map eight old.machines.memory ≡ old.machines.memory) where
  begun_spares : Continues Completes files name what old notes new → IsSparedBy old new notes
  unfolding refusal_of
  begun_spares x =
      by_host (call.Begins name x.begun.cmd) old.machines x.mid.machines x.first
      (subst (λ (o : Option Refusal). ByRefusal name o x.first old.machines x.mid.machines
      (Acts (call.Begins name x.begun.cmd) old.machines x.first x.mid.machines)) (begun_free files name what old x.mid x.first x.begun)
      x.begun.does) begun
    where
      joined : (last_passes is_short x.rest ≡ true) ⊎ (new.machines.memory ≡ old.machines.memory) → IsSparedBy old new notes
      joined (inl short) = inl (behind_of is_short x.first x.rest notes x.joined short)
      joined (inr kept) = inr kept

      begun : (h : ℕ) (host : HostState) → number_of name old.machines ≡ Some h → slice_get old.machines.hosts h ≡ Some host
          → ActsAt (call.Begins name x.begun.cmd) h host old.machines x.first x.mid.machines → IsSparedBy old new notes
      begun h host number is acts =
          let task : TaskState = task_begun host.kept x.begun.cmd host.uuid in
          let mid : Machines = with_task h (Some task) old.machines in
          let numbers : x.host ≡ h =
          same_Some x.host h (sym x.number ∙ ap (number_of name) acts.1 ∙ place_same (has_name name) (λ z. record z { task = Some task }) (λ z. refl) h 0 old.machines.hosts ∙ number) in
          let does : DoesOperations h x.does.count mid x.rest new.machines =
          subst (λ (k : ℕ). DoesOperations k x.does.count mid x.rest new.machines) numbers
          (subst (λ (y : Machines). DoesOperations x.host x.does.count y x.rest new.machines) acts.1 x.does.does) in
          let done : busy_at h new.machines ≡ false = subst (λ (k : ℕ). busy_at k new.machines ≡ false) numbers x.does.done in
          let here : At h mid (mounted host.kept x.begun.cmd host.uuid (length old.machines.memory)) = record {
            host = record host { task = Some task };
            host_is = changed_at_member h (λ z. record z { task = Some task }) old.machines.hosts host is;
            s = task;
            s_is = refl;
            standing = record { joined = (clean h host is).1; stands = starts };
          } in
          joined (reads_end h x.does.count mid new.machines x.rest (mounted host.kept x.begun.cmd host.uuid (length old.machines.memory)) here tt (clean h host is).0 normal does done)

  pub run_spares : DoesEvent files (event.Run name what) old notes new → IsSparedBy old new notes
  run_spares (inl x) = begun_spares x
  run_spares (inr (inl x)) = inr (ap (λ (z : Session). z.machines.memory) x.same)
  run_spares (inr (inr x)) =
      by_refusal {P = IsSparedBy old new notes} (call.Refuses name x.cause) old.machines new.machines notes x.does
      (λ cause noted same. inr (ap (λ (z : Machines). z.memory) same)) (λ free acts. inr (ap (λ (z : Machines). z.memory) acts.1))

-- A run of the one host that is declared.

abbrev no_events : List Event
no_events = []

take_none : (k : ℕ) → take k no_events ≡ no_events
take_none zero = refl
take_none (suc k) = refl

abbrev pub one_run : List ℕ → List ℕ → Ask → List Event
one_run name me what = event.Host name me ∷ event.Run name what ∷ []

module _ (files : Files) (start : Image) (name me : List ℕ) where
  none_clean : AreClean (unused start)
  none_clean h host is = absurd cc

  one_clean : AreClean (record (unused start) { hosts = record { name = name; uuid = me; cache = map_of_lines.empty; task = None; kept = None } ∷ [] })
  one_clean zero host is = subst (λ (z : HostState). IsClean z.cache × IsKept z.kept) (same_Some _ host is) (clean_empty, tt)
  one_clean (suc h) host is = absurd cc

  pub declared : (notes : List Note) (new : Machines) → Does (call.Declares name me) (unused start) notes new → (new.memory ≡ start) × AreClean new
  declared notes new does =
      by_refusal {P = (new.memory ≡ start) × AreClean new} (call.Declares name me) (unused start) new notes does
      (λ cause noted same. (ap (λ (z : Machines). z.memory) same, subst AreClean (sym same) none_clean))
      (λ free acts. (ap (λ (z : Machines). z.memory) acts.1, subst AreClean (sym acts.1) one_clean))

  module _ (normal : map eight start ≡ start) (what : Ask) (journal : List Note) (last : Session) where
    pub one_spares : (count : ℕ) → Follows files (take count (one_run name me what)) (first_session start) journal last → (last_passes is_short journal ≡ true) ⊎ (last.machines.memory ≡ start)
    one_spares zero f = inr (ap (λ (z : Session). z.machines.memory) f.1)
    one_spares (suc zero) f = inr (ap (λ (z : Session). z.machines.memory) f.4.1 ∙ (declared f.1 f.0.machines f.3.0).0)
    one_spares (suc (suc k)) f = by_run (run_spares files name what f.0 f.4.0 f.4.1 host_is.1 (ap (λ (i : Image). map eight i) host_is.0 ∙ normal ∙ sym host_is.0) f.4.3)
      where
        host_is : (f.0.machines.memory ≡ start) × AreClean f.0.machines
        host_is = declared f.1 f.0.machines f.3.0

        behind : (f.4.2 ≡ []) × (last ≡ f.4.0)
        behind = subst (λ (es : List Event). Follows files es f.4.0 f.4.2 last) (take_none k) f.4.4

        by_run : IsSparedBy f.0 f.4.0 f.4.1 → (last_passes is_short journal ≡ true) ⊎ (last.machines.memory ≡ start)
        by_run (inl short) =
            inl (behind_of is_short f.1 f.2 journal f.5 (ap (last_passes is_short) (f.4.5 ∙ ap (λ (ns : List Note). f.4.1 ++ ns) behind.0 ∙ append-nil f.4.1) ∙ short))
        by_run (inr kept) = inr (ap (λ (z : Session). z.machines.memory) behind.1 ∙ kept ∙ host_is.0)
