-- A task that is on its way can be run to its answer, while the media serves it.
use Prim.Native.Nat.{suc}
use Rattle.std.proofs.Common.{◌≡◌, ℕ, ◌+◌, inr, true, false, List, [], ◌++◌, length, Option, Some, None, refl, ap, sym, ◌∙◌, subst, arith}
use Rattle.std.specs.Prelude.{slice_get, is_some, unwrap_or}
use Rattle.std.proofs.lemmas.List.{append-nil}
use Rattle.fam_base.specs.Image.{Image}
use Rattle.fam_machine.specs.Operations.{Machine, given, operated, given_by}
use Rattle.fam_commands.specs.Kept.{Kept}
use Rattle.fam_commands.specs.Stands.{StandsFor, goes, note_of, starts, task_after, turn_given, with_given}
use Rattle.fam_commands.specs.Task.{Task, op_of}
use Rattle.fam_commands.specs.Turns.{Turn, Goes, Marks, Finds, Writes, Ends}
use Rattle.fam_commands.proofs.Steps.Standing.{next_note, next_operation}
use Rattle.fam_machine.proofs.OneOperation.{operated_length, same_given}
use Rattle.fam_journal.specs.Calls.{busy_at, is_busy_host}
use Rattle.fam_journal.specs.Complete.{CanEnd}
use Rattle.fam_journal.specs.Ends.{IsFaultless}
use Rattle.fam_journal.specs.View.{HostView, HostStandsAt, StandsAs, TaskStands}
use Rattle.fam_journal.specs.Kept.{Reached}
use Rattle.fam_journal.specs.Machines as machine
use Rattle.fam_journal.specs.Machines.{HostState, Machines, Operation, Passes, TaskState, host_keeps, machine_of, notes_of, operation, served, task_on, with_parts}
use Rattle.fam_journal.specs.Notes.{Note}
use Rattle.fam_journal.proofs.Runs.Halting.{Halts, begin_halts, halts}
use Rattle.fam_journal.proofs.Calls.Members.{changed_at_member}
use Rattle.fam_journal.proofs.Runs.Unique.{faults_both}

-- wherever a command stands it comes to an answer
stands_halt : (kept : Option Kept) (cmd : Rattle.fam_base.specs.declared.cmd.Cmd.Cmd) (me : List ℕ) (lines : ℕ) (t : Task) (words : List ℕ) (made : ℕ)
    → StandsFor kept cmd me lines t words made → Halts t
stands_halt kept cmd me lines t words made starts = begin_halts kept cmd me lines
stands_halt kept cmd me lines next _ _ (goes {t = t} {words = words} {made = made} word before is) = on (stands_halt kept cmd me lines t words made before)
  where
    on : Halts t → Halts next
    on (halts each) = each (unwrap_or (given_by (op_of t) word) 0) next is

module _ (h : ℕ) where
  -- where a host's task stands
  record Stands (state : Machines) (t : Task) : Type 0 where
    host : HostState
    host_is : slice_get state.hosts h ≡ Some host
    s : TaskState
    s_is : host.task ≡ Some s
    standing : StandsAs (length state.memory) s t

  module _ (state : Machines) (t : Task) (at : Stands state t) where
    abbrev m : Machine
    m = machine_of state at.host

    abbrev word : ℕ
    word = unwrap_or (given (op_of t) m) 0

    abbrev turn : Turn
    turn = turn_given t word

    abbrev keeps : Turn → Option Kept
    keeps z = host_keeps (note_of z) (task_on at.s (given (op_of t) m)) (length state.memory) at.host.kept

    abbrev left : Turn → Machines
    left z = with_parts h (operated (op_of t) m) (machine.task_behind (note_of z) (task_on at.s (given (op_of t) m))) (keeps z) state

    note_is : machine.next_note at.s (length state.memory) (given (op_of t) m) ≡ Some (note_of turn)
    note_is =
        ap (machine.next_note at.s (length state.memory)) (sym (same_given (op_of t) m))
        ∙ next_note at.s.kept at.s.cmd at.s.me (length state.memory) t at.s.words at.s.made at.standing.joined at.standing.stands word

    row : operation Passes h state ≡ Some (record { notes = notes_of h (note_of turn); left = left turn })
    unfolding operation
    row =
        ap (machine.host_done Passes h state) at.host_is
        ∙ ap (machine.task_done Passes h state at.host) at.s_is
        ∙ ap (machine.op_done Passes h state at.host at.s) (next_operation at.s.kept at.s.cmd at.s.me (length state.memory) t at.s.words at.s.made at.standing.joined at.standing.stands)
        ∙ ap (served h state at.host at.s (op_of t)) note_is

    busy : busy_at h state ≡ true
    busy = ap is_busy_host at.host_is ∙ ap (λ (o : Option TaskState). is_some o) at.s_is

    does : Operation h state (notes_of h (note_of turn)) (left turn)
    does = record { outcome = Passes; is = row }

    host_left : (z : Turn) → slice_get (left z).hosts h
        ≡ Some (record at.host {
          cache = (operated (op_of t) m).cache;
          task = machine.task_behind (note_of z) (task_on at.s (given (op_of t) m));
          kept = keeps z;
        })
    host_left z = changed_at_member h
        (λ y. record y {
          cache = (operated (op_of t) m).cache;
          task = machine.task_behind (note_of z) (task_on at.s (given (op_of t) m));
          kept =
              keeps z;
        }) state.hosts at.host at.host_is

    -- the task that goes on stands where the state's does
    stands_on : (n : Task) → task_after turn ≡ Some n → (z : Turn) → machine.task_behind (note_of z) (task_on at.s (given (op_of t) m)) ≡ Some (task_on at.s (given (op_of t) m)) → Stands (left z) n
    stands_on n next z task = record {
      host = _;
      host_is = host_left z;
      s = task_on at.s (given (op_of t) m);
      s_is = task;
      standing = record {
        joined = at.standing.joined;
        stands = subst (λ (k : ℕ). StandsFor at.s.kept at.s.cmd at.s.me k n (with_given at.s.words (given (op_of t) m)) (at.s.made + 1)) (sym (operated_length (op_of t) m))
            (subst (λ (o : Option ℕ). StandsFor at.s.kept at.s.cmd at.s.me (length state.memory) n (with_given at.s.words o) (at.s.made + 1))
            (same_given (op_of t) m) (goes word at.standing.stands next));
      };
    }

    -- the answer, and nothing behind it
    over : (z : Turn) → turn ≡ z → busy_at h (left z) ≡ false → IsFaultless (notes_of h (note_of z)) → CanEnd h state
    over z is done clean = record {
      notes = notes_of h (note_of z);
      left = left z;
      completes = record {
        count = 1;
        does = inr (
          busy,
          left z,
          notes_of h (note_of z),
          [],
          subst (λ (y : Turn). Operation h state (notes_of h (note_of y)) (left y)) is does,
          (refl, refl),
          sym (append-nil (notes_of h (note_of z))),
        );
        done = done;
      };
      clean = clean;
    }

    -- one operation, and then the rest
    more : (z : Turn) → turn ≡ z → IsFaultless (notes_of h (note_of z)) → CanEnd h (left z) → CanEnd h state
    more z is clean rest = record {
      notes = notes_of h (note_of z) ++ rest.notes;
      left = rest.left;
      completes = record {
        count = suc rest.completes.count;
        does = inr (busy, left z, notes_of h (note_of z), rest.notes, subst (λ (y : Turn). Operation h state (notes_of h (note_of y)) (left y)) is does, rest.completes.does, refl);
        done = rest.completes.done;
      };
      clean = let first = clean in let later = rest.clean in let both = faults_both (notes_of h (note_of z)) rest.notes in omega (arith, first, later, both);
    }

    by_turn : ((n : Task) → task_after turn ≡ Some n → (state : Machines) → Stands state n → CanEnd h state) → (z : Turn) → turn ≡ z → CanEnd h state
    by_turn later (Goes n) is = more (Goes n) is refl (later n (ap task_after is) (left (Goes n)) (stands_on n (ap task_after is) (Goes n) refl))
    by_turn later (Marks n) is = more (Marks n) is refl (later n (ap task_after is) (left (Marks n)) (stands_on n (ap task_after is) (Marks n) refl))
    by_turn later (Finds k n) is = more (Finds k n) is refl (later n (ap task_after is) (left (Finds k n)) (stands_on n (ap task_after is) (Finds k n) refl))
    by_turn later (Writes seq e n) is = more (Writes seq e n) is refl (later n (ap task_after is) (left (Writes seq e n)) (stands_on n (ap task_after is) (Writes seq e n) refl))
    by_turn later (Ends given) is = over (Ends given) is (ap is_busy_host (host_left (Ends given))) refl

  task_ends : (t : Task) → Halts t → (state : Machines) → Stands state t → CanEnd h state
  task_ends t (halts each) state at =
      by_turn state t at (λ n next later stands. task_ends n (each (unwrap_or (given_by (op_of t) (word state t at)) 0) n next) later stands) (turn state t at) refl

  -- of a state that is kept
  pub can_end : (start : Image) (state : Machines) (journal : List Note) → Reached start state journal → busy_at h state ≡ true → CanEnd h state
  can_end start state journal kept busy = by_host (slice_get state.hosts h) refl
    where
      by_view : (host : HostState) (s : TaskState) (o : Option HostView) → slice_get state.hosts h ≡ Some host → host.task ≡ Some s → HostStandsAt (length start) (Some host) o → CanEnd h state
      by_view host s None host_is s_is stands = absurd stands
      by_view host s (Some view) host_is s_is stands = by_task view.task (subst (λ (o : Option TaskState). TaskStands (length start) o view.task) s_is stands.task)
        where
          by_task : (o : Option Task) → TaskStands (length start) (Some s) o → CanEnd h state
          by_task None stands = absurd stands
          by_task (Some t) standing =
              task_ends t (stands_halt s.kept s.cmd s.me (length start) t s.words s.made standing.stands) state
              record { host = host; host_is = host_is; s = s; s_is = s_is; standing = subst (λ (n : ℕ). StandsAs n s t) (sym kept.held.lines) standing }

      by_state : (host : HostState) → slice_get state.hosts h ≡ Some host → (o : Option TaskState) → host.task ≡ o → CanEnd h state
      by_state host is None none = absurd (let idle = sym busy ∙ ap is_busy_host is ∙ ap (λ (o : Option TaskState). is_some o) none in cc)
      by_state host is (Some s) some = by_view host s (slice_get kept.views h) is some
          (subst (λ (o : Option HostState). HostStandsAt (length start) o (slice_get kept.views h)) is (kept.held.stands h))

      by_host : (o : Option HostState) → slice_get state.hosts h ≡ o → CanEnd h state
      by_host None none = absurd (let idle = sym busy ∙ ap is_busy_host none in cc)
      by_host (Some host) is = by_state host is host.task refl
