-- One operation of a host's task that the media served: the machine's row of it, and the task behind it.
use Rattle.std.proofs.Common.{◌≡◌, ℕ, ◌+◌, length, Option, Some, None, refl, ap, sym, ◌∙◌, subst}
use Rattle.std.specs.Prelude.{slice_get, unwrap_or}
use Rattle.fam_machine.specs.Operations.{Machine, given, given_by, operated}
use Rattle.fam_commands.specs.Keeping.{kept_after}
use Rattle.fam_commands.specs.Kept.{IsKept, Kept}
use Rattle.fam_commands.specs.Stands.{StandsFor, note_of, task_after, turn_given, with_given}
use Rattle.fam_commands.specs.Table as row
use Rattle.fam_commands.specs.Task.{Task, op_of}
use Rattle.fam_commands.specs.Turns.{Turn, Goes, Marks, Finds, Writes, Ends}
use Rattle.fam_commands.proofs.Steps.Standing.{next_note, next_operation}
use Rattle.fam_commands.proofs.ReadTold.{kept_joins, kept_told}
use Rattle.fam_machine.proofs.OneOperation.{same_given}
use Rattle.fam_journal.specs.Machines as machine
use Rattle.fam_journal.specs.Machines.{Done, HostState, Machines, Passes, TaskState, host_keeps, machine_of, next_op, notes_of, operation, served, task_on, with_parts}
use Rattle.fam_journal.specs.View.{StandsAs, TaskStands}
use Rattle.fam_journal.proofs.Settled.TaskTurns.{next_stands}

module _ (state : Machines) (h : ℕ) (host : HostState) (host_is : slice_get state.hosts h ≡ Some host) (s : TaskState) (s_is : host.task ≡ Some s)
    (lines : ℕ) (lines_are : length state.memory ≡ lines) (t : Task) (standing : StandsAs lines s t) (m : Machine)
    (machine_is : machine_of state host ≡ m) (turn : Turn) (is : turn_given t (unwrap_or (given (op_of t) m) 0) ≡ turn) where
  -- the host's task behind it
  abbrev pub task_next : Turn → Option TaskState
  task_next z = machine.task_behind (note_of z) (task_on s (given (op_of t) m))

  op_is : next_op s (length state.memory) ≡ Some (op_of t)
  op_is = ap (next_op s) lines_are ∙ next_operation s.kept s.cmd s.me lines t s.words s.made standing.joined standing.stands

  note_is : machine.next_note s (length state.memory) (given (op_of t) m) ≡ Some (note_of turn)
  note_is =
      ap (λ (n : ℕ). machine.next_note s n (given (op_of t) m)) lines_are
      ∙ ap (machine.next_note s lines) (sym (same_given (op_of t) m))
      ∙ next_note s.kept s.cmd s.me lines t s.words s.made standing.joined standing.stands (unwrap_or (given (op_of t) m) 0)
      ∙ ap (λ (z : Turn). Some (note_of z)) is

  -- what the host keeps behind it
  abbrev pub kept_next : Turn → Option Kept
  kept_next z = kept_after z t host.kept

  keeps_is : host_keeps (note_of turn) (task_on s (given (op_of t) m)) (length state.memory) host.kept ≡ kept_next turn
  keeps_is =
      ap (λ (n : ℕ). host_keeps (note_of turn) (task_on s (given (op_of t) m)) n host.kept) lines_are
      ∙ ap (λ (o : Option ℕ). host_keeps (note_of turn) (task_on s o) lines host.kept) (sym (same_given (op_of t) m))
      ∙ ap (λ (z : Turn). host_keeps (note_of z) (task_on s (given_by (op_of t) (unwrap_or (given (op_of t) m) 0))) lines host.kept) (sym is)
      ∙ kept_told s.kept s.cmd s.me lines t s.words s.made standing.joined standing.stands (unwrap_or (given (op_of t) m) 0) host.kept
      ∙ ap kept_next is

  pub kept_joined : IsKept host.kept → IsKept (kept_next turn)
  kept_joined was = subst (λ (z : Turn). IsKept (kept_next z)) is (kept_joins s.kept s.cmd s.me lines t s.words s.made standing.joined standing.stands (unwrap_or (given (op_of t) m) 0) host.kept was)

  -- what the machine does, by the machine of the host and by what comes with the operation
  abbrev served_with : (z : Machine) (o : Option row.RowNote) → Option Done
  served_with z None = None
  served_with z (Some note) = Some
      (record {
        notes = notes_of h note;
        left = with_parts h (operated (op_of t) z) (machine.task_behind note (task_on s (given (op_of t) z)))
            (host_keeps note (task_on s (given (op_of t) z)) (length state.memory) host.kept) state;
      })

  served_is : (o : Option row.RowNote) → served h state host s (op_of t) o ≡ served_with (machine_of state host) o
  served_is None = refl
  served_is (Some note) = refl

  -- the row
  pub row_served : operation Passes h state ≡ Some (record { notes = notes_of h (note_of turn); left = with_parts h (operated (op_of t) m) (task_next turn) (kept_next turn) state })
  unfolding operation
  row_served =
      ap (machine.host_done Passes h state) host_is
      ∙ ap (machine.task_done Passes h state host) s_is
      ∙ ap (machine.op_done Passes h state host s) op_is
      ∙ served_is (machine.next_note s (length state.memory) (given (op_of t) (machine_of state host)))
      ∙ ap (λ (z : Machine). served_with z (machine.next_note s (length state.memory) (given (op_of t) z))) machine_is
      ∙ ap (served_with m) note_is
      ∙ ap (λ (k : Option Kept). Some (record { notes = notes_of h (note_of turn); left = with_parts h (operated (op_of t) m) (task_next turn) k state })) keeps_is

  -- the task that goes on stands where the host's state of it says
  next : (n : Task) → task_after turn ≡ Some n → StandsAs lines (task_on s (given (op_of t) m)) n
  next n goes = record {
    joined = standing.joined;
    stands = subst (λ (o : Option ℕ). StandsFor s.kept s.cmd s.me lines n (with_given s.words o) (s.made + 1)) (same_given (op_of t) m)
        (next_stands s.kept s.cmd s.me lines t s.words s.made (unwrap_or (given (op_of t) m) 0) standing.joined standing.stands turn is n goes);
  }

  stands_by : (z : Turn) → turn ≡ z → TaskStands lines (task_next z) (task_after z)
  stands_by (Goes n) e = next n (ap task_after e)
  stands_by (Marks n) e = next n (ap task_after e)
  stands_by (Finds count n) e = next n (ap task_after e)
  stands_by (Writes seq entry n) e = next n (ap task_after e)
  stands_by (Ends given) e = tt

  pub task_stands : TaskStands lines (task_next turn) (task_after turn)
  task_stands = stands_by turn refl
