-- What a turn changes of what the journal has of its host, and of the host's run.
use Rattle.std.proofs.Common.{◌≡◌, ◌≢◌, ℕ, ◌+◌, List, Option, Some, refl, ap, sym, ◌∙◌}
use Rattle.std.specs.Prelude.{slice_get}
use Rattle.fam_base.specs.declared.cmd.Cmd.{Cmd}
use Rattle.fam_commands.specs.Kept.{IsKept, Kept}
use Rattle.fam_commands.specs.Stands.{StandsFor, note_of, task_after, turn_given, with_given}
use Rattle.fam_format.specs.Reading.{Lines}
use Rattle.fam_machine.specs.Operations.{given_by}
use Rattle.fam_commands.specs.Stands as stands
use Rattle.fam_commands.specs.Task.{Task, op_of}
use Rattle.fam_commands.specs.Turns.{Turn, Goes, Marks, Finds, Writes, Ends}
use Rattle.fam_commands.proofs.Steps.Standing.{standing_tied}
use Rattle.fam_protocol.specs.Steps.{run_after, settled_count}
use Rattle.fam_journal.specs.Kept.{IfRuns, TaskTold, protocol_run, run_with, settled_of}
use Rattle.fam_journal.specs.Machines.{notes_of}
use Rattle.fam_journal.specs.Past as past
use Rattle.fam_journal.specs.Past.{FewLines, State, Bad, Sound, HostPast, Past, past_behind, settled_length}
use Rattle.fam_journal.proofs.Calls.Members.{changed_at_member, changed_other}

-- what the journal has of a host after a turn of its task
abbrev pub told_after : Turn → ℕ → HostPast → HostPast
told_after (Goes next) n told = told
told_after (Marks next) n told = record told { floor = Some n }
told_after (Finds count next) n told = told
told_after (Writes seq e next) n told = record told { wrote = Some (record { seq = seq; entry = e }) }
told_after (Ends given) n told = told

pub told_name : (turn : Turn) (n : ℕ) (told : HostPast) → (told_after turn n told).name ≡ told.name
told_name (Goes next) n told = refl
told_name (Marks next) n told = refl
told_name (Finds count next) n told = refl
told_name (Writes seq e next) n told = refl
told_name (Ends given) n told = refl

pub told_uuid : (turn : Turn) (n : ℕ) (told : HostPast) → (told_after turn n told).uuid ≡ told.uuid
told_uuid (Goes next) n told = refl
told_uuid (Marks next) n told = refl
told_uuid (Finds count next) n told = refl
told_uuid (Writes seq e next) n told = refl
told_uuid (Ends given) n told = refl

module _ (x : Past) (h : ℕ) where
  pub told_here : (turn : Turn) (told : HostPast) → slice_get x.hosts h ≡ Some told → slice_get (past_behind x (notes_of h (note_of turn))).hosts h
      ≡ Some (told_after turn (settled_length x.state) told)
  told_here (Goes next) told is = is
  told_here (Marks next) told is = changed_at_member h (λ (y : HostPast). record y { floor = Some (settled_length x.state) }) x.hosts told is
  told_here (Finds n next) told is = is
  told_here (Writes seq e next) told is = changed_at_member h (λ (y : HostPast). record y { wrote = Some (record { seq = seq; entry = e }) }) x.hosts told is
  told_here (Ends given) told is = is

  pub told_other : (turn : Turn) (k : ℕ) → k ≢ h → slice_get (past_behind x (notes_of h (note_of turn))).hosts k ≡ slice_get x.hosts k
  told_other (Goes next) k ne = refl
  told_other (Marks next) k ne = changed_other h k (λ (y : HostPast). record y { floor = Some (settled_length x.state) }) x.hosts ne
  told_other (Finds n next) k ne = refl
  told_other (Writes seq e next) k ne = changed_other h k (λ (y : HostPast). record y { wrote = Some (record { seq = seq; entry = e }) }) x.hosts ne
  told_other (Ends given) k ne = refl

-- the run goes on as the protocol has it
pub run_same : (turn : Turn) (n : ℕ) (t : Task) (told : HostPast) → run_with (task_after turn) (Some (told_after turn n told)) ≡ run_after turn n (protocol_run t told)
run_same (Goes next) n t told = refl
run_same (Marks next) n t told = refl
run_same (Finds count next) n t told = refl
run_same (Writes seq e next) n t told = refl
run_same (Ends given) n t told = refl

-- how much is settled
pub settled_same : (s : State) (now : Lines) → settled_count (settled_of s now) ≡ settled_length s
settled_same (Sound p history pending) now = refl
settled_same (Bad origin (FewLines lines) gate) now = refl
settled_same (Bad origin (past.NoSuperblock fault) gate) now = refl
settled_same (Bad origin (past.BadHeader fault) gate) now = refl
settled_same (Bad origin (past.BadSlot i reason) gate) now = refl

module _ (kept : Option Kept) (cmd : Cmd) (me : List ℕ) (lines : ℕ) (t : Task) (words : List ℕ) (made word : ℕ) (joined : IsKept kept)
    (standing : StandsFor kept cmd me lines t words made) (turn : Turn) (is : turn_given t word ≡ turn) where
  -- the task that goes on stands for the command too
  pub next_stands : (next : Task) → task_after turn ≡ Some next → StandsFor kept cmd me lines next (with_given words (given_by (op_of t) word)) (made + 1)
  next_stands next goes = stands.goes word standing (ap task_after is ∙ goes)

  pub next_command : (next : Task) → task_after turn ≡ Some next → next.cmd ≡ t.cmd
  next_command next goes =
      (standing_tied kept cmd me lines next (with_given words (given_by (op_of t) word)) (made + 1) joined (next_stands next goes)).cmd_is
      ∙ sym (standing_tied kept cmd me lines t words made joined standing).cmd_is

  -- the journal has of the task what it should
  pub task_told : (told : HostPast) → TaskTold t told → (x : Turn) (n : ℕ) → turn ≡ x → IfRuns (task_after x) (told_after x n told)
  task_told told was (Goes next) n e = record { cmd = was.cmd ∙ ap Some (sym (next_command next (ap task_after e))) }
  task_told told was (Marks next) n e = record { cmd = was.cmd ∙ ap Some (sym (next_command next (ap task_after e))) }
  task_told told was (Finds count next) n e = record { cmd = was.cmd ∙ ap Some (sym (next_command next (ap task_after e))) }
  task_told told was (Writes seq entry next) n e = record { cmd = was.cmd ∙ ap Some (sym (next_command next (ap task_after e))) }
  task_told told was (Ends given) n e = tt
