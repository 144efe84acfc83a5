-- An operation that the media served, as a world's own task has it, is the row of a step.
use Rattle.std.proofs.Common.{◌≡◌, ℕ, Bool, true, List, length, Option, Some, None, refl, ap, sym, ◌∙◌, subst}
use Rattle.std.specs.Prelude.{slice_get, unwrap_or, is_some, not}
use Rattle.fam_machine.specs.Caches.{Cache}
use Rattle.fam_machine.specs.Operations.{Machine, given, operated}
use Rattle.fam_commands.specs.Keeping.{kept_after}
use Rattle.fam_commands.specs.Kept.{IsKept, Kept}
use Rattle.fam_commands.specs.Stands.{note_of, task_after, turn_given}
use Rattle.fam_commands.specs.Task.{Task, op_of}
use Rattle.fam_commands.specs.Turns.{Turn}
use Rattle.fam_journal.specs.declared.refusal.Refusal.{Refusal}
use Rattle.fam_journal.specs.declared.refusal.Refusal.TheVariants as why
use Rattle.fam_journal.specs.Calls as call
use Rattle.fam_journal.specs.Calls.{ActsAt, Acts, AtNumber, ByRefusal, OnHost, busy_at, is_busy_host, number_of, on_host, refusal_of, when}
use Rattle.fam_journal.specs.CallRecords.{IsStepped}
use Rattle.fam_journal.specs.Machines as machine
use Rattle.fam_journal.specs.Machines.{HostState, Machines, Passes, TaskState, machine_of, notes_of, task_on, with_parts}
use Rattle.fam_journal.specs.Notes.{Note}
use Rattle.fam_journal.specs.View.{HostStands, HostView, HostStandsAt, StandsAs, TaskStands, WorldStands, WorldView}
use Rattle.fam_journal.specs.ByWorld.{number_in}
use Rattle.fam_journal.proofs.Calls.Hosts.{stands_changed}
use Rattle.fam_journal.proofs.Calls.Shown.{number_shown}
use Rattle.fam_journal.proofs.Calls.Stepped.{find_host, find_task}
use Rattle.fam_journal.proofs.Calls.TaskRows.{kept_joined, row_served, task_stands}

module _ (state : Machines) (world : WorldView) (stands : WorldStands (length state.memory) state world) (name : List ℕ) (h : ℕ)
    (number : number_in name world ≡ Some h) (view : HostView) (view_is : slice_get world.hosts h ≡ Some view) (t : Task)
    (runs : view.task ≡ Some t) where
  abbrev lines : ℕ
  lines = length state.memory

  abbrev m : Machine
  m = record { image = state.memory; cache = view.cache }

  abbrev after : Machine
  after = operated (op_of t) m

  abbrev word : ℕ
  word = unwrap_or (given (op_of t) m) 0

  abbrev turn : Turn
  turn = turn_given t word

  module _ (host : HostState) (host_is : slice_get state.hosts h ≡ Some host) (mine : HostStands lines host view) (s : TaskState) (s_is : host.task ≡ Some s) (standing : StandsAs lines s t) where
    abbrev notes : List Note
    notes = notes_of h (note_of turn)

    abbrev left : Machines
    left = with_parts h after (machine.task_behind (note_of turn) (task_on s (given (op_of t) m))) (kept_after turn t host.kept) state

    machine_is : machine_of state host ≡ m
    machine_is = ap (λ (c : Cache). record { image = state.memory; cache = c }) mine.cache

    number_is : number_of name state ≡ Some h
    number_is = number_shown lines state world name stands ∙ number

    busy : busy_at h state ≡ true
    busy = ap is_busy_host host_is ∙ ap is_some s_is

    free : refusal_of (call.Steps name) state ≡ None
    unfolding refusal_of
    free = ap (λ (o : Option ℕ). on_host o (λ h. call.idle_refusal h state)) number_is ∙ ap (λ (b : Bool). when (not b) why.Idle) busy

    acts : Acts (call.Steps name) state notes left
    acts =
        subst (λ (o : Option ℕ). AtNumber o state (λ h host. ActsAt (call.Steps name) h host state notes left)) (sym number_is)
        (subst (λ (o : Option HostState). OnHost o (λ host. ActsAt (call.Steps name) h host state notes left))
        (sym host_is) record { outcome = Passes; is = row_served state h host host_is s s_is lines refl t standing m machine_is turn refl })

    joined : IsKept (kept_after turn t view.kept)
    joined =
        subst (λ (k : Option Kept). IsKept (kept_after turn t k)) mine.kept
        (kept_joined state h host host_is s s_is lines refl t standing m machine_is turn refl (subst IsKept (sym mine.kept) mine.joined))

    stepped : IsStepped name h view t state world
    stepped = record {
      left = left;
      row = subst (λ (o : Option Refusal). ByRefusal name o notes state left (Acts (call.Steps name) state notes left)) (sym free) acts;
      memory = refl;
      stands = stands_changed h view world.hosts view_is
          (λ v. record v { cache = after.cache; task = task_after turn; kept = kept_after turn t v.kept }) lines state.hosts host host_is
          (λ z. record z {
            cache = after.cache;
            task = machine.task_behind (note_of turn) (task_on s (given (op_of t) m));
            kept =
                kept_after turn t host.kept;
          })
          record {
            name = mine.name;
            uuid = mine.uuid;
            cache = refl;
            task =
                task_stands state h host host_is s s_is lines refl t standing m machine_is turn refl;
            kept = ap (kept_after turn t) mine.kept;
            joined =
                joined;
          } stands;
    }

  pub own_step : IsStepped name h view t state world
  own_step =
      let host = find_host lines view (slice_get state.hosts h) (subst (λ (o : Option HostView). HostStandsAt lines (slice_get state.hosts h) o) view_is (stands h)) in
      let task = find_task lines t host.0.task (subst (λ (o : Option Task). TaskStands lines host.0.task o) runs host.2.task) in
      stepped host.0 host.1 host.2 task.0 task.1 task.2
