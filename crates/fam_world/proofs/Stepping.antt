-- An operation of a task at a declared host meets what the call promises.
use Rattle.std.proofs.Common.{◌≡◌, ◌⊎◌, ℕ, ◌<◌, ◌≤◌, inl, inr, Bool, false, List, [], ◌∷◌, ◌++◌, length, map, Option, Some, None, refl, ap, ap₂, sym, ◌∙◌, subst, arith}
use Rattle.std.specs.Prelude.{slice_get, is_some}
use Rattle.std.specs.List.{list_any}
use Rattle.fam_base.specs.declared.line.LineNo.{LineNo}
use Rattle.fam_base.specs.Image.{Image}
use Rattle.fam_media.specs.Causes.{Rose}
use Rattle.fam_media.specs.Outside.{IfModelled}
use Rattle.fam_media.specs.States.{media_change}
use Rattle.fam_machine.specs.Caches.{Cache, cell_at}
use Rattle.fam_machine.specs.Cuts.{HasFailed, IsMachine}
use Rattle.fam_machine.specs.OneLine.{IsHeld}
use Rattle.fam_machine.specs.Operations.{Breaking, Machine, failed, machine, operated}
use Rattle.fam_commands.specs.Keeping.{kept_after}
use Rattle.fam_commands.specs.Kept.{IsKept, Kept}
use Rattle.fam_commands.specs.Stands.{note_of, task_after, turn_given}
use Rattle.fam_commands.specs.Table as row
use Rattle.fam_commands.specs.Task.{Task, op_of}
use Rattle.fam_commands.specs.Turns.{Turn}
use Rattle.fam_commands.proofs.Steps.Standing.{next_operation}
use Rattle.fam_journal.specs.declared.refusal.Refusal.{Refusal}
use Rattle.fam_journal.specs.Calls as call
use Rattle.fam_journal.specs.CallRecords.{Answers, CallShape, CallKeeps, FitsMedia, HostFits, IsLate, MediaCall, StepCall, TaskFits, heading, own_turn, refusal_noted, stepped_world}
use Rattle.fam_journal.specs.Ends.{HasCounted, faults_of, is_answer_note}
use Rattle.fam_journal.specs.Shapes.{HostShape, HostShaped, IsShaped, Pairs, shapes_of}
use Rattle.fam_journal.specs.Machines as machines
use Rattle.fam_journal.specs.Machines.{Fails, HostState, Machines, Operation, TaskState, cut_task, machine_of, next_op, notes_of, operation, with_machine}
use Rattle.fam_journal.specs.Members.{changed_at}
use Rattle.fam_journal.specs.Names.{AreNamed}
use Rattle.fam_journal.specs.Notes.{Answered, MediaFault, Note}
use Rattle.fam_journal.specs.View.{HostStandsAt, HostView, StandsAs, TaskStands, WorldStands, WorldView}
use Rattle.fam_journal.specs.ByWorld.{number_in, refusal_in}
use Rattle.fam_journal.proofs.Calls.Hosts.{stands_changed}
use Rattle.fam_journal.proofs.Calls.Members.{changed_alike}
use Rattle.fam_journal.proofs.Calls.OwnSteps.{own_step}
use Rattle.fam_journal.proofs.Calls.Stepped.{find_task}
use Rattle.fam_journal.proofs.Shapes.Pairs.{pairs_at, pairs_changed}
use Rattle.fam_journal.proofs.Shapes.Operations.{shapes_both}
use Rattle.fam_journal.proofs.Shapes.Views.{step_shaped, world_shaped}
use Rattle.fam_journal.proofs.JournalLaws.{kept_on}
use Rattle.fam_world.specs.Steps.{HostChange, StepFailed, IsServed, StepsHost}
use Rattle.fam_world.proofs.Answering.{free_answers}
use Rattle.fam_world.proofs.Members.{fits_kept, length_kept, map_kept}
use Rattle.fam_world.proofs.Rows.{found, row_kept}
use Rattle.fam_world.proofs.StepShapes.{fault_shaped_step}

-- What notes of a task tell: no fault, no refusal, and its host.

pub no_faults : (h : ℕ) (n : row.RowNote) → faults_of (notes_of h n) ≡ 0
no_faults h row.Quiet = refl
no_faults h other = refl

no_refusal : (h : ℕ) (n : row.RowNote) → None ≡ refusal_noted (notes_of h n)
no_refusal h row.Quiet = refl
no_refusal h other = refl

pub own_named : (h n : ℕ) (note : row.RowNote) → h < n → AreNamed n (notes_of h note)
own_named h n row.Quiet below = tt
own_named h n other below = (below, tt)

-- nothing is answered
pub no_cause : (c : call.Call) (cause : Refusal) → None ≡ Some cause → IsLate c cause
no_cause c cause e = absurd cc

-- a step that is refused at once
pub step_refused : (name : List ℕ) (lines : ℕ) (old new : WorldView) (cause : Refusal) (told : Option Image) (faults : ℕ)
    → refusal_in (call.Steps name) old lines ≡ Some cause
    → MediaCall (call.Steps name) lines (Some cause) (media_change told faults told faults) old new
    → StepCall name lines (Some cause) false (media_change told faults told faults) old new
step_refused name lines old new cause told faults first x = record {
  answers = record { answers = x.answers; over_is = ap (λ (n : List Note). list_any is_answer_note n) (sym (x.answers.refused cause first).0) };
  keeps = x.keeps;
}

-- the media failed in the operation of a task
module _ (state : Machines) (h : ℕ) (host : HostState) (host_is : slice_get state.hosts h ≡ Some host) (s : TaskState) (s_is : host.task ≡ Some s)
    (t : Task) (standing : StandsAs (length state.memory) s t) where
  op_is : next_op s (length state.memory) ≡ Some (op_of t)
  op_is = next_operation s.kept s.cmd s.me (length state.memory) t s.words s.made standing.joined standing.stands

  pub row_cut : (through : Breaking) (line : LineNo) (left : Machine) → failed through (op_of t) (machine_of state host) ≡ Some (record { line = line; left = left })
      → operation (Fails through) h state ≡ Some (record { notes = Answered h (MediaFault line.0) ∷ []; left = with_machine h left None state })
  unfolding operation
  row_cut through line left fails =
      ap (machines.host_done (Fails through) h state) host_is
      ∙ ap (machines.task_done (Fails through) h state host) s_is
      ∙ ap (machines.op_done (Fails through) h state host s) op_is
      ∙ ap (cut_task h state) fails

module _ (name : List ℕ) (at lines : ℕ) (old : WorldView) (view : HostView) (t : Task) (number : number_in name old ≡ Some at)
    (free : refusal_in (call.Steps name) old lines ≡ None) (within : at < length old.hosts) (view_is : slice_get old.hosts at ≡ Some view)
    (runs : view.task ≡ Some t) where
  abbrev c : call.Call
  c = call.Steps name

  module _ (new : WorldView) (next : HostView) (told now : Option Image) (faults faults_now : ℕ)
      (modelled : IfModelled told (λ image. length image ≡ lines)) (hosts : new.hosts ≡ changed_at at (λ v. next) old.hosts) where
    abbrev a : HostChange
    a = record {
      old = view;
      new = next;
      before = old.journal;
      after = new.journal;
      lines = lines;
      media =
          record { old = record { image = told; faults = faults }; new = record { image = now; faults = faults_now } };
    }

    count_is : length new.hosts ≡ length old.hosts
    count_is = ap (λ (vs : List HostView). length vs) hosts ∙ length_kept (λ v. next) at old.hosts

    headings : heading next ≡ heading view → map heading new.hosts ≡ map heading old.hosts
    headings same =
        ap (λ (vs : List HostView). map heading vs) (hosts ∙ changed_alike at (λ v. next) (λ v. record next { name = v.name; uuid = v.uuid }) old.hosts view view_is
        (ap₂ (λ (n u : List ℕ). record next { name = n; uuid = u }) (ap (λ p. p.0) same) (ap (λ p. p.1) same)))
        ∙ map_kept heading (λ v. record next { name = v.name; uuid = v.uuid }) (λ v. refl) at old.hosts

    module _ (notes : List Note) (over : Bool) (joined : new.journal ≡ old.journal ++ notes) (same : heading next ≡ heading view) (later : faults ≤ faults_now) where
      abbrev name_is : next.name ≡ view.name
      name_is = ap (λ p. p.0) same

      abbrev uuid_is : next.uuid ≡ view.uuid
      uuid_is = ap (λ p. p.1) same

      -- it was served
      module _ (x : IsServed at t a notes over) where
        abbrev z : Turn
        z = turn_given t x.word

        abbrev own_notes : List Note
        own_notes = notes_of at (note_of z)

        hosts_are : new.hosts ≡ changed_at at (λ v. record v { cache = next.cache; task = task_after z; kept = kept_after z t v.kept }) old.hosts
        hosts_are =
            hosts ∙ changed_alike at (λ v. next) (λ v. record v { cache = next.cache; task = task_after z; kept = kept_after z t v.kept }) old.hosts view view_is
            (ap₂ (λ (n u : List ℕ). record { name = n; uuid = u; cache = next.cache; task = next.task; kept = next.kept }) name_is uuid_is
            ∙ ap₂ (λ (o : Option Task) (k : Option Kept). record view { cache = next.cache; task = o; kept = k }) x.task x.kept)

        joined_own : new.journal ≡ old.journal ++ own_notes
        joined_own = joined ∙ ap (λ (n : List Note). old.journal ++ n) x.notes_are

        world_is : new ≡ record { hosts = changed_at at (λ v. record v { cache = next.cache; task = task_after z; kept = kept_after z t v.kept }) old.hosts; journal = old.journal ++ own_notes }
        world_is = ap₂ (λ (vs : List HostView) (j : List Note). record { hosts = vs; journal = j }) hosts_are joined_own

        host_fits : HostFits lines view → HostFits lines next
        host_fits was = record {
          task = by (subst (TaskFits lines) runs was.task) next.task x.fits;
          cache = λ l is. below l (x.held l is);
        }
          where
            by : t.lines ≡ lines → (o : Option Task) → TaskFits t.lines o → TaskFits lines o
            by e None fits = tt
            by e (Some n) fits = fits ∙ e

            below : (l : ℕ) → (l < lines) ⊎ IsHeld (cell_at view.cache l) → l < lines
            below l (inl less) = less
            below l (inr is) = was.cache l is

        abbrev served_answers : Answers c lines None faults faults_now old new
        served_answers =
            free_answers c lines faults faults_now None old new own_notes joined_own
            (let none = no_faults at (note_of z) in omega (arith, none, later)) later
            (own_named at (length new.hosts) (note_of z) (subst (λ (n : ℕ). at < n) (sym count_is) within)) (headings same)
            (λ was. subst (FitsMedia lines) (sym hosts) (fits_kept lines at (λ v. next) old.hosts view view_is host_fits was))
            (λ is. subst IsShaped (sym world_is) (world_shaped old is at view view_is t runs x.word next.cache))
            (no_refusal at (note_of z)) free (no_cause c)
            (λ is. inl (step_shaped old is at view view_is t runs x.word next.cache lines name number free))

        served_keeps : (start : Image) → CallKeeps c start told now old new
        served_keeps start state told_is held =
            let lines_are : length state.memory ≡ length start = held.kept.held.lines in
            let step = own_step state old (subst (λ (n : ℕ). WorldStands n state old) (sym lines_are) held.stands) name at number view view_is t runs in
            let done : IsMachine (operated (op_of t) (machine state.memory view.cache)) now next.cache = x.done state.memory told_is in
            let turn : own_turn state.memory view t ≡ z = sym (x.own state.memory told_is) in
            let same_world : stepped_world state.memory at view t old ≡ new =
            ap₂ (λ (k : Cache) (y : Turn). record {
              hosts =
                  changed_at at (λ v. record v { cache = k; task = task_after y; kept = kept_after y t v.kept }) old.hosts;
              journal =
                  old.journal ++ notes_of at (note_of y);
            }) (sym done.cache) turn ∙ sym world_is in
            let stands : WorldStands (length start) step.left new = subst (λ (w : WorldView). WorldStands (length start) step.left w) same_world
            (subst (λ (n : ℕ). WorldStands n step.left (stepped_world state.memory at view t old)) lines_are step.stands) in
            let own : List Note = notes_of at (note_of (own_turn state.memory view t)) in
            let all : new.journal ≡ old.journal ++ own = joined_own ∙ ap (λ (y : Turn). old.journal ++ notes_of at (note_of y)) (sym turn) in
            record {
              state = step.left;
              notes = own;
              row = step.row;
              told_is = done.image ∙ ap Some (sym step.memory);
              joined = all;
              held = kept_on start state step.left old new c own held tt step.row stands all;
            }

        pub served_call : StepCall name lines None over (media_change told faults now faults_now) old new
        served_call = record {
          answers = record { answers = served_answers; over_is = x.over_is ∙ ap (λ (n : List Note). list_any is_answer_note n) x.notes_are };
          keeps = served_keeps;
        }

      -- the media failed in it
      module _ (x : StepFailed at t a notes over) where
        abbrev fault : Note
        fault = Answered at (MediaFault x.line.0)

        joined_fault : new.journal ≡ old.journal ++ fault ∷ []
        joined_fault = joined ∙ ap (λ (n : List Note). old.journal ++ n) x.notes_are

        fault_fits : HostFits lines view → HostFits lines next
        fault_fits was = record {
          task = subst (TaskFits lines) (sym x.task) tt;
          cache = λ l is. was.cache l (x.held l is);
        }

        counted : Rose faults faults_now → HasCounted faults faults_now (fault ∷ [])
        counted (inl less) = omega (arith, less)
        counted (inr last) = omega (arith, last)

        fault_shaped : IsShaped old → IsShaped new
        fault_shaped is =
            let shapes : List HostShape = shapes_of old.journal in
            let f = pairs_at HostShaped old.hosts shapes at view is view_is in
            subst (λ (vs : List HostView). Pairs HostShaped vs (shapes_of new.journal)) (sym hosts)
            (subst (λ (fs : List HostShape). Pairs HostShaped (changed_at at (λ v. next) old.hosts) fs) (sym (ap shapes_of joined_fault ∙ shapes_both [] old.journal (fault ∷ [])))
            (pairs_changed HostShaped old.hosts shapes at view f.0 (λ v. next) (λ host. record host { task = None }) is view_is f.1
            (record {
              name = f.2.name ∙ sym name_is;
              uuid = f.2.uuid ∙ sym uuid_is;
              task =
                  subst (λ (o : Option Task). Rattle.fam_journal.specs.Shapes.TaskShaped next.uuid o None) (sym x.task) tt;
              keeps =
                  f.2.keeps ∙ ap (λ (k : Option Kept). is_some k) (sym x.kept);
            })))

        fault_shape : IsShaped old → CallShape c lines (shapes_of old.journal) (fault ∷ [])
        fault_shape is = inl (fault_shaped_step name at lines old view t number free view_is runs x.line.0 is)

        abbrev fault_answers : Answers c lines None faults faults_now old new
        fault_answers =
            free_answers c lines faults faults_now None old new (fault ∷ []) joined_fault (counted x.rose) later
            (subst (λ (n : ℕ). at < n) (sym count_is) within, tt) (headings same)
            (λ was. subst (FitsMedia lines) (sym hosts) (fits_kept lines at (λ v. next) old.hosts view view_is fault_fits was))
            fault_shaped refl free (no_cause c) fault_shape

        fault_keeps : (start : Image) → CallKeeps c start told now old new
        fault_keeps start state told_is held =
            let lines_are : length state.memory ≡ length start = held.kept.held.lines in
            let h = found start state old held c lines (modelled state.memory told_is) at view number free view_is in
            let s = find_task (length start) t h.0.task (subst (λ (o : Option Task). TaskStands (length start) h.0.task o) runs h.2.task) in
            let same : machine_of state h.0 ≡ machine state.memory view.cache = ap (λ (k : Cache). machine state.memory k) h.2.cache in
            let f : HasFailed (op_of t) (machine state.memory view.cache) x.line now next.cache = x.failed state.memory told_is in
            let left : Machines = with_machine at f.left None state in
            let op : Operation at state (fault ∷ []) left = record {
              outcome = Fails f.fails.through;
              is = row_cut state at h.0 h.1 s.0 s.1 t (subst (λ (n : ℕ). StandsAs n s.0 t) (sym lines_are) s.2) f.fails.through x.line f.left
                  (ap (λ (y : Machine). failed f.fails.through (op_of t) y) same ∙ f.fails.is);
            } in
            let stands : WorldStands (length start) left new = λ k.
            subst (λ (vs : List HostView). HostStandsAt (length start) (slice_get left.hosts k) (slice_get vs k)) (sym hosts)
            (stands_changed at view old.hosts view_is (λ v. next) (length start) state.hosts h.0 h.1 (λ y. record y { cache = f.left.cache; task = None })
            record {
              name = h.2.name ∙ sym name_is;
              uuid = h.2.uuid ∙ sym uuid_is;
              cache = sym f.is.cache;
              task =
                  subst (λ (o : Option Task). TaskStands (length start) None o) (sym x.task) tt;
              kept = h.2.kept ∙ sym x.kept;
              joined =
                  subst IsKept (sym x.kept) h.2.joined;
            } held.stands k) in
            row_kept start state old held c lines (modelled state.memory told_is) at view number free view_is new now (fault ∷ []) left (λ y. y) op tt f.is.image joined_fault stands

        pub fault_call : StepCall name lines None over (media_change told faults now faults_now) old new
        fault_call = record { answers = record { answers = fault_answers; over_is = x.over_is }; keeps = fault_keeps }

    pub step_call : (over : Bool) → StepsHost at t a over → StepCall name lines None over (media_change told faults now faults_now) old new
    step_call over x = by x.how
      where
        by : IsServed at t a x.notes over ⊎ StepFailed at t a x.notes over → StepCall name lines None over (media_change told faults now faults_now) old new
        by (inl served) = served_call x.notes over x.joined x.host x.later served
        by (inr cut_task) = fault_call x.notes over x.joined x.host x.later cut_task
