-- Every row of the world's calls keeps the state, with its journal.
use Rattle.std.proofs.Common.{◌≡◌, ◌≢◌, ℕ, ◌+◌, ◌*◌, ◌<◌, ◌≤◌, ◌⊎◌, inl, inr, Bool, true, false, List, [], ◌∷◌, ◌++◌, length, Option, Some, None, refl, ap, ap₂, sym, ◌∙◌, subst, arith}
use Rattle.std.specs.Prelude.{slice_get, option_map, is_some, unwrap_or, ◌||◌}
use Rattle.std.specs.FinMap as finmap
use Rattle.std.proofs.lemmas.Bool.{cases_eq}
use Rattle.std.proofs.lemmas.Option.{same_Some}
use Rattle.fam_base.specs.Image.{Image, line_at}
use Rattle.fam_format.proofs.UnitPowers.{unit_told}
use Rattle.fam_protocol.specs.Tasks.{IsCommand}
use Rattle.fam_journal.specs.Past.{past_of}
use Rattle.fam_format.specs.Layout.{least_lines}
use Rattle.fam_format.specs.Stop.{or_else}
use Rattle.fam_format.specs.Params.{IsUuid, SoundParams, is_log_length, is_unit, need}
use Rattle.fam_machine.specs.declared.request.MkfsRequest.{MkfsRequest}
use Rattle.fam_machine.specs.Caches.{Cache, dirty_count}
use Rattle.fam_machine.specs.Operations.{Breaking, IsInImage, Failure, Machine, failed, given, machine, operated_all}
use Rattle.fam_machine.specs.declared.op.Op.{Op}
use Rattle.fam_commands.specs.Classes.{is_mount}
use Rattle.fam_commands.specs.Kept.{Kept}
use Rattle.fam_commands.specs.Stands.{note_of, turn_given}
use Rattle.fam_commands.specs.Task.{Task, op_of}
use Rattle.fam_machine.proofs.DirtyLemmas.{none_dirty}
use Rattle.fam_commands.proofs.Steps.Standing.{next_operation, standing_tied}
use Rattle.fam_rules.specs.Place.{line_bytes}
use Rattle.fam_machine.proofs.MkfsOps.{early_free}
use Rattle.fam_journal.specs.declared.refusal.Refusal.{Refusal}
use Rattle.fam_journal.specs.Calls as call
use Rattle.fam_journal.specs.Calls.{begins_refusal, is_busy, is_busy_host, is_engaged, is_same, makes_refusal, refusal_of, umounts_refusal, IsSoundRequest}
use Rattle.fam_journal.specs.View.{HostStands, HostView, HostStandsAt, StandsAs, TaskStands, WorldView}
use Rattle.fam_journal.specs.Kept.{copy_at, Agrees, IfRuns, Reached, TaskTold, hosts_of, run_at, protocol_run, run_with, shared_of, settled_of}
use Rattle.fam_machine.specs.HostMoves.{Move, move_failed, moved}
use Rattle.fam_journal.specs.Machines.{Done, Fails, HostState, Machines, Operation, Outcome, Passes, TaskState, cut_task, host_done, machine_of, next_op, notes_of, op_done, operation, task_done, with_kept, with_machine, with_memory, with_task}
use Rattle.fam_journal.specs.Members.{changed_at, index_of}
use Rattle.fam_machine.specs.Mkfs.{asked, early_refusal, halted_ops, is_geometry, mkfs_ops, read_ops}
use Rattle.fam_journal.specs.Notes.{Answered, MediaFault, Note, Refused}
use Rattle.fam_journal.proofs.Calls.Declares.{declared_held, member_before, member_last, none_passes}
use Rattle.fam_protocol.proofs.Hosts.Inside.{asks_inside}
use Rattle.fam_journal.proofs.Calls.Members.{changed_at_member, changed_other}
use Rattle.fam_journal.proofs.Calls.HaltRows.{halted_holds}
use Rattle.fam_journal.proofs.Calls.MkfsRows.{made_held, met_held}
use Rattle.fam_journal.proofs.Calls.Rows.{Declared, begun_held, refused_held, umounted_held}
use Rattle.fam_machine.proofs.Slipping.{move_tears_line}
use Rattle.fam_journal.proofs.Calls.TornLines.{HasBroken, cache_moved, failed_held, line_torn_held}
use Rattle.fam_journal.proofs.Calls.Stepped.{find_host, find_task, held_next, row_done}
use Rattle.fam_journal.proofs.Calls.Tests.{at_most, both_first, both_next, no_busy, no_cause, no_dirty, no_same, no_when, none_dirty_from, or_first, or_next, other_uuid}

zero_plus : (k : ℕ) → k ≡ 0 + k
zero_plus k = omega arith

-- the row's own words for notes and state
pub kept_as : (start : Image) (journal notes told : List Note) (new left : Machines) → notes ≡ told → new ≡ left → Reached start left (journal ++ told) → Reached start new (journal ++ notes)
kept_as start journal notes told new left e f kept =
    subst (λ (z : Machines). Reached start z (journal ++ notes)) (sym f) (subst (λ (z : List Note). Reached start left (journal ++ z)) (sym e) kept)

-- the UUIDs of hosts of which one changes
pub uuids_kept : (h : ℕ) (g : HostState → HostState) → ((z : HostState) → (g z).uuid ≡ z.uuid) → (xs : List HostState)
    → ((k : ℕ) (host : HostState) → slice_get xs k ≡ Some host → IsUuid host.uuid) → (k : ℕ) (host : HostState)
    → slice_get (changed_at h g xs) k ≡ Some host → IsUuid host.uuid
uuids_kept h g keeps xs all k host is =
    elim (cases_eq k h) [
      | inl e ↦ here (slice_get xs h) refl (subst (λ (n : ℕ). slice_get (changed_at h g xs) n ≡ Some host) e is)
      | inr ne ↦ all k host (sym (changed_other h k g xs ne) ∙ is)
    ]
  where
    here : (o : Option HostState) → slice_get xs h ≡ o → slice_get (changed_at h g xs) h ≡ Some host → IsUuid host.uuid
    here None none is = absurd (let e : option_map g (slice_get xs h) ≡ None = ap (option_map g) none in let f : slice_get (changed_at h g xs) h
        ≡ option_map g (slice_get xs h) = Rattle.fam_journal.proofs.Calls.Members.changed_here h g xs in cc)
    here (Some x) was is =
        subst (λ (z : HostState). IsUuid z.uuid) (same_Some (g x) host (sym (changed_at_member h g xs x was) ∙ is)) (subst IsUuid (sym (keeps x)) (all h x was))

-- a mkfs that isn't refused before its first operation
record MayMake (unit log h : ℕ) (state : Machines) : Type 0 where
  shape : is_geometry unit log ≡ true
  room : need log unit ≤ line_bytes * length state.memory
  busy : index_of is_engaged state.hosts ≡ None
  dirty : call.dirty_from h 0 state.hosts ≡ None

may_make : (unit log h : ℕ) (state : Machines) → makes_refusal unit log h state ≡ None → MayMake unit log h state
may_make unit log h state free =
    let a : Option Refusal = option_map call.cause_of (early_refusal unit log (line_bytes * length state.memory)) in
    let b : Option Refusal = call.busy_refusal (index_of is_engaged state.hosts) in
    let c : Option Refusal = call.dirty_refusal (call.dirty_from h 0 state.hosts) in
    let behind : or_else b c ≡ None = or_next a (or_else b c) free in
    let early = early_free unit log (line_bytes * length state.memory) (no_cause (early_refusal unit log (line_bytes * length state.memory)) (or_first a (or_else b c) free)) in
    record {
      shape = early.0;
      room = early.1;
      busy = no_busy (index_of is_engaged state.hosts) (or_first b c behind);
      dirty = no_dirty (call.dirty_from h 0 state.hosts) (or_next b c behind);
    }

-- what is noted where the media failed in an operation
cut_says : (h : ℕ) (m : Machines) (o : Option Failure) (x : Done) → cut_task h m o ≡ Some x → (at : ℕ) × (x.notes ≡ Answered h (MediaFault at) ∷ [])
cut_says h m None x is = absurd cc
cut_says h m (Some failure) x is = (failure.line.0, sym (ap (λ (z : Done). z.notes) (same_Some _ x is)))

op_says : (through : Breaking) (h : ℕ) (m : Machines) (host : HostState) (s : TaskState) (o : Option Op) (x : Done)
    → op_done (Fails through) h m host s o ≡ Some x → (at : ℕ) × (x.notes ≡ Answered h (MediaFault at) ∷ [])
op_says through h m host s None x is = absurd cc
op_says through h m host s (Some op) x is = cut_says h m (failed through op (machine_of m host)) x is

task_says : (through : Breaking) (h : ℕ) (m : Machines) (host : HostState) (o : Option TaskState) (x : Done)
    → task_done (Fails through) h m host o ≡ Some x → (at : ℕ) × (x.notes ≡ Answered h (MediaFault at) ∷ [])
task_says through h m host None x is = absurd cc
task_says through h m host (Some s) x is = op_says through h m host s (next_op s (length m.memory)) x is

host_says : (through : Breaking) (h : ℕ) (m : Machines) (o : Option HostState) (x : Done) → host_done (Fails through) h m o ≡ Some x → (at : ℕ) × (x.notes ≡ Answered h (MediaFault at) ∷ [])
host_says through h m None x is = absurd cc
host_says through h m (Some host) x is = task_says through h m host host.task x is

failed_notes : (through : Breaking) (h : ℕ) (m : Machines) (x : Done) → operation (Fails through) h m ≡ Some x → (at : ℕ) × (x.notes ≡ Answered h (MediaFault at) ∷ [])
unfolding operation
failed_notes through h m x is = host_says through h m (slice_get m.hosts h) x is

module _ (start : Image) (state : Machines) (journal : List Note) (kept : Reached start state journal) where
  abbrev world : WorldView
  world = record { hosts = kept.views; journal = journal }

  abbrev held : Agrees start state world state.memory
  held = kept.held

  -- A host of the state.

  module _ (h : ℕ) (d : Declared start state world h) where
    pub same_cache : machine_of state d.host ≡ record { image = state.memory; cache = d.view.cache }
    same_cache = ap (λ (c : Cache). record { image = state.memory; cache = c }) d.stands.cache

    -- One operation.

    no_task : TaskStands (length start) d.host.task None → d.host.task ≡ None
    no_task stands = go d.host.task stands
      where
        go : (o : Option TaskState) → TaskStands (length start) o None → o ≡ None
        go None stands = refl
        go (Some s) stands = absurd stands

    no_operation : (outcome : Outcome) (x : Done) → d.host.task ≡ None → operation outcome h state ≡ Some x → ⊥
    unfolding operation
    no_operation outcome x none is =
        absurd (let e : host_done outcome h state (slice_get state.hosts h) ≡ None = ap (host_done outcome h state) d.host_is ∙ ap (task_done outcome h state d.host) none in cc)

    module _ (t : Task) (runs : d.view.task ≡ Some t) (s : TaskState) (s_is : d.host.task ≡ Some s) (standing : StandsAs (length start) s t) where
      inside : IsInImage (op_of t) (record { image = state.memory; cache = d.view.cache })
      inside =
          asks_inside (settled_of (past_of start journal).state (line_at state.memory)) (length start)
          (hosts_of kept.views (past_of start journal).hosts) (shared_of state.memory kept.views) held.limit held.invariant.stage h
          (protocol_run t d.told)
          (ap₂ run_at d.view_is d.told_is ∙ ap (λ (o : Option Task). run_with o (Some d.told)) runs) (record { image = state.memory; cache = d.view.cache })
          record { memory = λ l. refl; copies = λ l. ap (λ (o : Option HostView). copy_at o l) d.view_is } held.lines

      abbrev word : ℕ
      word = unwrap_or (given (op_of t) (record { image = state.memory; cache = d.view.cache })) 0

      served_kept : (x : Done) → operation Passes h state ≡ Some x → Reached start x.left (journal ++ x.notes)
      served_kept x is =
          let turn = turn_given t word in
          let row = row_done start state world held h d.view d.view_is t runs inside d.told d.told_is d.host_told d.host d.host_is d.stands s s_is standing turn refl in
          subst (λ (z : Done). Reached start z.left (journal ++ z.notes)) (same_Some _ x (sym row ∙ is))
          record {
            views = _;
            held = held_next start state world held h d.view d.view_is t runs inside d.told d.told_is d.host_told d.host d.host_is d.stands s s_is standing turn refl;
            uuids = uuids_kept h _ (λ z. refl) state.hosts kept.uuids;
          }

      served_notes : (x : Done) → operation Passes h state ≡ Some x → x.notes ≡ notes_of h (note_of (turn_given t word))
      served_notes x is =
          let row = row_done start state world held h d.view d.view_is t runs inside d.told d.told_is d.host_told d.host d.host_is d.stands s s_is standing (turn_given t word) refl in
          sym (ap (λ (z : Done). z.notes) (same_Some _ x (sym row ∙ is)))

      -- the media failed in the operation
      cut_kept : (o : Option Failure) (x : Done) → cut_task h state o ≡ Some x
          → ((failure : Failure) → o ≡ Some failure → HasBroken (op_of t) (record { image = state.memory; cache = d.view.cache }) failure)
          → Reached start x.left (journal ++ x.notes)
      cut_kept None x is broken = absurd cc
      cut_kept (Some failure) x is broken =
          subst (λ (z : Done). Reached start z.left (journal ++ z.notes)) (same_Some _ x is)
          record { views = _; held = failed_held start state world held h d (op_of t) inside failure (broken failure refl); uuids = uuids_kept h _ (λ z. refl) state.hosts kept.uuids }

      failed_kept : (through : Breaking) (x : Done) → operation (Fails through) h state ≡ Some x → Reached start x.left (journal ++ x.notes)
      unfolding operation
      failed_kept through x is =
          let op : next_op s (length state.memory) ≡ Some (op_of t) = ap (next_op s) held.lines ∙ next_operation s.kept s.cmd s.me (length start) t s.words s.made standing.joined standing.stands in
          cut_kept (failed through (op_of t) (machine_of state d.host)) x
          (sym (ap (host_done (Fails through) h state) d.host_is ∙ ap (task_done (Fails through) h state d.host) s_is ∙ ap (op_done (Fails through) h state d.host s) op) ∙ is)
          (λ failure e. record { through = through; is = ap (failed through (op_of t)) (sym same_cache) ∙ e })

    operation_by : (outcome : Outcome) (x : Done) → operation outcome h state ≡ Some x → (o : Option Task) → d.view.task ≡ o → Reached start x.left (journal ++ x.notes)
    operation_by outcome x is None none =
        absurd (no_operation outcome x (no_task (subst (λ (o : Option Task). TaskStands (length start) d.host.task o) none d.stands.task)) is)
    operation_by Passes x is (Some t) runs =
        let task = find_task (length start) t d.host.task (subst (λ (o : Option Task). TaskStands (length start) d.host.task o) runs d.stands.task) in
        served_kept t runs task.0 task.1 task.2 x is
    operation_by (Fails through) x is (Some t) runs =
        let task = find_task (length start) t d.host.task (subst (λ (o : Option Task). TaskStands (length start) d.host.task o) runs d.stands.task) in
        failed_kept t runs task.0 task.1 task.2 through x is

    -- what is noted of an operation: its task's turn, or that the media failed
    pub record Turned (notes : List Note) : Type 0 where
      pub t : Task
      pub runs : d.view.task ≡ Some t
      pub s : TaskState
      pub word : ℕ
      pub standing : StandsAs (length start) s t
      pub cmd_is : d.told.cmd ≡ Some s.cmd
      pub notes_are : notes ≡ notes_of h (note_of (turn_given t word))

    turned_by : (outcome : Outcome) (x : Done) → operation outcome h state ≡ Some x → (o : Option Task) → d.view.task ≡ o
        → Turned x.notes ⊎ ((line : ℕ) × (x.notes ≡ Answered h (MediaFault line) ∷ []))
    turned_by outcome x is None none =
        absurd (no_operation outcome x (no_task (subst (λ (o : Option Task). TaskStands (length start) d.host.task o) none d.stands.task)) is)
    turned_by Passes x is (Some t) runs =
        let task = find_task (length start) t d.host.task (subst (λ (o : Option Task). TaskStands (length start) d.host.task o) runs d.stands.task) in
        let told : TaskTold t d.told = subst (λ (o : Option Task). IfRuns o d.told) runs d.host_told.task in
        inl record {
          t = t;
          runs = runs;
          s = task.0;
          word = word t runs task.0 task.1 task.2;
          standing = task.2;
          cmd_is = told.cmd ∙ ap Some (standing_tied task.0.kept task.0.cmd task.0.me (length start) t task.0.words task.0.made task.2.joined task.2.stands).cmd_is;
          notes_are = served_notes t runs task.0 task.1 task.2 x is;
        }
    turned_by (Fails through) x is (Some t) runs = inr (failed_notes through h state x is)

    pub turned : (notes : List Note) (new : Machines) → Operation h state notes new → Turned notes ⊎ ((line : ℕ) × (notes ≡ Answered h (MediaFault line) ∷ []))
    turned notes new op = turned_by op.outcome (record { notes = notes; left = new }) op.is d.view.task refl

    pub operation_at : (notes : List Note) (new : Machines) → Operation h state notes new → Reached start new (journal ++ notes)
    operation_at notes new op = operation_by op.outcome (record { notes = notes; left = new }) op.is d.view.task refl

    -- The other rows.

    view_of : (k : ℕ) (v : HostView) → slice_get kept.views k ≡ Some v → (host : HostState) × (slice_get state.hosts k ≡ Some host) × HostStands (length start) host v
    view_of k v is = find_host (length start) v (slice_get state.hosts k) (subst (λ (o : Option HostView). HostStandsAt (length start) (slice_get state.hosts k) o) is (held.stands k))

    idle_of : (lines : ℕ) (host : HostState) (v : HostView) → HostStands lines host v → is_busy host ≡ false → v.task ≡ None
    idle_of lines host v stands idle = go host.task v.task refl stands.task
      where
        go : (o : Option TaskState) (p : Option Task) → host.task ≡ o → TaskStands lines o p → p ≡ None
        go None None e stands = refl
        go None (Some t) e stands = absurd stands
        go (Some s) p e stands = absurd (let f : is_busy host ≡ true = ap (λ (o : Option TaskState). is_some o) e in cc)

    -- who isn't engaged has no task, and keeps nothing
    not_busy : (host : HostState) → is_engaged host ≡ false → is_busy host ≡ false
    not_busy host free = go (is_busy host) free
      where
        go : (b : Bool) → (b || is_some host.kept) ≡ false → b ≡ false
        go true e = absurd cc
        go false e = refl

    bare_of : (lines : ℕ) (host : HostState) (v : HostView) → HostStands lines host v → is_engaged host ≡ false → v.kept ≡ None
    bare_of lines host v stands free = sym stands.kept ∙ go (is_busy host) host.kept free
      where
        go : (b : Bool) (k : Option Kept) → (b || is_some k) ≡ false → k ≡ None
        go true k e = absurd cc
        go false None e = refl
        go false (Some k) e = absurd cc

    pub begins_kept : (cmd : Rattle.fam_base.specs.declared.cmd.Cmd.Cmd) → IsCommand cmd → begins_refusal h (is_mount cmd) state ≡ None
        → Reached start (with_task h (Some (Rattle.fam_journal.specs.Machines.task_begun d.host.kept cmd d.host.uuid)) state)
        (journal ++ Rattle.fam_journal.specs.Notes.Start h cmd ∷ [])
    begins_kept cmd command free =
        let enough : least_lines ≤ length state.memory = at_most least_lines (length state.memory) (no_when _ _ (or_first _ _ free)) in
        record { views = _; held = begun_held start state world held h d cmd command (omega (arith, enough, held.lines)); uuids = uuids_kept h _ (λ z. refl) state.hosts kept.uuids }

    pub umounts_kept : umounts_refusal h state ≡ None → Reached start (with_kept h None state) (journal ++ Rattle.fam_journal.specs.Notes.Umount h ∷ [])
    umounts_kept free =
        let idle : is_busy d.host ≡ false = sym (ap is_busy_host d.host_is) ∙ no_when _ _ (or_first _ _ free) in
        record { views = _; held = umounted_held start state world held h d (idle_of (length start) d.host d.view d.stands idle); uuids = uuids_kept h _ (λ z. refl) state.hosts kept.uuids }

    pub makes_sound : (request : MkfsRequest) → IsSoundRequest request → makes_refusal request.unit request.log h state ≡ None → SoundParams (asked request d.host.uuid (length state.memory))
    makes_sound request good free =
        let may = may_make request.unit request.log h state free in
        record {
          format = good.format;
          unit = both_first (is_unit request.unit) (is_log_length request.unit request.log) may.shape;
          log_length = both_next (is_unit request.unit) (is_log_length request.unit request.log) may.shape;
          slots = refl;
          need = may.room;
          device = omega (arith, held.limit, held.lines);
          fs = good.fs;
          master = kept.uuids h d.host d.host_is;
        }

    pub made_kept : (request : MkfsRequest) → IsSoundRequest request → makes_refusal request.unit request.log h state ≡ None
        → Reached start (with_machine h (operated_all (mkfs_ops (asked request d.host.uuid (length state.memory))) (machine_of state d.host))
        d.host.task state) (journal ++ Rattle.fam_journal.specs.Notes.Made h (asked request d.host.uuid (length state.memory)) ∷ [])
    made_kept request good free =
        let p = asked request d.host.uuid (length state.memory) in
        let may = may_make request.unit request.log h state free in
        record {
          views = _;
          held = subst (λ (z : Machine). Agrees start (with_machine h (operated_all (mkfs_ops p) z) d.host.task state)
              (record {
                hosts = changed_at h (λ v. record v { cache = (operated_all (mkfs_ops p) z).cache }) kept.views;
                journal =
                    journal ++ Rattle.fam_journal.specs.Notes.Made h p ∷ [];
              }) (operated_all (mkfs_ops p) z).image) (sym same_cache)
              (made_held start state world held h d p (makes_sound request good free) refl (sym d.stands.uuid)
              (λ k v is. let host = view_of k v is in idle_of (length start) host.0 v host.2 (not_busy host.0 (none_passes is_engaged state.hosts 0 may.busy k host.0 host.1)))
              (λ k v is. let host = view_of k v is in bare_of (length start) host.0 v host.2 (none_passes is_engaged state.hosts 0 may.busy k host.0 host.1))
              (λ k v ne is l. let host = view_of k v is in none_dirty v.cache
              (ap dirty_count (sym host.2.cache) ∙ none_dirty_from h state.hosts 0 may.dirty k host.0 host.1 (λ e. ne (zero_plus k ∙ e))) l));
          uuids = uuids_kept h _ (λ z. refl) state.hosts kept.uuids;
        }

    pub halts_kept : (request : MkfsRequest) → IsSoundRequest request → makes_refusal request.unit request.log h state ≡ None → (k : ℕ)
        → Reached start (with_machine h
        (machine (operated_all (halted_ops k (asked request d.host.uuid (length state.memory))) (machine_of state d.host)).image finmap.empty)
        d.host.task state) (journal ++ Rattle.fam_journal.specs.Notes.Cut h k ∷ [])
    halts_kept request good free k =
        let p = asked request d.host.uuid (length state.memory) in
        let may = may_make request.unit request.log h state free in
        record {
          views = _;
          held = subst (λ (z : Machine). Agrees start
              (with_machine h (machine (operated_all (halted_ops k p) z).image finmap.empty) d.host.task state)
              (record {
                hosts = changed_at h (λ v. record v { cache = finmap.empty }) kept.views;
                journal =
                    journal ++ Rattle.fam_journal.specs.Notes.Cut h k ∷ [];
              }) (operated_all (halted_ops k p) z).image) (sym same_cache)
              (halted_holds start state world held h d p (makes_sound request good free) refl (sym d.stands.uuid)
              (λ k v is. let host = view_of k v is in idle_of (length start) host.0 v host.2 (not_busy host.0 (none_passes is_engaged state.hosts 0 may.busy k host.0 host.1)))
              (λ k v is. let host = view_of k v is in bare_of (length start) host.0 v host.2 (none_passes is_engaged state.hosts 0 may.busy k host.0 host.1))
              (λ k v ne is l. let host = view_of k v is in none_dirty v.cache
              (ap dirty_count (sym host.2.cache) ∙ none_dirty_from h state.hosts 0 may.dirty k host.0 host.1 (λ e. ne (zero_plus k ∙ e))) l) k);
          uuids = uuids_kept h _ (λ z. refl) state.hosts kept.uuids;
        }

    pub enough_to_make : (unit log : ℕ) → makes_refusal unit log h state ≡ None → least_lines ≤ length state.memory
    enough_to_make unit log free =
        let may = may_make unit log h state free in
        omega (arith, may.room, (unit_told unit (both_first (is_unit unit) (is_log_length unit log) may.shape)).least)

    pub met_kept : (name : List ℕ) (cause : Refusal) → least_lines ≤ length state.memory
        → Reached start (with_machine h (operated_all read_ops (machine_of state d.host)) d.host.task state) (journal ++ Refused name cause ∷ [])
    met_kept name cause enough = record {
      views = _;
      held = subst (λ (z : Machine). Agrees start (with_machine h (operated_all read_ops z) d.host.task state)
          (record {
            hosts = changed_at h (λ v. record v { cache = (operated_all read_ops z).cache }) kept.views;
            journal =
                journal ++ Refused name cause ∷ [];
          }) (operated_all read_ops z).image) (sym same_cache)
          (met_held start state world held h d enough name cause);
      uuids = uuids_kept h _ (λ z. refl) state.hosts kept.uuids;
    }

    pub moved_kept : (move : Move) (line : ℕ) → line < length state.memory → Reached start (with_machine h (moved move line (machine_of state d.host)) d.host.task state) journal
    moved_kept move line within = record {
      views = _;
      held = subst (λ (z : Machine). Agrees start (with_machine h (moved move line z) d.host.task state)
          (record { hosts = changed_at h (λ v. record v { cache = (moved move line z).cache }) kept.views; journal = journal })
          (moved move line z).image) (sym same_cache)
          (cache_moved start state world held h d move line within);
      uuids = uuids_kept h _ (λ z. refl) state.hosts kept.uuids;
    }

    pub move_failed_kept : (move : Move) (line through : ℕ) (left : Image) (name : List ℕ) (cause : Refusal) → line < length state.memory
        → move_failed move line through (machine_of state d.host) ≡ Some left
        → Reached start (with_memory left state) (journal ++ Refused name cause ∷ [])
    move_failed_kept move line through left name cause within fails = record {
      views = _;
      held = line_torn_held start state world held h d left
          (move_tears_line move line (record { image = state.memory; cache = d.view.cache }) through left held.normal within
          (ap (move_failed move line through) (sym same_cache) ∙ fails)) name cause;
      uuids = kept.uuids;
    }

  pub refused_kept : (name : List ℕ) (cause : Refusal) → Reached start state (journal ++ Refused name cause ∷ [])
  refused_kept name cause = record { views = kept.views; held = refused_held start state world held name cause; uuids = kept.uuids }

  pub declared_kept : (name uuid : List ℕ) → IsUuid uuid → refusal_of (call.Declares name uuid) state ≡ None
      → Reached start (record state {
        hosts = state.hosts ++ record { name = name; uuid = uuid; cache = finmap.empty; task = None; kept = None } ∷ [];
      }) (journal ++ Rattle.fam_journal.specs.Notes.Host name uuid ∷ [])
  unfolding refusal_of
  declared_kept name uuid sound free =
      let none : index_of (is_same name uuid) state.hosts ≡ None = no_same _ (or_first _ _ free) in
      record {
        views = _;
        held = declared_held start state world held name uuid
            (λ k v is same. let host = find_host (length start) v (slice_get state.hosts k)
            (subst (λ (o : Option HostView). HostStandsAt (length start) (slice_get state.hosts k) o) is (held.stands k)) in
            other_uuid name uuid host.0 (none_passes (is_same name uuid) state.hosts 0 none k host.0 host.1) (host.2.uuid ∙ same));
        uuids = λ k host is. by_phase k host is (cases_eq k (length state.hosts));
      }
    where
      by_phase : (k : ℕ) (host : HostState)
          → slice_get (state.hosts ++ record { name = name; uuid = uuid; cache = finmap.empty; task = None; kept = None } ∷ []) k ≡ Some host
          → (k ≡ length state.hosts) ⊎ (k ≢ length state.hosts) → IsUuid host.uuid
      by_phase k host is (inl e) =
          subst (λ (z : HostState). IsUuid z.uuid)
          (same_Some _ host (sym (subst (λ (n : ℕ).
          slice_get (state.hosts ++ record { name = name; uuid = uuid; cache = finmap.empty; task = None; kept = None } ∷ []) n
          ≡ Some (record { name = name; uuid = uuid; cache = finmap.empty; task = None; kept = None })) (sym e)
          (member_last state.hosts (record { name = name; uuid = uuid; cache = finmap.empty; task = None; kept = None }))) ∙ is)) sound
      by_phase k host is (inr ne) = kept.uuids k host (sym (member_before state.hosts (record { name = name; uuid = uuid; cache = finmap.empty; task = None; kept = None }) k ne) ∙ is)
