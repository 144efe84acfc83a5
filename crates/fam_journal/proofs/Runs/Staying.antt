-- While a state is bad nobody has anything to send, so memory stays, whatever a call does that ends no history.
use Prim.Native.Nat.{zero, suc}
use Rattle.std.proofs.Common.{◌≡◌, ℕ, ◌<◌, inl, inr, Bool, true, false, List, ◌++◌, length, map, Option, Some, None, refl, ap, sym, ◌∙◌, subst, arith}
use Rattle.std.specs.Prelude.{nat_lt, not, slice_get}
use Rattle.std.proofs.lemmas.Bool.Decides.{nat_tests}
use Rattle.std.proofs.lemmas.Option.{same_Some}
use Rattle.fam_base.specs.declared.entry.Params.{Params}
use Rattle.fam_base.specs.Image.{Image, eight, line_at}
use Rattle.fam_format.specs.Reading.{Lines}
use Rattle.fam_commands.specs.Table as row
use Rattle.fam_machine.specs.declared.op.Op.{Op}
use Rattle.fam_machine.specs.Caches.{Cache, cell_at}
use Rattle.fam_machine.specs.EightWords.{HasEightWords}
use Rattle.fam_machine.specs.Mkfs.{first_sent}
use Rattle.fam_machine.specs.OneLine.{IsDirty}
use Rattle.fam_machine.specs.Operations.{Failure, failed, operated}
use Rattle.fam_machine.proofs.CutMkfs.{read_stays}
use Rattle.fam_machine.proofs.HaltedMkfs.{halted_left, none_put}
use Rattle.fam_machine.proofs.NothingSent.{failed_still, move_failed_still, moved_still, operated_still}
use Rattle.fam_protocol.specs.Invariant.{Hosts, InvariantBy}
use Rattle.fam_protocol.specs.SharedState.{SharedState}
use Rattle.fam_journal.specs.declared.refusal.Refusal.{Refusal}
use Rattle.fam_journal.specs.Calls as call
use Rattle.fam_journal.specs.Calls.{Acts, ActsAt, ActsOf, AtNumber, ByRefusal, Call, Does, DoesOperations, MakesOrHalts, OnHost, asked_name, number_of, refusal_of}
use Rattle.fam_journal.specs.Kept.{Reached, copy_at, hosts_of, origin_lines, settled_bad, settled_of, shared_of}
use Rattle.fam_journal.specs.Laws.{NoneEnds}
use Rattle.fam_journal.specs.Machines.{Done, Fails, HostState, Machines, Operation, Outcome, Passes, TaskState, cut_task, host_done, machine_of, notes_of, op_done, operation, served, task_done}
use Rattle.fam_journal.specs.Notes.{Note}
use Rattle.fam_journal.specs.Past as past
use Rattle.fam_journal.specs.Past.{Bad, Damage, FewLines, Origin, Past, State, first_past, past_of}
use Rattle.fam_journal.specs.View.{HostView}
use Rattle.fam_journal.proofs.Calls.Keeping.{same_cache}
use Rattle.fam_journal.proofs.Calls.MkfsRows.{whole}
use Rattle.fam_journal.proofs.Calls.Rows.{Declared}
use Rattle.fam_journal.proofs.Runs.Following.{declared_at, operation_kept}
use Rattle.fam_journal.proofs.Settled.Journals.{past_both}
use Rattle.fam_journal.proofs.Settled.Prefixes.{notes_bad}

-- Nobody has anything to send.

bad_clean : (now : Lines) (d : Damage) (lines : ℕ) (hosts : Hosts) (s : SharedState) → InvariantBy (settled_bad now d) lines hosts s → (h l : ℕ) → IsDirty (s.copy h l) → ⊥
bad_clean now (FewLines few) lines hosts s stage h l dirty = stage.clean h l dirty
bad_clean now (past.NoSuperblock fault) lines hosts s stage h l dirty = stage.still.clean h l dirty
bad_clean now (past.BadHeader fault) lines hosts s stage h l dirty = stage.still.clean h l dirty
bad_clean now (past.BadSlot i reason) lines hosts s stage h l dirty = stage.still.clean h l dirty

module _ (start : Image) (state : Machines) (journal : List Note) (kept : Reached start state journal) (origin : Origin) (damage : Damage) (gate : ℕ)
    (is : (past_of start journal).state ≡ Bad origin damage gate) (h : ℕ) (host : HostState) (host_is : slice_get state.hosts h ≡ Some host) where
  d : Declared start state (record { hosts = kept.views; journal = journal }) h
  d = declared_at start state journal kept h host host_is

  own : host ≡ d.host
  own = same_Some host d.host (sym host_is ∙ d.host_is)

  pub nothing_sent : (l : ℕ) → IsDirty (cell_at host.cache l) → ⊥
  nothing_sent l dirty =
      bad_clean (origin_lines origin (line_at state.memory)) damage (length start) (hosts_of kept.views (past_of start journal).hosts) (shared_of state.memory kept.views)
      (subst (λ (s : State). InvariantBy (settled_of s (line_at state.memory)) (length start) (hosts_of kept.views (past_of start journal).hosts)
      (shared_of state.memory kept.views)) is kept.held.invariant.stage) h l
      (subst IsDirty (sym (ap (λ (o : Option HostView). copy_at o l) d.view_is))
      (subst (λ (c : Cache). IsDirty (cell_at c l)) (ap (λ (z : HostState). z.cache) own ∙ d.stands.cache) dirty))

  pub wide : HasEightWords (machine_of state host)
  wide =
      subst (λ (z : HostState). HasEightWords (machine_of state z)) (sym own)
      (subst HasEightWords (sym (same_cache start state journal kept h d)) (whole start state (record { hosts = kept.views; journal = journal }) kept.held h d))

-- One operation.

served_memory : (h : ℕ) (m : Machines) (host : HostState) (t : TaskState) (op : Op) (o : Option row.RowNote) (x : Done)
    → served h m host t op o ≡ Some x → x.left.memory ≡ (operated op (machine_of m host)).image
served_memory h m host t op None x is = absurd cc
served_memory h m host t op (Some note) x is = sym (ap (λ (z : Done). z.left.memory) (same_Some _ x is))

cut_memory : (h : ℕ) (m : Machines) (o : Option Failure) (x : Done) → cut_task h m o ≡ Some x → (failure : Failure) × (o ≡ Some failure) × (x.left.memory ≡ failure.left.image)
cut_memory h m None x is = absurd cc
cut_memory h m (Some failure) x is = (failure, refl, sym (ap (λ (z : Done). z.left.memory) (same_Some _ x is)))

-- its notes end no history
row_ends : (h : ℕ) (note : row.RowNote) → NoneEnds (notes_of h note)
row_ends h row.Quiet = tt
row_ends h e = (refl, tt)

served_ends : (h : ℕ) (m : Machines) (host : HostState) (t : TaskState) (op : Op) (o : Option row.RowNote) (x : Done) → served h m host t op o ≡ Some x → NoneEnds x.notes
served_ends h m host t op None x is = absurd cc
served_ends h m host t op (Some note) x is = subst (λ (z : Done). NoneEnds z.notes) (same_Some _ x is) (row_ends h note)

cut_ends : (h : ℕ) (m : Machines) (o : Option Failure) (x : Done) → cut_task h m o ≡ Some x → NoneEnds x.notes
cut_ends h m None x is = absurd cc
cut_ends h m (Some failure) x is = subst (λ (z : Done). NoneEnds z.notes) (same_Some _ x is) (refl, tt)

-- memory stays, and no history ends
record Stays (m : Machines) (x : Done) : Type 0 where
  memory : x.left.memory ≡ m.memory
  ends : NoneEnds x.notes

module _ (h : ℕ) (m : Machines) (normal : map eight m.memory ≡ m.memory) where
  op_stays : (outcome : Outcome) (host : HostState) → ((l : ℕ) → IsDirty (cell_at host.cache l) → ⊥) → (t : TaskState) (o : Option Op) (x : Done) → op_done outcome h m host t o ≡ Some x → Stays m x
  op_stays outcome host clean t None x is = absurd cc
  op_stays Passes host clean t (Some op) x is = record {
    memory = served_memory h m host t op _ x is ∙ operated_still (machine_of m host) normal clean op;
    ends = served_ends h m host t op _ x is;
  }
  op_stays (Fails through) host clean t (Some op) x is =
      let f = cut_memory h m (failed through op (machine_of m host)) x is in
      record { memory = f.2 ∙ failed_still (machine_of m host) normal clean through op f.0 f.1; ends = cut_ends h m (failed through op (machine_of m host)) x is }

  task_stays : (outcome : Outcome) (host : HostState) → ((l : ℕ) → IsDirty (cell_at host.cache l) → ⊥) → (o : Option TaskState) (x : Done) → task_done outcome h m host o ≡ Some x → Stays m x
  task_stays outcome host clean None x is = absurd cc
  task_stays outcome host clean (Some t) x is = op_stays outcome host clean t _ x is

  host_stays : (outcome : Outcome) (o : Option HostState) → ((host : HostState) → o ≡ Some host → (l : ℕ) → IsDirty (cell_at host.cache l) → ⊥)
      → (x : Done) → host_done outcome h m o ≡ Some x → Stays m x
  host_stays outcome None clean x is = absurd cc
  host_stays outcome (Some host) clean x is = task_stays outcome host (clean host refl) host.task x is

module _ (start : Image) where
  operation_stays : (h : ℕ) (state : Machines) (journal : List Note) (kept : Reached start state journal) (origin : Origin) (damage : Damage)
      (gate : ℕ) → (past_of start journal).state ≡ Bad origin damage gate
      → (notes : List Note) (new : Machines) → Operation h state notes new → Stays state (record { notes = notes; left = new })
  unfolding operation
  operation_stays h state journal kept origin damage gate is notes new op =
      host_stays h state kept.held.normal op.outcome (slice_get state.hosts h) (λ host at. nothing_sent start state journal kept origin damage gate is h host at) _ op.is

  -- behind notes that end no history the state is as bad
  pub bad_behind : (journal notes : List Note) (origin : Origin) (damage : Damage) (gate : ℕ) → NoneEnds notes
      → (past_of start journal).state ≡ Bad origin damage gate → (past_of start (journal ++ notes)).state ≡ Bad origin damage gate
  bad_behind journal notes origin damage gate none is =
      ap (λ (x : Past). x.state) (past_both (first_past start) journal notes) ∙ notes_bad notes (past_of start journal) origin damage gate none is

  pub operates_stay : (h count : ℕ) (state : Machines) (journal : List Note) → Reached start state journal
      → (origin : Origin) (damage : Damage) (gate : ℕ) → (past_of start journal).state ≡ Bad origin damage gate
      → (notes : List Note) (new : Machines) → DoesOperations h count state notes new → new.memory ≡ state.memory
  operates_stay h zero state journal kept origin damage gate is notes new o = ap (λ (m : Machines). m.memory) o.1
  operates_stay h (suc count) state journal kept origin damage gate is notes new (inl o) = ap (λ (m : Machines). m.memory) o.2
  operates_stay h (suc count) state journal kept origin damage gate is notes new (inr o) =
      let first = operation_stays h state journal kept origin damage gate is o.2 o.1 o.4 in
      operates_stay h count o.1 (journal ++ o.2) (operation_kept start h state journal kept o.2 o.1 o.4) origin damage gate (bad_behind journal o.2 origin damage gate first.ends is) o.3 new o.5
      ∙ first.memory

-- Calls.

-- a maker that halts without ending a history does so before its first send
halts_early : (k : ℕ) → not (nat_lt k first_sent) ≡ false → k < first_sent
halts_early k none = go (nat_lt k first_sent) refl none
  where
    go : (t : Bool) → nat_lt k first_sent ≡ t → not t ≡ false → k < first_sent
    go true is none = grind (arith, nat_tests, is)
    go false is none = absurd cc

module _ (start : Image) (state : Machines) (journal : List Note) (kept : Reached start state journal) (origin : Origin) (damage : Damage) (gate : ℕ)
    (is : (past_of start journal).state ≡ Bad origin damage gate) (notes : List Note) (new : Machines) (none : NoneEnds notes) where
  abbrev memory_in : Machines → Image
  memory_in m = m.memory

  make_stays : (h : ℕ) (host : HostState) → slice_get state.hosts h ≡ Some host → (halt : Option ℕ) (p : Params) (force : Bool)
      → MakesOrHalts halt h p force host state notes new → new.memory ≡ state.memory
  make_stays h host at None p force x = absurd (let made = (subst NoneEnds x.notes_are none).0 in cc)
  make_stays h host at (Some k) p force x =
      let clean = nothing_sent start state journal kept origin damage gate is h host at in
      ap memory_in x.left
      ∙ halted_left k p (machine_of state host) kept.held.normal (wide start state journal kept origin damage gate is h host at) (λ l below dirty. clean l dirty)
      ∙ none_put k p state.memory (halts_early k (subst NoneEnds x.notes_are none).0)

  act_stays : (c : Call) (h : ℕ) (host : HostState) → slice_get state.hosts h ≡ Some host → ActsAt c h host state notes new → new.memory ≡ state.memory
  act_stays (call.Declares name uuid) h host at x = absurd x
  act_stays (call.Makes name request) h host at (inl x) = make_stays h host at request.halt _ request.force x
  act_stays (call.Makes name request) h host at (inr x) =
      ap memory_in x.left ∙ read_stays (machine_of state host) kept.held.normal (λ l below dirty. nothing_sent start state journal kept origin damage gate is h host at l dirty)
  act_stays (call.Steps name) h host at x = (operation_stays start h state journal kept origin damage gate is notes new x).memory
  act_stays (call.Finishes name) h host at x = operates_stay start h x.count state journal kept origin damage gate is notes new x.does
  act_stays (call.Moves name line move) h host at (inl x) =
      ap memory_in x.left ∙ moved_still (machine_of state host) kept.held.normal (nothing_sent start state journal kept origin damage gate is h host at) move line
  act_stays (call.Moves name line move) h host at (inr x) =
      ap memory_in x.left ∙ move_failed_still (machine_of state host) kept.held.normal (nothing_sent start state journal kept origin damage gate is h host at) move line x.through x.image x.fails
  act_stays (call.Refuses name cause) h host at x = absurd x
  act_stays e h host at x = ap memory_in x.1

  acts_of_stay : (c : Call) → ActsOf c state notes new → new.memory ≡ state.memory
  acts_of_stay c x = by_number (number_of (asked_name c) state) x
    where
      by_host : (h : ℕ) (o : Option HostState) → slice_get state.hosts h ≡ o → OnHost o (λ host. ActsAt c h host state notes new) → new.memory ≡ state.memory
      by_host h None at x = absurd x
      by_host h (Some host) at x = act_stays c h host at x

      by_number : (o : Option ℕ) → AtNumber o state (λ h host. ActsAt c h host state notes new) → new.memory ≡ state.memory
      by_number None x = absurd x
      by_number (Some h) x = by_host h (slice_get state.hosts h) refl x

  acts_stay : (c : Call) → Acts c state notes new → new.memory ≡ state.memory
  acts_stay (call.Declares name uuid) x = ap memory_in x.1
  acts_stay (call.Refuses name cause) x = ap memory_in x.1
  acts_stay e x = acts_of_stay e x

  pub does_stay : (c : Call) → Does c state notes new → new.memory ≡ state.memory
  does_stay c x = by_refusal (refusal_of c state) x
    where
      by_refusal : (o : Option Refusal) → ByRefusal (asked_name c) o notes state new (Acts c state notes new) → new.memory ≡ state.memory
      by_refusal (Some cause) x = ap memory_in x.1
      by_refusal None x = acts_stay c x
