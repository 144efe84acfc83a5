-- Whatever events come, every answer is one of the rules; and a run ends in one.
use Prim.Native.Nat.{zero, suc}
use Rattle.std.proofs.Common.{◌≡◌, ℕ, ◌⊎◌, inl, inr, Bool, true, false, List, [], ◌∷◌, ◌++◌, length, Option, Some, None, refl, ap, ap₂, sym, ◌∙◌, subst}
use Rattle.std.specs.Prelude.{slice_get, is_some}
use Rattle.std.proofs.lemmas.List.{append-nil, append_assoc}
use Rattle.std.proofs.lemmas.Option.{same_Some}
use Rattle.fam_base.specs.declared.entry.Params.{Params}
use Rattle.fam_base.specs.Image.{Image, line_at}
use Rattle.fam_media.specs.Files.{Files}
use Rattle.fam_machine.specs.declared.op.Op.{Op}
use Rattle.fam_machine.specs.Operations.{Machine, given, operated}
use Rattle.fam_commands.specs.Stands.{turn_given}
use Rattle.fam_commands.specs.Task.{Task}
use Rattle.fam_commands.proofs.Steps.Standing.{standing_tied}
use Rattle.fam_commands.specs.Kept.{Kept}
use Rattle.fam_protocol.specs.SharedState.{SharedState}
use Rattle.fam_protocol.specs.Invariant.{Hosts}
use Rattle.fam_commands.specs.Table as row
use Rattle.fam_rules.specs.Reply.{Reply}
use Rattle.fam_journal.specs.declared.event.Ask.{Ask}
use Rattle.fam_journal.specs.declared.event.Event.{Event}
use Rattle.fam_journal.specs.declared.event.Event.TheVariants as event
use Rattle.fam_journal.specs.declared.refusal.Refusal.{Refusal}
use Rattle.fam_journal.specs.Calls as call
use Rattle.fam_journal.specs.Calls.{Acts, ActsAt, AtNumber, ByRefusal, Call, Completes, Does, MakesOrHalts, OnHost, DoesOperations, busy_at, has_name, is_busy_host, asked_name, number_of, refusal_of}
use Rattle.fam_journal.specs.Complete.{AreRuled, EndsInAnswer}
use Rattle.fam_journal.specs.Ends.{IsFaultless}
use Rattle.fam_journal.specs.Events.{DoesEvent, Continues, Session, first_session}
use Rattle.fam_journal.specs.Follows.{Follows}
use Rattle.fam_journal.specs.Kept.{Reached, hosts_of, run_at, protocol_run, run_with, shared_of, settled_of, uuid_at}
use Rattle.fam_journal.specs.Laws.{AreSound, IsImage, IsValidEvent}
use Rattle.fam_journal.specs.Legal.{LegalBehind}
use Rattle.fam_journal.specs.Machines.{Done, HostState, Machines, Operation, Passes, TaskState, host_done, machine_of, next_note, next_op, op_done, operation, served, task_begun, task_done, task_on, with_parts}
use Rattle.fam_journal.specs.Notes.{Answered, MediaFault, Note, Refused, Replied}
use Rattle.fam_journal.specs.Past.{Past, first_past, past_of}
use Rattle.fam_journal.proofs.Shapes.EventRows.{begun_free}
use Rattle.fam_journal.proofs.Calls.Cases.{by_host, place_same}
use Rattle.fam_journal.proofs.Runs.Following.{begun_kept, declared_at, event_kept, first_kept, operation_kept}
use Rattle.fam_journal.proofs.Settled.Journals.{legal_rest, past_both}
use Rattle.fam_journal.proofs.Calls.Keeping.{Turned, turned}
use Rattle.fam_journal.proofs.Calls.Members.{changed_at_member}
use Rattle.fam_journal.proofs.Calls.Rows.{Declared}
use Rattle.fam_journal.proofs.Settled.BadStates.{bad_own}
use Rattle.fam_journal.proofs.Settled.Owners.{owns_fault}
use Rattle.fam_journal.proofs.Calls.Stepped.{me_of}
use Rattle.fam_journal.proofs.Runs.Ruled.{ruled_both, turn_fits, turn_ruled}
use Rattle.fam_journal.proofs.Runs.Unique.{clean_prefix, clean_rest, passes}

-- two parts of a row's notes
ruled_parts : (start : Image) (journal a b notes : List Note) → notes ≡ a ++ b → AreRuled (past_of start journal) a → AreRuled (past_of start (journal ++ a)) b → AreRuled (past_of start journal) notes
ruled_parts start journal a b notes is first rest =
    subst (AreRuled (past_of start journal)) (sym is) (ruled_both (past_of start journal) a b first (subst (λ (x : Past). AreRuled x b) (past_both (first_past start) journal a) rest))

module _ (start : Image) where
  -- the protocol's hosts, and what they see
  abbrev hosts_kept : (state : Machines) (journal : List Note) → Reached start state journal → Hosts
  hosts_kept state journal kept = hosts_of kept.views (past_of start journal).hosts

  abbrev shared_kept : (state : Machines) (journal : List Note) → Reached start state journal → SharedState
  shared_kept state journal kept = shared_of state.memory kept.views

  operation_ruled : (h : ℕ) (state : Machines) (journal : List Note) → Reached start state journal → (notes : List Note) (new : Machines)
      → Operation h state notes new → AreRuled (past_of start journal) notes
  unfolding operation
  operation_ruled h state journal kept notes new op = by_host (slice_get state.hosts h) refl
    where
      legal : LegalBehind (past_of start journal) notes
      legal = legal_rest (first_past start) journal notes (operation_kept start h state journal kept notes new op).held.legal

      runs : (d : Declared start state (record { hosts = kept.views; journal = journal }) h) → (t : Turned start state journal kept h d notes)
          → (hosts_kept state journal kept).run h ≡ Some (protocol_run t.t d.told)
      runs d t = ap₂ run_at d.view_is d.told_is ∙ ap (λ (o : Option Task). run_with o (Some d.told)) t.runs

      mine : (d : Declared start state (record { hosts = kept.views; journal = journal }) h) → (t : Turned start state journal kept h d notes) → d.told.uuid ≡ t.t.me
      mine d t =
          same_Some d.told.uuid t.t.me
          (ap Some d.host_told.uuid ∙ ap uuid_at (sym d.view_is) ∙ me_of (settled_of (past_of start journal).state (line_at state.memory))
          (length start) (hosts_kept state journal kept) (shared_kept state journal kept) h (protocol_run t.t d.told) kept.held.invariant.stage
          (runs d t))

      by_turn : (d : Declared start state (record { hosts = kept.views; journal = journal }) h)
          → Turned start state journal kept h d notes ⊎ ((line : ℕ) × (notes ≡ Answered h (MediaFault line) ∷ []))
          → AreRuled (past_of start journal) notes
      by_turn d (inl t) =
          subst (AreRuled (past_of start journal)) (sym t.notes_are)
          (turn_ruled (past_of start journal) h (turn_given t.t t.word) d.told t.s.cmd d.told_is t.cmd_is
          (turn_fits t.s.kept t.s.cmd t.s.me (length start) t.t t.s.words t.s.made t.word t.standing.joined t.standing.stands)
          (λ given is. owns_fault (length start) (hosts_kept state journal kept) (shared_kept state journal kept) h (protocol_run t.t d.told) (runs d t)
          (standing_tied t.s.kept t.s.cmd t.s.me (length start) t.t t.s.words t.s.made t.standing.joined t.standing.stands) d.told t.cmd_is (mine d t)
          (past_of start journal).state (λ i g n e. bad_own start i g n journal e) (line_at state.memory) kept.held.invariant.stage t.word given is)
          (subst (LegalBehind (past_of start journal)) t.notes_are legal))
      by_turn d (inr fault) = subst (AreRuled (past_of start journal)) (sym fault.1) (tt, tt)

      by_host : (o : Option HostState) → slice_get state.hosts h ≡ o → AreRuled (past_of start journal) notes
      by_host None none = absurd (let e : Rattle.fam_journal.specs.Machines.host_done op.outcome h state (slice_get state.hosts h) ≡ None =
          ap (Rattle.fam_journal.specs.Machines.host_done op.outcome h state) none in let f = op.is in cc)
      by_host (Some host) is = let d = declared_at start state journal kept h host is in by_turn d (turned start state journal kept h d notes new op)

  operates_ruled : (h count : ℕ) (state : Machines) (journal : List Note) → Reached start state journal → (notes : List Note) (new : Machines)
      → DoesOperations h count state notes new → AreRuled (past_of start journal) notes
  operates_ruled h zero state journal kept notes new o = subst (AreRuled (past_of start journal)) (sym o.0) tt
  operates_ruled h (suc count) state journal kept notes new (inl o) = subst (AreRuled (past_of start journal)) (sym o.1) tt
  operates_ruled h (suc count) state journal kept notes new (inr o) =
      ruled_parts start journal o.2 o.3 notes o.6 (operation_ruled h state journal kept o.2 o.1 o.4)
      (operates_ruled h count o.1 (journal ++ o.2) (operation_kept start h state journal kept o.2 o.1 o.4) o.3 new o.5)

  -- one note that is no answer
  module _ (state : Machines) (journal : List Note) (kept : Reached start state journal) (notes : List Note) (new : Machines) where
    make_ruled : (halt : Option ℕ) (h : ℕ) (p : Params) (force : Bool) (host : HostState) → MakesOrHalts halt h p force host state notes new → AreRuled (past_of start journal) notes
    make_ruled None h p force host x = subst (AreRuled (past_of start journal)) (sym x.notes_are) (tt, tt)
    make_ruled (Some k) h p force host x = subst (AreRuled (past_of start journal)) (sym x.notes_are) (tt, tt)

    act_ruled : (c : Call) (h : ℕ) (host : HostState) → ActsAt c h host state notes new → AreRuled (past_of start journal) notes
    act_ruled (call.Declares name uuid) h host x = absurd x
    act_ruled (call.Makes name request) h host (inl x) = make_ruled request.halt h _ request.force host x
    act_ruled (call.Makes name request) h host (inr x) = subst (AreRuled (past_of start journal)) (sym x.notes_are) (tt, tt)
    act_ruled (call.Steps name) h host x = operation_ruled h state journal kept notes new x
    act_ruled (call.Finishes name) h host x = operates_ruled h x.count state journal kept notes new x.does
    act_ruled (call.Moves name line move) h host (inl x) = subst (AreRuled (past_of start journal)) (sym x.notes_are) tt
    act_ruled (call.Moves name line move) h host (inr x) = subst (AreRuled (past_of start journal)) (sym x.notes_are) (tt, tt)
    act_ruled (call.Refuses name cause) h host x = absurd x
    act_ruled e h host x = subst (AreRuled (past_of start journal)) (sym x.0) (tt, tt)

    host_ruled : (c : Call) (h : ℕ) (o : Option HostState) → OnHost o (λ host. ActsAt c h host state notes new) → AreRuled (past_of start journal) notes
    host_ruled c h None x = absurd x
    host_ruled c h (Some host) x = act_ruled c h host x

    number_ruled : (c : Call) (o : Option ℕ) → AtNumber o state (λ h host. ActsAt c h host state notes new) → AreRuled (past_of start journal) notes
    number_ruled c None x = absurd x
    number_ruled c (Some h) x = host_ruled c h (slice_get state.hosts h) x

    acts_ruled : (c : Call) → Acts c state notes new → AreRuled (past_of start journal) notes
    acts_ruled (call.Declares name uuid) x = subst (AreRuled (past_of start journal)) (sym x.0) (tt, tt)
    acts_ruled (call.Refuses name cause) x = subst (AreRuled (past_of start journal)) (sym x.0) (tt, tt)
    acts_ruled c x = number_ruled c (number_of (asked_name c) state) x

    does_ruled : (c : Call) → Does c state notes new → AreRuled (past_of start journal) notes
    does_ruled c x = by_refusal (refusal_of c state) x
      where
        by_refusal : (o : Option Refusal) → ByRefusal (asked_name c) o notes state new (Acts c state notes new) → AreRuled (past_of start journal) notes
        by_refusal (Some cause) x = subst (AreRuled (past_of start journal)) (sym x.0) (tt, tt)
        by_refusal None x = acts_ruled c x

    refusal_ruled : (name : List ℕ) (cause : Refusal) → notes ≡ Refused name cause ∷ [] → AreRuled (past_of start journal) notes
    refusal_ruled name cause is = subst (AreRuled (past_of start journal)) (sym is) (tt, tt)

  module _ (files : Files) where
    event_ruled : (e : Event) → IsValidEvent e → (old new : Session) (journal notes : List Note) → Reached start old.machines journal
        → DoesEvent files e old notes new → AreRuled (past_of start journal) notes
    event_ruled (event.Begin name what) sound old new journal notes kept (inl x) = does_ruled old.machines journal kept notes new.machines (call.Begins name x.cmd) x.does
    event_ruled (event.Begin name what) sound old new journal notes kept (inr (inl x)) = refusal_ruled old.machines journal kept notes new.machines name x.cause x.notes_are
    event_ruled (event.Begin name what) sound old new journal notes kept (inr (inr x)) = does_ruled old.machines journal kept notes new.machines (call.Refuses name x.cause) x.does
    event_ruled (event.Run name what) sound old new journal notes kept (inl x) =
        ruled_parts start journal x.first x.rest notes x.joined (does_ruled old.machines journal kept x.first x.mid.machines (call.Begins name x.begun.cmd) x.begun.does)
        (operates_ruled x.host x.does.count x.mid.machines (journal ++ x.first) (begun_kept start files name what old x.mid journal x.first kept x.begun) x.rest new.machines x.does.does)
    event_ruled (event.Run name what) sound old new journal notes kept (inr (inl x)) = refusal_ruled old.machines journal kept notes new.machines name x.cause x.notes_are
    event_ruled (event.Run name what) sound old new journal notes kept (inr (inr x)) = does_ruled old.machines journal kept notes new.machines (call.Refuses name x.cause) x.does
    event_ruled (event.Step name count) sound old new journal notes kept (inl x) = operates_ruled x.host count old.machines journal kept notes new.machines x.does
    event_ruled (event.Step name count) sound old new journal notes kept (inr x) = refusal_ruled old.machines journal kept notes new.machines name x.cause x.notes_are
    event_ruled e sound old new journal notes kept x = does_ruled old.machines journal kept notes new.machines _ x.0

    follows_ruled : (events : List Event) → AreSound events → (old new : Session) (journal notes : List Note) → Reached start old.machines journal
        → Follows files events old notes new → AreRuled (past_of start journal) notes
    follows_ruled [] sound old new journal notes kept x = subst (AreRuled (past_of start journal)) (sym x.0) tt
    follows_ruled (e ∷ events) sound old new journal notes kept x =
        ruled_parts start journal x.1 x.2 notes x.5 (event_ruled e sound.0 old x.0 journal x.1 kept x.3)
        (follows_ruled events sound.1 x.0 new (journal ++ x.1) x.2 (event_kept start files e sound.0 old x.0 journal x.1 kept x.3) x.4)

    pub all_ruled : (events : List Event) → IsImage start → AreSound events → (journal : List Note) (last : Session)
        → Follows files events (first_session start) journal last → AreRuled (first_past start) journal
    all_ruled events image sound journal last follows = follows_ruled events sound (first_session start) last [] journal (first_kept start image files events sound) follows

-- Operations up to the answer end in one.

module _ (h : ℕ) where
  -- the host's task after an operation that the media served
  busy_after : (m : Machines) (host : HostState) (x : Machine) (task : Option TaskState) (kept : Option Kept) → slice_get m.hosts h ≡ Some host → busy_at h (with_parts h x task kept m) ≡ is_some task
  busy_after m host x task kept is = ap is_busy_host (changed_at_member h (λ z. record z { cache = x.cache; task = task; kept = kept }) m.hosts host is)

  note_ends : (m : Machines) (host : HostState) (s : TaskState) (op : Op) (note : row.RowNote) (x : Done) → slice_get m.hosts h ≡ Some host
      → served h m host s op (Some note) ≡ Some x → busy_at h x.left ≡ false → (given : Reply) × (x.notes ≡ Answered h (Replied given) ∷ [])
  note_ends m host s op (row.Answer given) x is served done = (given, sym (ap (λ (z : Done). z.notes) (same_Some _ x served)))
  note_ends m host s op row.Quiet x is served done =
      absurd (let busy = sym (ap (λ (z : Done). busy_at h z.left) (same_Some _ x served)) ∙ busy_after m host (operated op (machine_of m host))
      (Some (task_on s (given op (machine_of m host)))) _ is in cc)
  note_ends m host s op row.Mark x is served done =
      absurd (let busy = sym (ap (λ (z : Done). busy_at h z.left) (same_Some _ x served)) ∙ busy_after m host (operated op (machine_of m host))
      (Some (task_on s (given op (machine_of m host)))) _ is in cc)
  note_ends m host s op (row.Found n) x is served done =
      absurd (let busy = sym (ap (λ (z : Done). busy_at h z.left) (same_Some _ x served)) ∙ busy_after m host (operated op (machine_of m host))
      (Some (task_on s (given op (machine_of m host)))) _ is in cc)
  note_ends m host s op (row.Writing seq e) x is served done =
      absurd (let busy = sym (ap (λ (z : Done). busy_at h z.left) (same_Some _ x served)) ∙ busy_after m host (operated op (machine_of m host))
      (Some (task_on s (given op (machine_of m host)))) _ is in cc)

  served_ends : (m : Machines) (host : HostState) (s : TaskState) (op : Op) (o : Option row.RowNote) (x : Done) → slice_get m.hosts h ≡ Some host
      → served h m host s op o ≡ Some x → busy_at h x.left ≡ false → (given : Reply) × (x.notes ≡ Answered h (Replied given) ∷ [])
  served_ends m host s op None x is served done = absurd cc
  served_ends m host s op (Some note) x is served done = note_ends m host s op note x is served done

  op_ends : (m : Machines) (host : HostState) (s : TaskState) (o : Option Op) (x : Done) → slice_get m.hosts h ≡ Some host
      → op_done Passes h m host s o ≡ Some x → busy_at h x.left ≡ false → (given : Reply) × (x.notes ≡ Answered h (Replied given) ∷ [])
  op_ends m host s None x is passes done = absurd cc
  op_ends m host s (Some op) x is passes done = served_ends m host s op (next_note s (length m.memory) (given op (machine_of m host))) x is passes done

  task_ends : (m : Machines) (host : HostState) (o : Option TaskState) (x : Done) → slice_get m.hosts h ≡ Some host
      → task_done Passes h m host o ≡ Some x → busy_at h x.left ≡ false → (given : Reply) × (x.notes ≡ Answered h (Replied given) ∷ [])
  task_ends m host None x is passes done = absurd cc
  task_ends m host (Some s) x is passes done = op_ends m host s (next_op s (length m.memory)) x is passes done

  operation_ends : (m : Machines) (x : Done) → operation Passes h m ≡ Some x → busy_at h x.left ≡ false → (given : Reply) × (x.notes ≡ Answered h (Replied given) ∷ [])
  unfolding operation
  operation_ends m x passes done = by_host (slice_get m.hosts h) refl passes
    where
      by_host : (o : Option HostState) → slice_get m.hosts h ≡ o → host_done Passes h m o ≡ Some x → (given : Reply) × (x.notes ≡ Answered h (Replied given) ∷ [])
      by_host None is passes = absurd cc
      by_host (Some host) is passes = task_ends m host host.task x is passes done

  -- nothing comes behind the answer
  none_behind : (count : ℕ) (state new : Machines) (rest : List Note) → busy_at h state ≡ false → DoesOperations h count state rest new → rest ≡ []
  none_behind zero state new rest idle o = o.0
  none_behind (suc count) state new rest idle (inl o) = o.1
  none_behind (suc count) state new rest idle (inr o) = absurd (let b = o.0 in cc)

  operates_end : (count : ℕ) (state new : Machines) (notes : List Note) → busy_at h state ≡ true → DoesOperations h count state notes new
      → busy_at h new ≡ false → IsFaultless notes → EndsInAnswer notes
  operates_end zero state new notes busy o done clean = absurd (let same = ap (busy_at h) o.1 in cc)
  operates_end (suc count) state new notes busy (inl o) done clean = absurd (let b = o.0 in cc)
  operates_end (suc count) state new notes busy (inr o) done clean = by_mid (operates_end count o.1 new o.3) (busy_at h o.1) refl
    where
      first_clean : IsFaultless o.2
      first_clean = clean_prefix o.2 o.3 notes o.6 clean

      rest_clean : IsFaultless o.3
      rest_clean = clean_rest o.2 o.3 notes o.6 clean

      by_mid : (busy_at h o.1 ≡ true → DoesOperations h count o.1 o.3 new → busy_at h new ≡ false → IsFaultless o.3 → EndsInAnswer o.3) → (b : Bool) → busy_at h o.1 ≡ b → EndsInAnswer notes
      by_mid later true is =
          let end = later is o.5 done rest_clean in
          record {
            prefix = o.2 ++ end.prefix;
            host = end.host;
            given = end.given;
            is = o.6 ∙ ap (λ (z : List Note). o.2 ++ z) end.is
                ∙ sym (append_assoc o.2 end.prefix (Answered end.host (Replied end.given) ∷ []));
          }
      by_mid later false is =
          let end = operation_ends state (record { notes = o.2; left = o.1 }) (passes h state o.4.outcome (record { notes = o.2; left = o.1 }) o.4.is first_clean) is in
          let over = none_behind count o.1 new o.3 is o.5 in
          record { prefix = []; host = h; given = end.0; is = o.6 ∙ ap (λ (z : List Note). o.2 ++ z) over ∙ append-nil o.2 ∙ end.1 }

-- a run that isn't refused ends in an answer
pub run_ends : (files : Files) (name : List ℕ) (what : Ask) (old new : Session) (notes : List Note) → Continues Completes files name what old notes new → IsFaultless notes → EndsInAnswer notes
unfolding refusal_of
run_ends files name what old new notes x clean =
    by_host (call.Begins name x.begun.cmd) old.machines x.mid.machines x.first
    (subst (λ (o : Option Refusal). ByRefusal name o x.first old.machines x.mid.machines
    (Acts (call.Begins name x.begun.cmd) old.machines x.first x.mid.machines)) (begun_free files name what old x.mid x.first x.begun)
    x.begun.does) begun
  where
    begun : (h : ℕ) (host : HostState) → number_of name old.machines ≡ Some h → slice_get old.machines.hosts h ≡ Some host
        → ActsAt (call.Begins name x.begun.cmd) h host old.machines x.first x.mid.machines → EndsInAnswer notes
    begun h host number is at =
        let numbers : x.host ≡ h =
        same_Some x.host h (sym x.number ∙ ap (number_of name) at.1 ∙ place_same (has_name name)
        (λ z. record z { task = Some (task_begun host.kept x.begun.cmd host.uuid) }) (λ z. refl) h 0 old.machines.hosts ∙ number) in
        let busy : busy_at x.host x.mid.machines ≡ true =
        ap (λ (n : ℕ). busy_at n x.mid.machines) numbers ∙ ap (busy_at h) at.1
        ∙ ap is_busy_host (changed_at_member h (λ z. record z { task = Some (task_begun host.kept x.begun.cmd host.uuid) }) old.machines.hosts
        host is) in
        let end = operates_end x.host x.does.count x.mid.machines new.machines x.rest busy x.does.does x.does.done (clean_rest x.first x.rest notes x.joined clean) in
        record {
          prefix = x.first ++ end.prefix;
          host = end.host;
          given = end.given;
          is = x.joined ∙ ap (λ (z : List Note). x.first ++ z) end.is
              ∙ sym (append_assoc x.first end.prefix (Answered end.host (Replied end.given) ∷ []));
        }
