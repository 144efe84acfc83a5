-- One operation of a task that the media served: it is a row of the machine, and the world is held again.
use Rattle.std.proofs.Common.{◌≡◌, ◌≢◌, ℕ, ◌*◌, ◌≤◌, List, ◌++◌, length, Option, Some, None, inl, inr, refl, ap, ap₂, sym, ◌∙◌, subst}
use Rattle.std.specs.Prelude.{slice_get, unwrap_or}
use Rattle.std.proofs.lemmas.Bool.{cases_eq}
use Rattle.std.proofs.lemmas.Option.{same_Some}
use Rattle.fam_base.specs.declared.cmd.Cmd.{Cmd}
use Rattle.fam_base.specs.Image.{Image, line_at}
use Rattle.fam_machine.specs.Caches.{Cache}
use Rattle.fam_machine.specs.Operations.{Machine, given, operated, IsInImage}
use Rattle.fam_commands.specs.Keeping.{kept_after}
use Rattle.fam_commands.specs.Kept.{IsKept, Kept}
use Rattle.fam_commands.specs.Stands.{StandsFor, note_of, task_after, turn_given}
use Rattle.fam_commands.specs.Task.{Task, op_of}
use Rattle.fam_commands.specs.Turns.{Turn, Writes}
use Rattle.fam_protocol.specs.After.{Run}
use Rattle.fam_protocol.specs.SharedState.{SharedState}
use Rattle.fam_protocol.specs.Steps.{StepHolds, Steps, TurnSays, run_after, settled_count, turn_settles}
use Rattle.fam_protocol.specs.Invariant.{Hosts, Settled, Small, Damaged, Known, InvariantBy, Invariant}
use Rattle.fam_machine.proofs.OneOperation.{operated_length, operated_normal}
use Rattle.fam_protocol.proofs.Hosts.Steps.{invariant_stepped}
use Rattle.fam_rules.specs.Asks.{File}
use Rattle.fam_rules.specs.Place.{line_bytes}
use Rattle.fam_journal.specs.View.{HostStands, HostView, HostStandsAt, StandsAs, TaskStands, WorldView}
use Rattle.fam_journal.specs.Kept.{Agrees, HostTold, IfHalted, IfRuns, IsCleared, TaskTold, ToldAt, hosts_of, run_at, protocol_run, run_with, shared_of, settled_of, uuid_at}
use Rattle.fam_base.specs.declared.entry.Entry.{Entry}
use Rattle.fam_base.specs.declared.entry.Params.{Params}
use Rattle.fam_format.specs.Layout.{least_lines}
use Rattle.fam_format.specs.Reading as read
use Rattle.fam_format.specs.Reading.{Lines, reading_of}
use Rattle.fam_protocol.specs.Bad.{MaySayBad}
use Rattle.fam_journal.specs.Laws.{IsOwnDamage}
use Rattle.fam_journal.specs.Legal.{LegalBehind}
use Rattle.fam_journal.specs.Machines as machine
use Rattle.fam_journal.specs.Machines.{HostState, Machines, Passes, TaskState, machine_of, notes_of, operation, task_on, with_parts}
use Rattle.fam_journal.specs.Members.{changed_at}
use Rattle.fam_journal.specs.Notes.{Note}
use Rattle.fam_journal.specs.Past as past
use Rattle.fam_journal.specs.Past.{Damage, FewLines, Given, Halted, State, Bad, Sound, HostPast, Past, first_past, past_behind, past_of, settled_length}
use Rattle.fam_journal.proofs.Settled.BadStates.{bad_own, first_read, start_kept}
use Rattle.fam_journal.proofs.Settled.DamagedTurns.{bad_settles, bad_stays, cleared_legal, damaged_legal}
use Rattle.fam_journal.proofs.Settled.Journals.{legal_both, past_both}
use Rattle.fam_journal.proofs.Settled.OverMemory.{known_free, over_memory, still_cleared}
use Rattle.fam_journal.proofs.Calls.Members.{changed_at_member, changed_other}
use Rattle.fam_journal.proofs.Settled.SoundTurns.{KeepsCommand, sound_legal, sound_settles}
use Rattle.fam_journal.proofs.Calls.TaskRows.{kept_joined, row_served, task_stands}
use Rattle.fam_journal.proofs.Calls.Hosts.{kept_else, kept_here, kept_was}
use Rattle.fam_journal.proofs.Settled.TaskTurns.{next_command, run_same, settled_same, task_told, told_here, told_name, told_other, told_uuid}
use Rattle.fam_protocol.proofs.Hosts.Acts.{operates_by}
use Rattle.fam_journal.proofs.Calls.Views.{acts_at}

-- The bridge: what the protocol says of a turn is what the journal asks of its note.

pub record Bridged (x : Past) (now : Lines) (h : ℕ) (turn : Turn) : Type 0 where
  pub legal : LegalBehind x (notes_of h (note_of turn))
  pub settles : settled_of (past_behind x (notes_of h (note_of turn))).state now ≡ turn_settles turn (settled_of x.state now)
  pub halted : IfHalted (past_behind x (notes_of h (note_of turn))).state now

module _ (start : Image) (hosts : List HostPast) (h : ℕ) (told : HostPast) (host_is : slice_get hosts h ≡ Some told) (kept : Option Kept) (cmd : Cmd)
    (uuid : List ℕ) (t : Task) (words : List ℕ) (made word : ℕ) (joined : IsKept kept)
    (standing : StandsFor kept cmd uuid (length start) t words made) (turn : Turn) (is : turn_given t word ≡ turn) (was : TaskTold t told)
    (me : told.uuid ≡ t.me) (all_hosts : Hosts) (shared : SharedState) (now : Lines) where
  keeps_command : (p : Params) (history : List File) (pending : Option File) (have : ℕ) (uuids : ℕ → Option (List ℕ)) (master : Option ℕ) (x : Turn)
      → turn ≡ x → KeepsCommand p history pending start hosts h told host_is t was.cmd me have uuids master x
  keeps_command p history pending have uuids master (Writes seq entry next) e = next_command kept cmd uuid (length start) t words made word joined standing turn is next (ap task_after e)
  keeps_command p history pending have uuids master c e = tt

  -- a damaged image has as many lines as the one that was handed in
  damaged_bridged : (image : Image) (damage : Damage) (g : ℕ) → IsOwnDamage (length start) image damage g → least_lines ≤ length start
      → ((p : Params) (entries : List Entry) → reading_of (line_at image) (line_bytes * length start) ≢ read.Sound p entries)
      → MaySayBad turn (line_at image) (line_bytes * length start) t → Bridged (record { start = start; state = Bad (Given image) damage g; hosts = hosts }) now h turn
  damaged_bridged image damage g own enough bad says = record {
    legal = damaged_legal start image (Bad (Given image) damage g) hosts h told host_is t was.cmd me (sym own.reads ∙ first_read image (subst (λ (n : ℕ). least_lines ≤ n) (sym own.lines_are) enough))
        (subst (λ (n : ℕ). (p : Params) (entries : List Entry) → reading_of (line_at image) (line_bytes * n) ≢ read.Sound p entries) (sym own.lines_are) bad) turn
        (subst (λ (n : ℕ). MaySayBad turn (line_at image) (line_bytes * n) t) (sym own.lines_are) says);
    settles = bad_settles now start hosts h (Given image) damage g turn;
    halted = subst (λ (s : State). IfHalted s now) (sym (bad_stays start hosts h (Given image) damage g turn)) tt;
  }

  -- behind a mkfs whose maker halted there is no superblock
  cleared_bridged : (damage : Damage) (g : ℕ) → IsCleared damage now → MaySayBad turn now (line_bytes * length start) t
      → Bridged (record { start = start; state = Bad Halted damage g; hosts = hosts }) now h turn
  cleared_bridged damage g cleared says = record {
    legal = cleared_legal start now (line_bytes * length start) damage g cleared hosts h told host_is t turn says;
    settles = bad_settles now start hosts h Halted damage g turn;
    halted = subst (λ (s : State). IfHalted s now) (sym (bad_stays start hosts h Halted damage g turn)) cleared;
  }

  pub bridged : (state : State) → ((i : Image) (d : Damage) (g : ℕ) → state ≡ Bad (Given i) d g → IsOwnDamage (length start) i d g)
      → IfHalted state now → InvariantBy (settled_of state now) (length start) all_hosts shared
      → TurnSays turn (protocol_run t told) (settled_of state now) (length start) all_hosts → Bridged (record { start = start; state = state; hosts = hosts }) now h turn
  bridged (Sound p history pending) first halted stage says = record {
    legal = sound_legal p history pending start hosts h told host_is t was.cmd me (line_bytes * length start) all_hosts.uuid says.master turn says.may;
    settles = settled;
    halted = known_free _ now p _ _ settled;
  }
    where
      settled : settled_of (past_behind (record { start = start; state = Sound p history pending; hosts = hosts }) (notes_of h (note_of turn))).state
          now ≡ turn_settles turn (settled_of (Sound p history pending) now)
      settled = sound_settles p history pending start hosts h told host_is t was.cmd me (line_bytes * length start) all_hosts.uuid says.master now
          turn says.may (keeps_command p history pending (line_bytes * length start) all_hosts.uuid says.master turn refl)
  bridged (Bad (Given image) (FewLines lines) g) first halted stage says = absurd says
  bridged (Bad (Given image) (past.NoSuperblock fault) g) own halted stage says = damaged_bridged image (past.NoSuperblock fault) g
      (own image (past.NoSuperblock fault) g refl) stage.enough stage.still.bad says
  bridged (Bad (Given image) (past.BadHeader fault) g) own halted stage says = damaged_bridged image (past.BadHeader fault) g
      (own image (past.BadHeader fault) g refl) stage.enough stage.still.bad says
  bridged (Bad (Given image) (past.BadSlot i reason) g) own halted stage says = damaged_bridged image (past.BadSlot i reason) g
      (own image (past.BadSlot i reason) g refl) stage.enough stage.still.bad says
  bridged (Bad Halted (FewLines lines) g) first halted stage says = absurd says
  bridged (Bad Halted (past.NoSuperblock fault) g) own halted stage says = cleared_bridged (past.NoSuperblock fault) g halted says
  bridged (Bad Halted (past.BadHeader fault) g) own halted stage says = cleared_bridged (past.BadHeader fault) g halted says
  bridged (Bad Halted (past.BadSlot i reason) g) own halted stage says = cleared_bridged (past.BadSlot i reason) g halted says

-- What is known of a host that has a task.

pub find_host : (lines : ℕ) (view : HostView) (o : Option HostState) → HostStandsAt lines o (Some view) → (host : HostState) × (o ≡ Some host) × HostStands lines host view
find_host lines view None stands = absurd stands
find_host lines view (Some x) stands = (x, refl, stands)

pub find_task : (lines : ℕ) (t : Task) (o : Option TaskState) → TaskStands lines o (Some t) → (s : TaskState) × (o ≡ Some s) × StandsAs lines s t
find_task lines t None stands = absurd stands
find_task lines t (Some s) stands = (s, refl, stands)

-- the host of a task is declared with the task's UUID
pub me_of : (s : Settled) (lines : ℕ) (hosts : Hosts) (shared : SharedState) (h : ℕ) (r : Run) → InvariantBy s lines hosts shared → hosts.run h ≡ Some r → hosts.uuid h ≡ Some r.task.me
me_of (Small image) lines hosts shared h r stage run = absurd (let none = stage.idle h in cc)
me_of (Damaged image) lines hosts shared h r stage run = (stage.tasks h r run).me
me_of (Known p all settled) lines hosts shared h r stage run = (stage.tasks h r run).me

module _ (start : Image) (state : Machines) (world : WorldView) (held : Agrees start state world state.memory) (h : ℕ) (view : HostView)
    (view_is : slice_get world.hosts h ≡ Some view) (t : Task) (runs : view.task ≡ Some t)
    (inside : IsInImage (op_of t) (record { image = state.memory; cache = view.cache })) where
  abbrev m : Machine
  m = record { image = state.memory; cache = view.cache }

  abbrev after : Machine
  after = operated (op_of t) m

  abbrev word : ℕ
  word = unwrap_or (given (op_of t) m) 0

  abbrev x : Past
  x = past_of start world.journal

  module _ (told : HostPast) (told_is : slice_get x.hosts h ≡ Some told) (host_told : HostTold view told) (host : HostState)
      (host_is : slice_get state.hosts h ≡ Some host) (host_stands : HostStands (length start) host view) (s : TaskState) (s_is : host.task ≡ Some s)
      (standing : StandsAs (length start) s t) (turn : Turn) (is : turn_given t word ≡ turn) where
    abbrev notes : List Note
    notes = notes_of h (note_of turn)

    abbrev changed : HostView → HostView
    changed v = record v { cache = after.cache; task = task_after turn; kept = kept_after turn t v.kept }

    abbrev views : List HostView
    views = changed_at h changed world.hosts

    abbrev y : Past
    y = past_behind x notes

    abbrev next_state : Machines
    next_state = with_parts h after (machine.task_behind (note_of turn) (task_on s (given (op_of t) m))) (kept_after turn t host.kept) state

    abbrev next_world : WorldView
    next_world = record { hosts = views; journal = world.journal ++ notes }

    -- The row of the machine.

    lines_are : length state.memory ≡ length start
    lines_are = held.lines

    machine_is : machine_of state host ≡ m
    machine_is = ap (λ (c : Cache). record { image = state.memory; cache = c }) host_stands.cache

    pub row_done : operation Passes h state ≡ Some (record { notes = notes; left = next_state })
    row_done = row_served state h host host_is s s_is (length start) lines_are t standing m machine_is turn is

    -- What the protocol says.

    abbrev now : Lines
    now = line_at state.memory

    abbrev settled : Settled
    settled = settled_of x.state now

    abbrev old_hosts : Hosts
    old_hosts = hosts_of world.hosts x.hosts

    run_is : old_hosts.run h ≡ Some (protocol_run t told)
    run_is = ap₂ run_at view_is told_is ∙ ap (λ (o : Option Task). run_with o (Some told)) runs

    uuid_same : (k : ℕ) → uuid_at (slice_get views k) ≡ uuid_at (slice_get world.hosts k)
    uuid_same k =
        elim (cases_eq k h) [
          | inl e ↦
              subst (λ (n : ℕ). uuid_at (slice_get views n) ≡ uuid_at (slice_get world.hosts n)) (sym e)
              (ap uuid_at (changed_at_member h changed world.hosts view view_is) ∙ ap uuid_at (sym view_is))
          | inr ne ↦ ap uuid_at (changed_other h k changed world.hosts ne)
        ]

    steps : Steps h word settled (protocol_run t told) old_hosts (hosts_of views y.hosts) (shared_of state.memory world.hosts) (shared_of after.image views)
    steps = record {
      is = run_is;
      operates = operates_by h m (shared_of state.memory world.hosts) (shared_of (operated (op_of t) m).image (changed_at h changed world.hosts))
          (op_of t) (acts_at world.hosts h view view_is changed state.memory (operated (op_of t) m) refl) held.invariant.wide inside;
      uuids = uuid_same;
      mine =
          ap₂ run_at (changed_at_member h changed world.hosts view view_is) (told_here x h turn told told_is)
          ∙ run_same turn (settled_length x.state) t told
          ∙ ap (λ (n : ℕ). run_after turn n (protocol_run t told)) (sym (settled_same x.state now))
          ∙ ap (λ (z : Turn). run_after z (settled_count settled) (protocol_run t told)) (sym is);
      runs = λ k ne. ap₂ run_at (changed_other h k changed world.hosts ne) (told_other x h turn k ne);
      keeps =
          kept_here h view world.hosts view_is changed
          ∙ ap (λ (z : Turn). kept_after z t view.kept) (sym is)
          ∙ ap (kept_after (turn_given t word) t) (sym (kept_was h view world.hosts view_is changed));
      kept = λ k ne. kept_else h view world.hosts view_is changed k ne;
    }

    step_holds : StepHolds settled (length start) word (protocol_run t told) old_hosts (hosts_of views y.hosts) (shared_of after.image views)
    step_holds = invariant_stepped (length start) h word settled (protocol_run t told) old_hosts (hosts_of views y.hosts)
        (shared_of state.memory world.hosts) (shared_of after.image views) held.invariant steps

    task_was : TaskTold t told
    task_was = subst (λ (o : Option Task). IfRuns o told) runs host_told.task

    me_is : told.uuid ≡ t.me
    me_is =
        same_Some told.uuid t.me
        (ap Some host_told.uuid ∙ ap uuid_at (sym view_is) ∙ me_of settled (length start) old_hosts (shared_of state.memory world.hosts) h (protocol_run t told) held.invariant.stage run_is)

    bridge : Bridged x now h turn
    bridge =
        subst (λ (i : Image). Bridged (record { start = i; state = x.state; hosts = x.hosts }) now h turn) (sym (start_kept world.journal (first_past start)))
        (bridged start x.hosts h told told_is s.kept s.cmd s.me t s.words s.made word standing.joined standing.stands turn is task_was me_is old_hosts (shared_of state.memory world.hosts) now x.state
        (λ i d g e. bad_own start i d g world.journal e) held.halted held.invariant.stage
        (subst (λ (z : Turn). TurnSays z (protocol_run t told) settled (length start) old_hosts) is step_holds.says))

    settles : settled_of y.state now ≡ turn_settles turn settled
    settles = bridge.settles

    invariant_next : Invariant (settled_of y.state now) (length start) (hosts_of views y.hosts) (shared_of after.image views)
    invariant_next = subst (λ (z : Settled). Invariant z (length start) (hosts_of views y.hosts) (shared_of after.image views))
        (ap (λ (z : Turn). turn_settles z settled) is ∙ sym settles) step_holds.invariant

    -- The world again.

    abbrev host_on : HostState → HostState
    host_on z = record z { cache = after.cache; task = machine.task_behind (note_of turn) (task_on s (given (op_of t) m)); kept = kept_after turn t host.kept }

    keeps_history : IsKept (kept_after turn t view.kept)
    keeps_history =
        subst (λ (k : Option Kept). IsKept (kept_after turn t k)) host_stands.kept
        (kept_joined state h host host_is s s_is (length start) lines_are t standing m machine_is turn is (subst IsKept (sym host_stands.kept) host_stands.joined))

    stands_on : (k : ℕ) → HostStandsAt (length start) (slice_get next_state.hosts k) (slice_get views k)
    stands_on k =
        elim (cases_eq k h) [
          | inl e ↦ subst (λ (n : ℕ). HostStandsAt (length start) (slice_get next_state.hosts n) (slice_get views n)) (sym e) mine
          | inr ne ↦ other ne
        ]
      where
        mine : HostStandsAt (length start) (slice_get next_state.hosts h) (slice_get views h)
        mine =
            subst (λ (o : Option HostState). HostStandsAt (length start) o (slice_get views h)) (sym (changed_at_member h host_on state.hosts host host_is))
            (subst (λ (o : Option HostView). HostStandsAt (length start) (Some (host_on host)) o) (sym (changed_at_member h changed world.hosts view view_is))
            record {
              name = host_stands.name;
              uuid = host_stands.uuid;
              cache = refl;
              task = task_stands state h host host_is s s_is
                  (length start) lines_are t standing m machine_is turn is;
              kept = ap (kept_after turn t) host_stands.kept;
              joined = keeps_history;
            })

        other : k ≢ h → HostStandsAt (length start) (slice_get next_state.hosts k) (slice_get views k)
        other ne =
            subst (λ (o : Option HostState). HostStandsAt (length start) o (slice_get views k)) (sym (changed_other h k host_on state.hosts ne))
            (subst (λ (o : Option HostView). HostStandsAt (length start) (slice_get state.hosts k) o) (sym (changed_other h k changed world.hosts ne)) (held.stands k))

    told_on : (k : ℕ) → ToldAt (slice_get views k) (slice_get y.hosts k)
    told_on k =
        elim (cases_eq k h) [
          | inl e ↦ subst (λ (n : ℕ). ToldAt (slice_get views n) (slice_get y.hosts n)) (sym e) mine
          | inr ne ↦ other ne
        ]
      where
        mine : ToldAt (slice_get views h) (slice_get y.hosts h)
        mine =
            subst (λ (o : Option HostView). ToldAt o (slice_get y.hosts h)) (sym (changed_at_member h changed world.hosts view view_is))
            (subst (λ (o : Option HostPast). ToldAt (Some (changed view)) o) (sym (told_here x h turn told told_is))
            record {
              name = told_name turn (settled_length x.state) told ∙ host_told.name;
              uuid = told_uuid turn (settled_length x.state) told ∙ host_told.uuid;
              task = task_told s.kept s.cmd s.me (length start) t s.words s.made word standing.joined standing.stands turn is told task_was turn (settled_length x.state) refl;
            })

        other : k ≢ h → ToldAt (slice_get views k) (slice_get y.hosts k)
        other ne =
            subst (λ (o : Option HostView). ToldAt o (slice_get y.hosts k)) (sym (changed_other h k changed world.hosts ne))
            (subst (λ (o : Option HostPast). ToldAt (slice_get world.hosts k) o) (sym (told_other x h turn k ne)) (held.told k))

    past_is : past_of start next_world.journal ≡ y
    past_is = past_both (first_past start) world.journal notes

    pub held_next : Agrees start next_state next_world next_state.memory
    held_next = record {
      memory = refl;
      lines = operated_length (op_of t) m ∙ held.lines;
      normal = operated_normal (op_of t) m held.normal;
      first = held.first;
      limit = held.limit;
      stands = stands_on;
      told = λ k. subst (λ (z : Past). ToldAt (slice_get views k) (slice_get z.hosts k)) (sym past_is) (told_on k);
      legal = legal_both (first_past start) world.journal notes held.legal bridge.legal;
      halted = subst (λ (z : Past). IfHalted z.state (line_at after.image)) (sym past_is)
          (still_cleared now (length start) (hosts_of views y.hosts) (shared_of after.image views) y.state invariant_next bridge.halted);
      invariant = subst (λ (z : Past). Invariant (settled_of z.state (line_at after.image)) (length start) (hosts_of views z.hosts) (shared_of after.image views)) (sym past_is)
          (over_memory now (length start) (hosts_of views y.hosts) (shared_of after.image views) y.state invariant_next);
    }
