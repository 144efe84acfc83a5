-- The rows of the world's calls but a task's operation and mkfs: a refusal, a command that begins, a stop, a halt, an
-- umount, a cache's own move, and what is left where the media fails. The world is held again.
use Rattle.std.proofs.Common.{◌≡◌, ◌≢◌, ℕ, ◌<◌, ◌≤◌, List, [], ◌∷◌, ◌++◌, length, Option, Some, None, inl, inr, refl, ap, ap₂, sym, ◌∙◌, subst}
use Rattle.std.specs.Prelude.{slice_get}
use Rattle.std.specs.FinMap as finmap
use Rattle.std.proofs.Math.Path.{fun_ext}
use Rattle.std.proofs.lemmas.Bool.{cases_eq}
use Rattle.fam_base.specs.declared.cmd.Cmd.{Cmd}
use Rattle.fam_base.specs.Image.{Image, line_at, with_line}
use Rattle.fam_base.proofs.ImageLemmas.{length-with_line, normal-with_line}
use Rattle.fam_format.specs.Layout.{least_lines}
use Rattle.fam_machine.specs.declared.cell.Cell.{Cell}
use Rattle.fam_machine.specs.Caches.{cell_at, with_cell}
use Rattle.fam_machine.specs.Moves.{Transfers}
use Rattle.fam_machine.specs.Operations.{machine}
use Rattle.fam_commands.specs.Stands as standing
use Rattle.fam_commands.specs.Kept.{Kept}
use Rattle.fam_commands.specs.Task.{Task, mounted}
use Rattle.fam_machine.proofs.CacheLemmas.{cell_at-empty}
use Rattle.fam_protocol.specs.After.{Run}
use Rattle.fam_protocol.specs.Events.{Stops}
use Rattle.fam_protocol.specs.SharedState.{TransfersAt, SharedState}
use Rattle.fam_protocol.specs.Tasks.{IsCommand}
use Rattle.fam_protocol.specs.Invariant.{Hosts, Settled, Invariant}
use Rattle.fam_protocol.proofs.Hosts.Events.{invariant_begun, invariant_halted, invariant_stopped}
use Rattle.fam_protocol.proofs.Hosts.Steps.{invariant_transferred}
use Rattle.fam_journal.specs.declared.refusal.Refusal.{Refusal}
use Rattle.fam_journal.specs.View.{HostStands, HostView, HostStandsAt, TaskStands, WorldView}
use Rattle.fam_journal.specs.Kept.{Agrees, HostTold, ToldAt, copy_at, hosts_of, kept_at, run_at, run_with, shared_of, settled_of, uuid_at}
use Rattle.fam_journal.specs.Machines.{HostState, Machines, task_begun, with_kept, with_parts, with_machine, with_task}
use Rattle.fam_journal.specs.Members.{changed_at}
use Rattle.fam_journal.specs.Notes.{Halt, Umount, Refused, Start, Stop}
use Rattle.fam_journal.specs.Past.{HostPast, Past, past_behind, past_of}
use Rattle.fam_journal.proofs.Calls.Hosts.{held_with, kept_else, kept_here, kept_same, kept_was, run_here, runs_else, stands_changed, told_changed, uuids_same}
use Rattle.fam_journal.proofs.Settled.OverMemory.{over_memory, still_cleared}
use Rattle.fam_protocol.proofs.Hosts.Acts.{transfers_by}
use Rattle.fam_journal.proofs.Calls.Views.{acts_at}
use Rattle.fam_journal.proofs.Calls.Members.{changed_at_member, changed_other}

-- a refusal adds its note
pub refused_held : (start : Image) (state : Machines) (world : WorldView) → Agrees start state world state.memory → (name : List ℕ) (cause : Refusal)
    → Agrees start state (record { hosts = world.hosts; journal = world.journal ++ Refused name cause ∷ [] }) state.memory
refused_held start state world held name cause =
    held_with start state world state.memory held state world.hosts (Refused name cause ∷ []) (line_at state.memory) held.lines held.normal (tt, tt) held.stands held.told held.halted held.invariant

-- what is known of a declared host
pub record Declared (start : Image) (state : Machines) (world : WorldView) (h : ℕ) : Type 0 where
  pub view : HostView
  pub view_is : slice_get world.hosts h ≡ Some view
  pub host : HostState
  pub host_is : slice_get state.hosts h ≡ Some host
  pub stands : HostStands (length start) host view
  pub told : HostPast
  pub told_is : slice_get (past_of start world.journal).hosts h ≡ Some told
  pub host_told : HostTold view told

pub declared : (start : Image) (state : Machines) (world : WorldView) (image : Image) → Agrees start state world image → (h : ℕ) (host : HostState)
    → slice_get state.hosts h ≡ Some host → Declared start state world h
declared start state world image held h host host_is = by_view (slice_get world.hosts h) refl
  where
    by_told : (view : HostView) → slice_get world.hosts h ≡ Some view → HostStands (length start) host view → (o : Option HostPast)
        → slice_get (past_of start world.journal).hosts h ≡ o → Declared start state world h
    by_told view view_is stands None told_is =
        absurd (subst (λ (o : Option HostPast). ToldAt (Some view) o) told_is (subst (λ (o : Option HostView). ToldAt o (slice_get (past_of start world.journal).hosts h)) view_is (held.told h)))
    by_told view view_is stands (Some told) told_is = record {
      view = view;
      view_is = view_is;
      host = host;
      host_is = host_is;
      stands = stands;
      told = told;
      told_is = told_is;
      host_told = subst (λ (o : Option HostPast). ToldAt (Some view) o) told_is (subst (λ (o : Option HostView). ToldAt o (slice_get (past_of start world.journal).hosts h)) view_is (held.told h));
    }

    by_view : (o : Option HostView) → slice_get world.hosts h ≡ o → Declared start state world h
    by_view None is =
        absurd (subst (λ (o : Option HostView). HostStandsAt (length start) (Some host) o) is
        (subst (λ (o : Option HostState). HostStandsAt (length start) o (slice_get world.hosts h)) host_is (held.stands h)))
    by_view (Some view) is =
        by_told view is
        (subst (λ (o : Option HostView). HostStandsAt (length start) (Some host) o) is
        (subst (λ (o : Option HostState). HostStandsAt (length start) o (slice_get world.hosts h)) host_is (held.stands h)))
        (slice_get (past_of start world.journal).hosts h) refl

module _ (start : Image) (state : Machines) (world : WorldView) (held : Agrees start state world state.memory) (h : ℕ) (d : Declared start state world h) where
  abbrev x : Past
  x = past_of start world.journal

  abbrev settled : Settled
  settled = settled_of x.state (line_at state.memory)

  -- where a change of the host keeps its cache, the protocol sees the same
  cache_kept : (change : HostView → HostView) → ((l : ℕ) → copy_at (Some (change d.view)) l ≡ copy_at (Some d.view) l) → (image : Image)
      → shared_of image (changed_at h change world.hosts) ≡ shared_of image world.hosts
  cache_kept change keeps image = ap (λ (copy : ℕ → ℕ → Cell). record { memory = line_at image; copy = copy }) (fun_ext (λ k. fun_ext (λ l. copies k l)))
    where
      copies : (k l : ℕ) → copy_at (slice_get (changed_at h change world.hosts) k) l ≡ copy_at (slice_get world.hosts k) l
      copies k l =
          elim (cases_eq k h) [
            | inl e ↦
                subst (λ (n : ℕ). copy_at (slice_get (changed_at h change world.hosts) n) l ≡ copy_at (slice_get world.hosts n) l) (sym e)
                (ap (λ (o : Option HostView). copy_at o l) (changed_at_member h change world.hosts d.view d.view_is) ∙ keeps l ∙ ap (λ (o : Option HostView). copy_at o l) (sym d.view_is))
            | inr ne ↦ ap (λ (o : Option HostView). copy_at o l) (changed_other h k change world.hosts ne)
          ]

  -- A command begins.

  module _ (cmd : Cmd) (command : IsCommand cmd) (enough : least_lines ≤ length start) where
    abbrev begins : HostView → HostView
    begins v = record v { task = Some (mounted d.view.kept cmd d.view.uuid (length start)) }

    abbrev told_begun : HostPast
    told_begun = record d.told { cmd = Some cmd; floor = None; wrote = None }

    abbrev y : Past
    y = past_behind x (Start h cmd ∷ [])

    begun_told_is : slice_get y.hosts h ≡ Some told_begun
    begun_told_is = changed_at_member h (λ (z : HostPast). record z { cmd = Some cmd; floor = None; wrote = None }) x.hosts d.told d.told_is

    begun_told_else : (k : ℕ) → k ≢ h → slice_get y.hosts k ≡ slice_get x.hosts k
    begun_told_else k ne = changed_other h k (λ (z : HostPast). record z { cmd = Some cmd; floor = None; wrote = None }) x.hosts ne

    begun_shared : shared_of state.memory (changed_at h begins world.hosts) ≡ shared_of state.memory world.hosts
    begun_shared = cache_kept begins (λ l. refl) state.memory

    pub begun_held : Agrees start (with_task h (Some (task_begun d.host.kept cmd d.host.uuid)) state)
        (record { hosts = changed_at h begins world.hosts; journal = world.journal ++ Start h cmd ∷ [] }) state.memory
    begun_held =
        held_with start state world state.memory held (with_task h (Some (task_begun d.host.kept cmd d.host.uuid)) state)
        (changed_at h begins world.hosts) (Start h cmd ∷ []) (line_at state.memory) held.lines held.normal (tt, tt)
        (stands_changed h d.view world.hosts d.view_is begins (length start) state.hosts d.host d.host_is (λ z. record z { task = Some (task_begun d.host.kept cmd d.host.uuid) })
        record {
          name = d.stands.name;
          uuid = d.stands.uuid;
          cache = d.stands.cache;
          task = subst (λ (k : Option Kept). TaskStands (length start) (Some (task_begun k cmd d.host.uuid)) (Some (mounted d.view.kept cmd d.view.uuid (length start)))) (sym d.stands.kept)
              (subst (λ (id : List ℕ). TaskStands (length start) (Some (task_begun d.view.kept cmd id))
              (Some (mounted d.view.kept cmd d.view.uuid (length start))))
              (sym d.stands.uuid) record { joined = d.stands.joined; stands = standing.starts });
          kept = d.stands.kept;
          joined = d.stands.joined;
        } held.stands)
        (told_changed h d.view world.hosts d.view_is begins x.hosts y.hosts told_begun begun_told_is begun_told_else
        record { name = d.host_told.name; uuid = d.host_told.uuid; task = record { cmd = refl } } held.told)
        held.halted
        (subst (λ (s : SharedState). Invariant settled (length start) (hosts_of (changed_at h begins world.hosts) y.hosts) s) (sym begun_shared)
        (invariant_begun settled (length start) h (hosts_of world.hosts x.hosts) (hosts_of (changed_at h begins world.hosts) y.hosts) (shared_of state.memory world.hosts) cmd enough held.invariant
        record {
          me = d.view.uuid;
          declared = ap uuid_at d.view_is;
          command = command;
          is =
              run_here h d.view world.hosts d.view_is begins y.hosts told_begun begun_told_is
              ∙ ap (λ (k : Option Kept). Some (record { task = mounted k cmd d.view.uuid (length start); floor = None; named = None })) (sym (kept_was h d.view world.hosts d.view_is begins));
          uuids = uuids_same h d.view world.hosts d.view_is begins refl;
          runs = runs_else h d.view world.hosts d.view_is begins x.hosts y.hosts begun_told_else;
          kept = kept_same h d.view world.hosts d.view_is begins refl;
        }))

  -- A task is dropped, and the cache stays.

  abbrev drops : HostView → HostView
  drops v = record v { task = None }

  pub dropped_shared : (image : Image) → shared_of image (changed_at h drops world.hosts) ≡ shared_of image world.hosts
  dropped_shared = cache_kept drops (λ l. refl)

  pub drops_stops : Stops h (hosts_of world.hosts x.hosts) (hosts_of (changed_at h drops world.hosts) x.hosts)
  drops_stops = record {
    is = run_here h d.view world.hosts d.view_is drops x.hosts d.told d.told_is;
    uuids = uuids_same h d.view world.hosts d.view_is drops refl;
    runs = runs_else h d.view world.hosts d.view_is drops x.hosts x.hosts (λ k ne. refl);
    mine = inl (kept_same h d.view world.hosts d.view_is drops refl h);
    kept = λ k ne. kept_else h d.view world.hosts d.view_is drops k ne;
  }

  pub drops_stands : (k : ℕ) → HostStandsAt (length start) (slice_get (changed_at h (λ (z : HostState). record z { task = None }) state.hosts) k) (slice_get (changed_at h drops world.hosts) k)
  drops_stands =
      stands_changed h d.view world.hosts d.view_is drops (length start) state.hosts d.host d.host_is (λ z. record z { task = None })
      record { name = d.stands.name; uuid = d.stands.uuid; cache = d.stands.cache; task = tt; kept = d.stands.kept; joined = d.stands.joined } held.stands

  pub drops_told : (k : ℕ) → ToldAt (slice_get (changed_at h drops world.hosts) k) (slice_get x.hosts k)
  drops_told =
      told_changed h d.view world.hosts d.view_is drops x.hosts x.hosts d.told d.told_is (λ k ne. refl)
      record { name = d.host_told.name; uuid = d.host_told.uuid; task = tt } held.told

  pub stopped_held : Agrees start (with_task h None state) (record { hosts = changed_at h drops world.hosts; journal = world.journal ++ Stop h ∷ [] }) state.memory
  stopped_held =
      held_with start state world state.memory held (with_task h None state) (changed_at h drops world.hosts) (Stop h ∷ [])
      (line_at state.memory) held.lines held.normal (tt, tt) drops_stands drops_told held.halted
      (subst (λ (s : SharedState). Invariant settled (length start) (hosts_of (changed_at h drops world.hosts) x.hosts) s) (sym (dropped_shared state.memory))
      (invariant_stopped settled (length start) h (hosts_of world.hosts x.hosts) (hosts_of (changed_at h drops world.hosts) x.hosts) (shared_of state.memory world.hosts) held.invariant drops_stops))

  -- A task and its host's cache are lost.

  abbrev halts : HostView → HostView
  halts v = record v { cache = finmap.empty; task = None; kept = None }

  pub halted_held : Agrees start (with_parts h (record { image = state.memory; cache = finmap.empty }) None None state)
      (record { hosts = changed_at h halts world.hosts; journal = world.journal ++ Halt h ∷ [] }) state.memory
  halted_held =
      held_with start state world state.memory held (with_parts h (record { image = state.memory; cache = finmap.empty }) None None state)
      (changed_at h halts world.hosts) (Halt h ∷ []) (line_at state.memory) held.lines held.normal (tt, tt)
      (stands_changed h d.view world.hosts d.view_is halts (length start) state.hosts d.host d.host_is (λ z. record z { cache = finmap.empty; task = None; kept = None })
      record { name = d.stands.name; uuid = d.stands.uuid; cache = refl; task = tt; kept = refl; joined = tt } held.stands)
      (told_changed h d.view world.hosts d.view_is halts x.hosts x.hosts d.told d.told_is (λ k ne. refl)
      record { name = d.host_told.name; uuid = d.host_told.uuid; task = tt } held.told)
      held.halted
      (invariant_halted settled (length start) h (hosts_of world.hosts x.hosts) (hosts_of (changed_at h halts world.hosts) x.hosts)
      (shared_of state.memory world.hosts) (shared_of state.memory (changed_at h halts world.hosts)) held.invariant
      record {
        is = run_here h d.view world.hosts d.view_is halts x.hosts d.told d.told_is;
        uuids = uuids_same h d.view world.hosts d.view_is halts refl;
        runs = runs_else h d.view world.hosts d.view_is halts x.hosts x.hosts (λ k ne. refl);
        mine = inr (kept_here h d.view world.hosts d.view_is halts);
        kept = λ k ne. kept_else h d.view world.hosts d.view_is halts k ne;
      }
      record {
        memory = λ l. refl;
        lost = λ l. ap (λ (o : Option HostView). copy_at o l) (changed_at_member h halts world.hosts d.view d.view_is) ∙ cell_at-empty l;
        hosts = λ k l ne. ap (λ (o : Option HostView). copy_at o l) (changed_other h k halts world.hosts ne);
      })

  -- What a host without a task keeps is forgotten.

  module _ (idle : d.view.task ≡ None) where
    abbrev forgets : HostView → HostView
    forgets v = record v { kept = None }

    forgets_stops : Stops h (hosts_of world.hosts x.hosts) (hosts_of (changed_at h forgets world.hosts) x.hosts)
    forgets_stops = record {
      is = run_here h d.view world.hosts d.view_is forgets x.hosts d.told d.told_is ∙ ap (λ (o : Option Task). run_with o (Some d.told)) idle;
      uuids = uuids_same h d.view world.hosts d.view_is forgets refl;
      runs = runs_else h d.view world.hosts d.view_is forgets x.hosts x.hosts (λ k ne. refl);
      mine = inr (kept_here h d.view world.hosts d.view_is forgets);
      kept = λ k ne. kept_else h d.view world.hosts d.view_is forgets k ne;
    }

    pub umounted_held : Agrees start (with_kept h None state) (record { hosts = changed_at h forgets world.hosts; journal = world.journal ++ Umount h ∷ [] }) state.memory
    umounted_held =
        held_with start state world state.memory held (with_kept h None state) (changed_at h forgets world.hosts) (Umount h ∷ []) (line_at state.memory) held.lines held.normal (tt, tt)
        (stands_changed h d.view world.hosts d.view_is forgets (length start) state.hosts d.host d.host_is (λ z. record z { kept = None })
        record { name = d.stands.name; uuid = d.stands.uuid; cache = d.stands.cache; task = d.stands.task; kept = refl; joined = tt } held.stands)
        (told_changed h d.view world.hosts d.view_is forgets x.hosts x.hosts d.told d.told_is (λ k ne. refl)
        record { name = d.host_told.name; uuid = d.host_told.uuid; task = d.host_told.task } held.told)
        held.halted
        (subst (λ (s : SharedState). Invariant settled (length start) (hosts_of (changed_at h forgets world.hosts) x.hosts) s) (sym (cache_kept forgets (λ l. refl) state.memory))
        (invariant_stopped settled (length start) h (hosts_of world.hosts x.hosts) (hosts_of (changed_at h forgets world.hosts) x.hosts)
        (shared_of state.memory world.hosts) held.invariant forgets_stops))

  -- A cache moves by itself at a line: memory has these words of it then, and the host this copy.

  module _ (line : ℕ) (within : line < length state.memory) (words : List ℕ) (cell : Cell)
      (transfers : Transfers (line_at state.memory line) (cell_at d.view.cache line) words cell) (wide : length words ≡ 8) where
    abbrev moves : HostView → HostView
    moves v = record v { cache = with_cell line cell d.view.cache }

    abbrev left : Image
    left = with_line line words state.memory

    moved_shared : TransfersAt h line (shared_of state.memory world.hosts) (shared_of left (changed_at h moves world.hosts))
    moved_shared =
        transfers_by h (machine state.memory d.view.cache) (shared_of state.memory world.hosts) (shared_of left (changed_at h moves world.hosts)) line words cell
        (acts_at world.hosts h d.view d.view_is moves state.memory (machine left (with_cell line cell d.view.cache)) refl) within wide transfers

    -- the same tasks
    moved_runs : hosts_of (changed_at h moves world.hosts) x.hosts ≡ hosts_of world.hosts x.hosts
    moved_runs =
        ap₂ (λ (u : ℕ → Option (List ℕ)) (r : ℕ → Option Run).
        record { uuid = u; run = r; kept = λ k. kept_at (slice_get (changed_at h moves world.hosts) k) })
        (fun_ext (uuids_same h d.view world.hosts d.view_is moves refl)) (fun_ext same)
        ∙ ap (λ (keeps : ℕ → Option Kept).
        record { uuid = λ k. uuid_at (slice_get world.hosts k); run = λ k. run_at (slice_get world.hosts k) (slice_get x.hosts k); kept = keeps })
        (fun_ext (kept_same h d.view world.hosts d.view_is moves refl))
      where
        same : (k : ℕ) → run_at (slice_get (changed_at h moves world.hosts) k) (slice_get x.hosts k) ≡ run_at (slice_get world.hosts k) (slice_get x.hosts k)
        same k =
            elim (cases_eq k h) [
              | inl e ↦
                  subst (λ (n : ℕ). run_at (slice_get (changed_at h moves world.hosts) n) (slice_get x.hosts n) ≡ run_at (slice_get world.hosts n) (slice_get x.hosts n)) (sym e)
                  (ap (λ (o : Option HostView). run_at o (slice_get x.hosts h)) (changed_at_member h moves world.hosts d.view d.view_is)
                  ∙ ap (λ (o : Option HostView). run_at o (slice_get x.hosts h)) (sym d.view_is))
              | inr ne ↦ ap (λ (o : Option HostView). run_at o (slice_get x.hosts k)) (changed_other h k moves world.hosts ne)
            ]

    moved_invariant : Invariant settled (length start) (hosts_of (changed_at h moves world.hosts) x.hosts) (shared_of left (changed_at h moves world.hosts))
    moved_invariant =
        subst (λ (hosts : Hosts). Invariant settled (length start) hosts (shared_of left (changed_at h moves world.hosts))) (sym moved_runs)
        (invariant_transferred (length start) (hosts_of world.hosts x.hosts) h line (shared_of state.memory world.hosts) (shared_of left (changed_at h moves world.hosts)) moved_shared
        (λ none. absurd (let is : uuid_at (slice_get world.hosts h) ≡ Some d.view.uuid = ap uuid_at d.view_is in cc)) settled held.invariant)

    -- no note is added
    pub moved_held : Agrees start (with_machine h (record { image = left; cache = with_cell line cell d.view.cache }) d.host.task state)
        (record { hosts = changed_at h moves world.hosts; journal = world.journal }) left
    moved_held = record {
      memory = refl;
      lines = length-with_line state.memory line words ∙ held.lines;
      normal = normal-with_line state.memory held.normal line words;
      first = held.first;
      limit = held.limit;
      stands = stands_changed h d.view world.hosts d.view_is moves (length start) state.hosts d.host d.host_is (λ z. record z { cache = with_cell line cell d.view.cache; task = d.host.task })
          record { name = d.stands.name; uuid = d.stands.uuid; cache = refl; task = d.stands.task; kept = d.stands.kept; joined = d.stands.joined } held.stands;
      told = told_changed h d.view world.hosts d.view_is moves x.hosts x.hosts d.told d.told_is (λ k ne. refl)
          record { name = d.host_told.name; uuid = d.host_told.uuid; task = d.host_told.task } held.told;
      legal = held.legal;
      halted = still_cleared (line_at state.memory) (length start) (hosts_of (changed_at h moves world.hosts) x.hosts)
          (shared_of left (changed_at h moves world.hosts)) x.state moved_invariant held.halted;
      invariant = over_memory (line_at state.memory) (length start) (hosts_of (changed_at h moves world.hosts) x.hosts) (shared_of left (changed_at h moves world.hosts)) x.state moved_invariant;
    }
