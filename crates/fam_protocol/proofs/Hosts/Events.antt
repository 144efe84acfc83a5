-- What keeps a way beside the operations of tasks: a host is declared, begins a command, is stopped or halts.
use Rattle.std.proofs.Common.{◌≡◌, ◌≢◌, ◌⊎◌, ℕ, ◌*◌, ◌<◌, ◌≤◌, Bool, true, false, List, length, Option, Some, None, inl, inr, refl, sym, ap, subst, ◌∙◌, arith}
use Rattle.std.proofs.Math.Path.{fun_ext}
use Rattle.std.proofs.lemmas.Bool.{cases_eq, false≢true}
use Rattle.std.proofs.lemmas.Slice.Eq.{bytes_eq-Decides}
use Rattle.std.specs.Prelude.{bytes_eq}
use Rattle.fam_base.specs.declared.cmd.Cmd.{Cmd}
use Rattle.fam_base.specs.declared.entry.Params.{Params}
use Rattle.fam_format.specs.Layout.{least_lines, gate_line}
use Rattle.fam_format.specs.Reading.{Lines}
use Rattle.fam_machine.specs.declared.cell.Cell.{Cell}
use Rattle.fam_machine.specs.declared.cell.Cell.TheVariants.{Absent}
use Rattle.fam_machine.specs.OneLine.{IsDirty, current}
use Rattle.fam_commands.specs.Task.{mounted}
use Rattle.fam_rules.specs.Asks.{File}
use Rattle.fam_rules.specs.Place.{line_bytes}
use Rattle.fam_protocol.specs.SharedState.{SharedState, Loses}
use Rattle.fam_protocol.specs.Lines.{gate_of, top}
use Rattle.fam_protocol.specs.Core.{System, Core, IsMaster, IsWide, masters_copy, top_of}
use Rattle.fam_protocol.specs.Tasks.{KeepsPrefix, TaskHolds, IsCommand}
use Rattle.fam_commands.specs.Kept.{Kept, used}
use Rattle.fam_commands.proofs.UsedCounts.{used_none}
use Rattle.fam_protocol.specs.After.{Run, HasNamed, HoldsNamed, HasMarked, IsMarked}
use Rattle.fam_protocol.specs.Bad.{BadTaskHolds}
use Rattle.fam_protocol.specs.Invariant.{Hosts, Settled, Small, Damaged, Known, AreHosts, IsSmall, IsDamaged, IsKnown, InvariantBy, Invariant}
use Rattle.fam_protocol.specs.Events.{Declares, Starts, Stops}
use Rattle.fam_protocol.proofs.Hosts.Bystanders.{with_copies, phase_kept, bad_phase_kept}

-- The core.

-- another system of the same parameters
abbrev pub with_hosts : System → (ℕ → Option (List ℕ)) → Option ℕ → System
with_hosts sys uuid master = record { params = sys.params; have = sys.have; uuid = uuid; master = master }

-- memory stays, no copy becomes dirty, and the top falls to no less than memory's gate
module _ (sys : System) (uuid : ℕ → Option (List ℕ)) (master : Option ℕ) (s : SharedState) (copy : ℕ → ℕ → Cell) (all : List File) (settled : ℕ) (core : Core sys s all settled) where
  -- fewer copies, and a master who may be declared only now
  pub core_fallen : IsMaster (with_hosts sys uuid master) → IsWide (with_copies s copy) → ((h : ℕ) → sys.master ≡ Some h → master ≡ Some h) → ((h l : ℕ) → IsDirty (copy h l) → IsDirty (s.copy h l))
      → gate_of (s.memory gate_line) ≤ top_of (with_hosts sys uuid master) (with_copies s copy) → top_of (with_hosts sys uuid master) (with_copies s copy) ≤ top_of sys s
      → Core (with_hosts sys uuid master) (with_copies s copy) all settled
  core_fallen named wide on dirty low high = record {
    wide = wide;
    head = record { sound = core.head.sound; device = core.head.device; super = core.head.super; header = core.head.header; clean = λ h l head d. core.head.clean h l head (dirty h l d) };
    named = named;
    only_master = λ h l d. on h (core.only_master h l (dirty h l d));
    low = core.low;
    order = low;
    high = omega (arith, core.high);
    near = core.near;
    room = core.room;
    history = core.history;
    stands = λ i f at below. let is = core.stands i f at (omega arith) in record { slot = is.slot; bytes = is.bytes };
    clean = λ i f h l at below line d. core.clean i f h l at (omega arith) line (dirty h l d);
  }

-- A host's task begins or is dropped, and its cache stays or is lost.

-- a task that goes on, and its cache stays
record Carried (old : Hosts) (s : SharedState) (copy : ℕ → ℕ → Cell) (now : Option Kept) (host : ℕ) (r : Run) : Type 0 where
  run : old.run host ≡ Some r
  kept : now ≡ old.kept host
  same : (l : ℕ) → copy host l ≡ s.copy host l

-- a task that begins
record Begun (old : Hosts) (lines : ℕ) (now : Option Kept) (host : ℕ) (r : Run) : Type 0 where
  me : List ℕ
  cmd : Cmd
  enough : least_lines ≤ lines
  declared : old.uuid host ≡ Some me
  command : IsCommand cmd
  is : r ≡ record { task = mounted now cmd me lines; floor = None; named = None }

-- what may become of copies: a copy that isn't as before is gone
record Loosens (s : SharedState) (copy : ℕ → ℕ → Cell) : Type 0 where
  wide : IsWide s → IsWide (with_copies s copy)
  dirty : (h l : ℕ) → IsDirty (copy h l) → IsDirty (s.copy h l)
  absent : (h l : ℕ) → s.copy h l ≡ Absent → copy h l ≡ Absent
  low : (m : Option ℕ) → gate_of (s.memory gate_line) ≤ top (s.memory gate_line) (masters_copy m s gate_line)
      → gate_of (s.memory gate_line) ≤ top (s.memory gate_line) (masters_copy m (with_copies s copy) gate_line)
  high : (m : Option ℕ) → gate_of (s.memory gate_line) ≤ top (s.memory gate_line) (masters_copy m s gate_line)
      → top (s.memory gate_line) (masters_copy m (with_copies s copy) gate_line) ≤ top (s.memory gate_line) (masters_copy m s gate_line)

module _ (old new : Hosts) (lines : ℕ) (s : SharedState) (copy : ℕ → ℕ → Cell) (uuids : (h : ℕ) → new.uuid h ≡ old.uuid h) (idle : (h : ℕ) → old.run h ≡ None → old.uuid h ≡ None → new.run h ≡ None)
    (runs : (h : ℕ) (r : Run) → new.run h ≡ Some r → Carried old s copy (new.kept h) h r ⊎ Begun old lines (new.kept h) h r)
    (keeps : (h : ℕ) → (new.kept h ≡ old.kept h) ⊎ (new.kept h ≡ None)) (loosens : Loosens s copy) where
  -- where a host kept nothing it keeps nothing
  bare_by : (h : ℕ) → old.kept h ≡ None → (new.kept h ≡ old.kept h) ⊎ (new.kept h ≡ None) → new.kept h ≡ None
  bare_by h none (inl same) = same ∙ none
  bare_by h none (inr gone) = gone

  -- and what it keeps is the history's front
  kept_by : (p : Params) (all : List File) (settled h : ℕ) → KeepsPrefix p all settled (old.kept h) → (new.kept h ≡ old.kept h) ⊎ (new.kept h ≡ None) → KeepsPrefix p all settled (new.kept h)
  kept_by p all settled h keeps' (inl same) = subst (KeepsPrefix p all settled) (sym same) keeps'
  kept_by p all settled h keeps' (inr gone) = subst (KeepsPrefix p all settled) (sym gone) tt

  -- a task has what its host keeps
  own_same : ((h : ℕ) (r : Run) → old.run h ≡ Some r → r.task.kept ≡ old.kept h) → (h : ℕ) (r : Run) → Carried old s copy (new.kept h) h r ⊎ Begun old lines (new.kept h) h r → r.task.kept ≡ new.kept h
  own_same own h r (inl carried) = own h r carried.run ∙ sym carried.kept
  own_same own h r (inr begun) = ap (λ (q : Run). q.task.kept) begun.is

  -- the declared hosts
  hosts_same : AreHosts old s → AreHosts new (with_copies s copy)
  hosts_same are = record {
    apart = λ h k id is_h is_k. are.apart h k id (sym (uuids h) ∙ is_h) (sym (uuids k) ∙ is_k);
    absent = λ h l none. loosens.absent h l (are.absent h l (sym (uuids h) ∙ none));
    idle = λ h none. let was : old.uuid h ≡ None = sym (uuids h) ∙ none in idle h (are.idle h was) was;
    bare = λ h none. bare_by h (are.bare h (sym (uuids h) ∙ none)) (keeps h);
  }

  -- a task that begins writes nothing yet
  named_same : ((h : ℕ) (r : Run) → old.run h ≡ Some r → HasNamed r.task.phase → HoldsNamed r.task r.named) → (h : ℕ) (r : Run)
      → Carried old s copy (new.kept h) h r ⊎ Begun old lines (new.kept h) h r → HasNamed r.task.phase → HoldsNamed r.task r.named
  named_same named h r (inl carried) has = named h r carried.run has
  named_same named h r (inr begun) has = absurd (subst (λ (q : Run). HasNamed q.task.phase) begun.is has)

  -- nor has it a mark
  marked_same : ((h : ℕ) (r : Run) → old.run h ≡ Some r → HasMarked r.task.phase → IsMarked r.floor) → (h : ℕ) (r : Run)
      → Carried old s copy (new.kept h) h r ⊎ Begun old lines (new.kept h) h r → HasMarked r.task.phase → IsMarked r.floor
  marked_same marked h r (inl carried) has = marked h r carried.run has
  marked_same marked h r (inr begun) has = absurd (subst (λ (q : Run). HasMarked q.task.phase) begun.is has)

  -- a small image
  small_by : ((h : ℕ) → old.run h ≡ None) → lines < least_lines → (h : ℕ) (r : Option Run) → new.run h ≡ r → r ≡ None
  small_by none few h None is = refl
  small_by none few h (Some r) is =
      elim (runs h r is) [ inl carried ↦ absurd (let was = carried.run in let gone = none h in cc) | inr begun ↦ absurd (omega (arith, begun.enough)) ]

  small_same : (image : Lines) → IsSmall image lines old s → IsSmall image lines new (with_copies s copy)
  small_same image is = record {
    memory = is.memory;
    few = is.few;
    idle = λ h. small_by is.idle is.few h (new.run h) refl;
    bare = λ h.
        bare_by h (is.bare h) (keeps h);
    clean = λ h l d. is.clean h l (loosens.dirty h l d);
  }

  -- a damaged image
  bad_task : (image : Lines) → ((h : ℕ) → old.kept h ≡ None)
      → ((h : ℕ) (r : Run) → old.run h ≡ Some r → BadTaskHolds image (line_bytes * lines) old.uuid h r.task s) → (h : ℕ) (r : Run)
      → Carried old s copy (new.kept h) h r ⊎ Begun old lines (new.kept h) h r
      → BadTaskHolds image (line_bytes * lines) new.uuid h r.task (with_copies s copy)
  bad_task image bare tasks h r (inl carried) =
      let was = tasks h r carried.run in
      record { me = uuids h ∙ was.me; lines = was.lines; phase = bad_phase_kept image (line_bytes * lines) h r.task s copy carried.same r.task.phase was.phase }
  bad_task image bare tasks h r (inr begun) =
      subst (λ (q : Run). BadTaskHolds image (line_bytes * lines) new.uuid h q.task (with_copies s copy)) (sym begun.is)
      record {
        me = uuids h ∙ begun.declared;
        lines = refl;
        phase =
            record {
              entries = refl;
              survey = refl;
              unused = λ p gate. ap (λ (k : Option Kept). used k begun.cmd p gate) (bare_by h (bare h) (keeps h))
                  ∙ used_none begun.cmd p gate;
            };
      }

  damaged_same : (image : Lines) → IsDamaged image lines old s → IsDamaged image lines new (with_copies s copy)
  damaged_same image is = record {
    enough = is.enough;
    still = record { wide = loosens.wide is.still.wide; memory = is.still.memory; clean = λ h l d. is.still.clean h l (loosens.dirty h l d); bad = is.still.bad };
    tasks = λ h r run. bad_task image is.bare is.tasks h r (runs h r run);
    bare = λ h. bare_by h (is.bare h) (keeps h);
  }

  -- a sound file system
  good_task : (sys : System) (all : List File) (settled : ℕ) → sys.uuid ≡ old.uuid → line_bytes * lines ≡ sys.have
      → ((h : ℕ) (r : Run) → old.run h ≡ Some r → TaskHolds sys h r.floor r.task s all settled)
      → (h : ℕ) (r : Run) → Carried old s copy (new.kept h) h r ⊎ Begun old lines (new.kept h) h r → TaskHolds (with_hosts sys new.uuid sys.master) h r.floor r.task (with_copies s copy) all settled
  good_task sys all settled hosts have tasks h r (inl carried) =
      let was = tasks h r carried.run in
      record {
        command = was.command;
        me = uuids h ∙ sym (ap (λ (u : ℕ → Option (List ℕ)). u h) hosts) ∙ was.me;
        lines = was.lines;
        phase = phase_kept sys (with_hosts sys new.uuid sys.master) h r.floor r.task s copy all settled refl (λ is. is) (λ is. is) carried.same r.task.phase was.phase;
      }
  good_task sys all settled hosts have tasks h r (inr begun) =
      subst (λ (q : Run). TaskHolds (with_hosts sys new.uuid sys.master) h q.floor q.task (with_copies s copy) all settled) (sym begun.is)
      record { command = begun.command; me = uuids h ∙ begun.declared; lines = have; phase = record { entries = refl; survey = refl } }

  known_same : (p : Params) (all : List File) (settled : ℕ) → IsKnown p all settled lines old s → IsKnown p all settled lines new (with_copies s copy)
  known_same p all settled is =
      let sys : System = record { params = p; have = line_bytes * lines; uuid = old.uuid; master = is.master } in
      record {
        enough = is.enough;
        inside = λ h l d. is.inside h l (loosens.dirty h l d);
        master = is.master;
        core = core_fallen sys new.uuid is.master s copy all settled is.core
            record { is = λ h master. uuids h ∙ is.core.named.is h master; only = λ h id. is.core.named.only h (sym (uuids h) ∙ id) }
            (loosens.wide is.core.wide) (λ h master. master) loosens.dirty (loosens.low is.master is.core.order) (loosens.high is.master is.core.order);
        tasks = λ h r run. good_task sys all settled refl refl is.tasks h r (runs h r run);
        kept = λ h. kept_by p all settled h (is.kept h) (keeps h);
      }

  stage_same : (settled : Settled) → InvariantBy settled lines old s → InvariantBy settled lines new (with_copies s copy)
  stage_same (Small image) is = small_same image is
  stage_same (Damaged image) is = damaged_same image is
  stage_same (Known p all settled) is = known_same p all settled is

  invariant_same : (settled : Settled) → Invariant settled lines old s → Invariant settled lines new (with_copies s copy)
  invariant_same settled invariant =
      record {
        declared = hosts_same invariant.declared;
        marked = λ h r run. marked_same invariant.marked h r (runs h r run);
        named = λ h r run.
            named_same invariant.named h r (runs h r run);
        keeps = λ h r run. own_same invariant.keeps h r (runs h r run);
        wide =
            loosens.wide invariant.wide;
        stage = stage_same settled invariant.stage;
      }

-- nothing becomes of copies
nothing_lost : (s : SharedState) → Loosens s s.copy
nothing_lost s = record {
  wide = λ w. record { memory = w.memory; copies = w.copies };
  dirty = λ h l d. d;
  absent = λ h l is. is;
  low = λ m is. is;
  high = λ m is. omega arith;
}

-- a host loses its cache
module _ (host : ℕ) (s : SharedState) (copy : ℕ → ℕ → Cell) (gone : (l : ℕ) → copy host l ≡ Absent) (others : (h l : ℕ) → h ≢ host → copy h l ≡ s.copy h l) where
  -- each copy is as before, or gone
  kept_or_gone : (h l : ℕ) → (copy h l ≡ s.copy h l) ⊎ (copy h l ≡ Absent)
  kept_or_gone h l =
      elim (cases_eq h host) [
        | inl is ↦ inr (ap (λ (k : ℕ). copy k l) is ∙ gone l)
        | inr other ↦ inl (others h l other)
      ]

  wide_by : IsWide s → (h l : ℕ) → (copy h l ≡ s.copy h l) ⊎ (copy h l ≡ Absent) → length (current (s.memory l) (copy h l)) ≡ 8
  wide_by w h l (inl kept) = ap (λ (c : Cell). length (current (s.memory l) c)) kept ∙ w.copies h l
  wide_by w h l (inr lost) = ap (λ (c : Cell). length (current (s.memory l) c)) lost ∙ w.memory l

  dirty_by : (h l : ℕ) → (copy h l ≡ s.copy h l) ⊎ (copy h l ≡ Absent) → IsDirty (copy h l) → IsDirty (s.copy h l)
  dirty_by h l (inl kept) d = subst IsDirty kept d
  dirty_by h l (inr lost) d = absurd (false≢true (subst IsDirty lost d))

  absent_by : (h l : ℕ) → (copy h l ≡ s.copy h l) ⊎ (copy h l ≡ Absent) → s.copy h l ≡ Absent → copy h l ≡ Absent
  absent_by h l (inl kept) was = kept ∙ was
  absent_by h l (inr lost) was = lost

  top_by : (h : ℕ) → (copy h gate_line ≡ s.copy h gate_line) ⊎ (copy h gate_line ≡ Absent) → gate_of (s.memory gate_line) ≤ top (s.memory gate_line) (s.copy h gate_line)
      → (gate_of (s.memory gate_line) ≤ top (s.memory gate_line) (copy h gate_line)) × (top (s.memory gate_line) (copy h gate_line) ≤ top (s.memory gate_line) (s.copy h gate_line))
  top_by h (inl kept) low =
      let same : top (s.memory gate_line) (copy h gate_line) ≡ top (s.memory gate_line) (s.copy h gate_line) = ap (top (s.memory gate_line)) kept in
      (omega (arith, same), omega (arith, same))
  top_by h (inr lost) low =
      let fallen : top (s.memory gate_line) (copy h gate_line) ≡ gate_of (s.memory gate_line) = ap (top (s.memory gate_line)) lost in
      (omega (arith, fallen), omega (arith, fallen))

  low_lost : (m : Option ℕ) → gate_of (s.memory gate_line) ≤ top (s.memory gate_line) (masters_copy m s gate_line)
      → gate_of (s.memory gate_line) ≤ top (s.memory gate_line) (masters_copy m (with_copies s copy) gate_line)
  low_lost None low = low
  low_lost (Some h) low = (top_by h (kept_or_gone h gate_line) low).0

  high_lost : (m : Option ℕ) → gate_of (s.memory gate_line) ≤ top (s.memory gate_line) (masters_copy m s gate_line)
      → top (s.memory gate_line) (masters_copy m (with_copies s copy) gate_line) ≤ top (s.memory gate_line) (masters_copy m s gate_line)
  high_lost None low = omega arith
  high_lost (Some h) low = (top_by h (kept_or_gone h gate_line) low).1

  cache_lost : Loosens s copy
  cache_lost = record {
    wide = λ w. record { memory = w.memory; copies = λ h l. wide_by w h l (kept_or_gone h l) };
    dirty = λ h l d. dirty_by h l (kept_or_gone h l) d;
    absent = λ h l was. absent_by h l (kept_or_gone h l) was;
    low = low_lost;
    high = high_lost;
  }

-- Begin, stop and halt.

module _ (settled : Settled) (lines host : ℕ) (old new : Hosts) where
  -- a host's task is dropped: no other task is
  carried_by : (s : SharedState) (copy : ℕ → ℕ → Cell) → Stops host old new → ((h l : ℕ) → h ≢ host → copy h l ≡ s.copy h l) → (h : ℕ) (r : Run)
      → new.run h ≡ Some r → Carried old s copy (new.kept h) h r ⊎ Begun old lines (new.kept h) h r
  carried_by s copy stops others h r run =
      elim (cases_eq h host) [
        | inl is ↦ absurd (let here : new.run h ≡ None = ap new.run is ∙ stops.is in cc)
        | inr other ↦ inl record { run = sym (stops.runs h other) ∙ run; kept = stops.kept h other; same = λ l. others h l other }
      ]

  idle_by : Stops host old new → (h : ℕ) → old.run h ≡ None → old.uuid h ≡ None → new.run h ≡ None
  idle_by stops h none undeclared =
      elim (cases_eq h host) [
        | inl is ↦ ap new.run is ∙ stops.is
        | inr other ↦ stops.runs h other ∙ none
      ]

  keeps_by : Stops host old new → (h : ℕ) → (new.kept h ≡ old.kept h) ⊎ (new.kept h ≡ None)
  keeps_by stops h =
      elim (cases_eq h host) [
        | inl is ↦ subst (λ (k : ℕ). (new.kept k ≡ old.kept k) ⊎ (new.kept k ≡ None)) (sym is) stops.mine
        | inr other ↦ inl (stops.kept h other)
      ]

  -- a stop
  pub invariant_stopped : (s : SharedState) → Invariant settled lines old s → Stops host old new → Invariant settled lines new s
  invariant_stopped s invariant stops = invariant_same old new lines s s.copy stops.uuids (idle_by stops)
      (carried_by s s.copy stops (λ h l other. refl)) (keeps_by stops) (nothing_lost s) settled invariant

  -- a halt
  halted_at : (s : SharedState) (copy : ℕ → ℕ → Cell) → Invariant settled lines old s → Stops host old new → ((l : ℕ) → copy host l ≡ Absent)
      → ((h l : ℕ) → h ≢ host → copy h l ≡ s.copy h l) → Invariant settled lines new (with_copies s copy)
  halted_at s copy invariant stops gone others = invariant_same old new lines s copy stops.uuids (idle_by stops) (carried_by s copy stops others)
      (keeps_by stops) (cache_lost host s copy gone others) settled invariant

  -- a host halts and loses its cache
  pub invariant_halted : (s s' : SharedState) → Invariant settled lines old s → Stops host old new → Loses host s s' → Invariant settled lines new s'
  invariant_halted s s' invariant stops loses =
      subst (λ (memory : ℕ → List ℕ). Invariant settled lines new (record { memory = memory; copy = s'.copy })) (sym (fun_ext loses.memory))
      (halted_at s s'.copy invariant stops loses.lost loses.hosts)

  -- a begin, of an image that has a gate
  begun_by : (s : SharedState) (cmd : Cmd) → least_lines ≤ lines → Starts host cmd lines old new → (h : ℕ) (r : Run) → new.run h ≡ Some r
      → Carried old s s.copy (new.kept h) h r ⊎ Begun old lines (new.kept h) h r
  begun_by s cmd enough starts h r run =
      elim (cases_eq h host) [
        | inl is ↦ inr record {
          me = starts.me;
          cmd = cmd;
          enough = enough;
          declared = ap old.uuid is ∙ starts.declared;
          command = starts.command;
          is = let now : new.kept h ≡ old.kept host = ap new.kept is ∙ starts.kept host in let here : new.run h
              ≡ Some (record { task = mounted (new.kept h) cmd starts.me lines; floor = None; named = None }) = ap new.run is ∙ starts.is
              ∙ ap (λ (k : Option Kept). Some (record { task = mounted k cmd starts.me lines; floor = None; named = None })) (sym now) in cc;
        }
        | inr other ↦ inl record { run = sym (starts.runs h other) ∙ run; kept = starts.kept h; same = λ l. refl }
      ]

  idle_but : (cmd : Cmd) → Starts host cmd lines old new → (h : ℕ) → old.run h ≡ None → old.uuid h ≡ None → new.run h ≡ None
  idle_but cmd starts h none undeclared =
      elim (cases_eq h host) [
        | inl is ↦ absurd (let declared : old.uuid h ≡ Some starts.me = ap old.uuid is ∙ starts.declared in cc)
        | inr other ↦ starts.runs h other ∙ none
      ]

  -- a declared host begins a command
  pub invariant_begun : (s : SharedState) (cmd : Cmd) → least_lines ≤ lines → Invariant settled lines old s → Starts host cmd lines old new → Invariant settled lines new s
  invariant_begun s cmd enough invariant starts = invariant_same old new lines s s.copy starts.uuids (idle_but cmd starts)
      (begun_by s cmd enough starts) (λ h. inl (starts.kept h)) (nothing_lost s) settled invariant

-- A new host.

-- two lists of bytes are one, or they aren't
pub one_or_two : (a b : List ℕ) → (a ≡ b) ⊎ (a ≢ b)
one_or_two a b = by_test (bytes_eq a b) refl
  where
    by_test : (r : Bool) → bytes_eq a b ≡ r → (a ≡ b) ⊎ (a ≢ b)
    by_test true is = inl ((bytes_eq-Decides a b).0 is)
    by_test false is = inr (λ same. false≢true (sym is ∙ (bytes_eq-Decides a b).1 same))

module _ (lines host : ℕ) (id : List ℕ) (old new : Hosts) (s : SharedState) (declares : Declares host id old new) (are : AreHosts old s) where
  -- a host that was declared before is another
  was_other : (h : ℕ) (other_id : List ℕ) → old.uuid h ≡ Some other_id → h ≢ host
  was_other h other_id is same = let none : old.uuid h ≡ None = ap old.uuid same ∙ declares.fresh in cc

  -- and so is one that has a task
  runs_other : (h : ℕ) (r : Run) → new.run h ≡ Some r → h ≢ host
  runs_other h r run same =
      let none : old.run h ≡ None = ap old.run same ∙ are.idle host declares.fresh in
      let was : old.run h ≡ Some r = sym (declares.runs h) ∙ run in
      cc

  -- who has the new UUID
  is_new : (h : ℕ) → new.uuid h ≡ Some id → h ≡ host
  is_new h is = elim (cases_eq h host) [ inl same ↦ same | inr other ↦ absurd (declares.solo h (sym (declares.uuids h other) ∙ is)) ]

  -- who has none
  still_none : (h : ℕ) → new.uuid h ≡ None → old.uuid h ≡ None
  still_none h none =
      elim (cases_eq h host) [
        | inl same ↦ absurd (let some : new.uuid h ≡ Some id = ap new.uuid same ∙ declares.is in cc)
        | inr other ↦ sym (declares.uuids h other) ∙ none
      ]

  -- two hosts of one UUID, of which the first is new or isn't
  apart_by : (h k : ℕ) (other_id : List ℕ) → (h ≡ host) ⊎ (h ≢ host) → (k ≡ host) ⊎ (k ≢ host) → new.uuid h ≡ Some other_id → new.uuid k ≡ Some other_id → h ≡ k
  apart_by h k other_id (inl first) second is_h is_k =
      let both : Some id ≡ Some other_id = sym declares.is ∙ sym (ap new.uuid first) ∙ is_h in
      first ∙ sym (is_new k (is_k ∙ sym both))
  apart_by h k other_id (inr first) (inl second) is_h is_k =
      let both : Some id ≡ Some other_id = sym declares.is ∙ sym (ap new.uuid second) ∙ is_k in
      is_new h (is_h ∙ sym both) ∙ sym second
  apart_by h k other_id (inr first) (inr second) is_h is_k =
      are.apart h k other_id (sym (declares.uuids h first) ∙ is_h) (sym (declares.uuids k second) ∙ is_k)

  hosts_declared : AreHosts new s
  hosts_declared = record {
    apart = λ h k other_id is_h is_k. apart_by h k other_id (cases_eq h host) (cases_eq k host) is_h is_k;
    absent = λ h l none. are.absent h l (still_none h none);
    idle = λ h none. declares.runs h ∙ are.idle h (still_none h none);
    bare = λ h none. declares.kept h ∙ are.bare h (still_none h none);
  }

  -- a damaged image
  damaged_declared : (image : Lines) → IsDamaged image lines old s → IsDamaged image lines new s
  damaged_declared image is = record {
    enough = is.enough;
    still = is.still;
    tasks = λ h r run.
        let was = is.tasks h r (sym (declares.runs h) ∙ run) in
        record { me = declares.uuids h (runs_other h r run) ∙ was.me; lines = was.lines; phase = was.phase };
    bare = λ h. declares.kept h ∙ is.bare h;
  }

  -- a sound file system, with this master now
  module _ (p : Params) (all : List File) (settled : ℕ) (is : IsKnown p all settled lines old s) where
    known_by : (master : Option ℕ) → IsMaster (record { params = p; have = line_bytes * lines; uuid = new.uuid; master = master }) → ((h : ℕ) → is.master ≡ Some h → master ≡ Some h)
        → ((h : ℕ) → h ≢ host → master ≡ Some h → is.master ≡ Some h) → top (s.memory gate_line) (masters_copy master s gate_line) ≡ top (s.memory gate_line) (masters_copy is.master s gate_line)
        → IsKnown p all settled lines new s
    known_by master named on back same =
        let sys : System = record { params = p; have = line_bytes * lines; uuid = old.uuid; master = is.master } in
        record {
          enough = is.enough;
          inside = is.inside;
          master = master;
          core = core_fallen sys new.uuid master s s.copy all settled is.core named is.core.wide on (λ h l d. d) (omega (arith, is.core.order, same)) (omega (arith, same));
          tasks = λ h r run.
              let was = is.tasks h r (sym (declares.runs h) ∙ run) in
              record {
                command = was.command;
                me = declares.uuids h (runs_other h r run) ∙ was.me;
                lines = was.lines;
                phase = phase_kept sys (with_hosts sys new.uuid master) h r.floor r.task s s.copy all settled refl (on h) (back h (runs_other h r run)) (λ l. refl) r.task.phase was.phase;
              };
          kept = λ h. subst (KeepsPrefix p all settled) (sym (declares.kept h)) (is.kept h);
        }

    -- the new host is the master, where it has the master's UUID: there was none before
    no_master : (m : Option ℕ) → is.master ≡ m → id ≡ p.master → m ≡ None
    no_master None was same = refl
    no_master (Some h) was same = absurd (declares.solo h (is.core.named.is h was ∙ sym (ap Some same)))

    master_declared : id ≡ p.master → IsKnown p all settled lines new s
    master_declared same =
        let none : is.master ≡ None = no_master is.master refl same in
        let empty : s.copy host gate_line ≡ Absent = are.absent host gate_line declares.fresh in
        known_by (Some host)
        record {
          is = λ h master. let at : host ≡ h = cc in sym (ap new.uuid at) ∙ declares.is ∙ ap Some same;
          only = λ h uuid. ap Some (sym (is_new h (uuid ∙ sym (ap Some same))));
        }
        (λ h was. absurd (cc))
        (λ h other master. absurd (other (let at : host ≡ h = cc in sym at)))
        (ap (top (s.memory gate_line)) empty ∙ sym (ap (λ (m : Option ℕ). top (s.memory gate_line) (masters_copy m s gate_line)) none))

    -- and else the master stays
    client_declared : id ≢ p.master → IsKnown p all settled lines new s
    client_declared other =
        known_by is.master
        record {
          is = λ h master. let was = is.core.named.is h master in declares.uuids h (was_other h p.master was) ∙ was;
          only = λ h uuid.
              elim (cases_eq h host) [
                | inl same ↦ absurd (other (let both : Some id ≡ Some p.master = sym declares.is ∙ sym (ap new.uuid same) ∙ uuid in cc))
                | inr old_host ↦ is.core.named.only h (sym (declares.uuids h old_host) ∙ uuid)
              ];
        }
        (λ h was. was)
        (λ h old_host was. was)
        refl

    known_declared : IsKnown p all settled lines new s
    known_declared = elim (one_or_two id p.master) [ inl same ↦ master_declared same | inr other ↦ client_declared other ]

  stage_declared : (settled : Settled) → InvariantBy settled lines old s → InvariantBy settled lines new s
  stage_declared (Small image) is = record { memory = is.memory; few = is.few; idle = λ h. declares.runs h ∙ is.idle h; bare = λ h. declares.kept h ∙ is.bare h; clean = is.clean }
  stage_declared (Damaged image) is = damaged_declared image is
  stage_declared (Known p all settled) is = known_declared p all settled is

-- a host is declared
pub invariant_declared : (settled : Settled) (lines host : ℕ) (id : List ℕ) (old new : Hosts) (s : SharedState) → Invariant settled lines old s
    → Declares host id old new → Invariant settled lines new s
invariant_declared settled lines host id old new s invariant declares =
    record {
      declared = hosts_declared lines host id old new s declares invariant.declared;
      marked = λ h r run.
          invariant.marked h r (sym (declares.runs h) ∙ run);
      named = λ h r run. invariant.named h r (sym (declares.runs h) ∙ run);
      keeps = λ h r run.
          invariant.keeps h r (sym (declares.runs h) ∙ run) ∙ sym (declares.kept h);
      wide = invariant.wide;
      stage =
          stage_declared lines host id old new s declares invariant.declared settled invariant.stage;
    }
