-- A cache's own moves, and what is left where the media fails: in a task's operation, or in such a move.
use Rattle.std.proofs.Common.{◌≡◌, ℕ, ◌<◌, List, [], ◌∷◌, ◌++◌, length, map, Option, Some, None, inl, refl, ap, sym, ◌∙◌, subst}
use Rattle.std.specs.Prelude.{⊤, slice_get}
use Rattle.fam_base.specs.Image.{Image, eight, line_at}
use Rattle.fam_base.proofs.ImageLemmas.{length-with_line, normal-with_line}
use Rattle.fam_machine.specs.Caches.{cell_at}
use Rattle.fam_machine.specs.OneLine.{current}
use Rattle.fam_machine.specs.Operations.{Breaking, Failure, IsInImage, Machine, failed, machine}
use Rattle.fam_machine.specs.declared.op.Op.{Op}
use Rattle.fam_machine.specs.Fences.{Breaks}
use Rattle.fam_machine.specs.TearsLine.{TearsLine}
use Rattle.fam_machine.proofs.Slipping.{breaks_length, breaks_normal, move_transfers, move_wide, op_breaks}
use Rattle.fam_protocol.specs.SharedState.{Breaks as BreaksAt, TransfersAt}
use Rattle.fam_protocol.specs.Invariant.{Settled, Invariant}
use Rattle.fam_protocol.proofs.Hosts.Events.{invariant_stopped}
use Rattle.fam_protocol.proofs.Hosts.Acts.{failure_breaks, tears_line_by}
use Rattle.fam_protocol.proofs.Hosts.Steps.{invariant_broken, invariant_transferred}
use Rattle.fam_journal.specs.declared.refusal.Refusal.{Refusal}
use Rattle.fam_journal.specs.View.{HostView, WorldView}
use Rattle.fam_journal.specs.Kept.{Agrees, copy_at, hosts_of, shared_of, settled_of, uuid_at}
use Rattle.fam_journal.specs.Legal.{OfHost}
use Rattle.fam_machine.specs.HostMoves.{Move, moved, moved_cell, moved_words}
use Rattle.fam_journal.specs.Machines.{Machines, with_machine, with_memory}
use Rattle.fam_journal.specs.Members.{changed_at}
use Rattle.fam_journal.specs.Notes.{Answered, MediaFault, Refused}
use Rattle.fam_journal.specs.Past.{HostPast, Past, past_of}
use Rattle.fam_journal.proofs.Calls.Hosts.{held_with, kept_else, kept_same, run_here, runs_else, stands_changed, told_changed, uuids_same}
use Rattle.fam_journal.proofs.Calls.Views.{acts_at}
use Rattle.fam_journal.proofs.Calls.Rows.{Declared, moved_held}

-- the media failed in an operation, somehow
pub record HasBroken (op : Op) (m : Machine) (failure : Failure) : Type 0 where
  pub through : Breaking
  pub is : failed through op m ≡ Some failure

module _ (start : Image) (state : Machines) (world : WorldView) (held : Agrees start state world state.memory) (h : ℕ) (d : Declared start state world h) where
  abbrev x : Past
  x = past_of start world.journal

  abbrev settled : Settled
  settled = settled_of x.state (line_at state.memory)

  -- A cache's own move.

  wide_at : (l : ℕ) → length (current (line_at state.memory l) (cell_at d.view.cache l)) ≡ 8
  wide_at l = subst (λ (o : Option HostView). length (current (line_at state.memory l) (copy_at o l)) ≡ 8) d.view_is (held.invariant.wide.copies h l)

  module _ (move : Move) (line : ℕ) (within : line < length state.memory) where
    abbrev m : Machine
    m = record { image = state.memory; cache = d.view.cache }

    pub cache_moved : Agrees start (with_machine h (moved move line m) d.host.task state)
        (record { hosts = changed_at h (λ v. record v { cache = (moved move line m).cache }) world.hosts; journal = world.journal })
        (moved move line m).image
    cache_moved =
        moved_held start state world held h d line within (moved_words move (line_at state.memory line) (cell_at d.view.cache line))
        (moved_cell move (line_at state.memory line) (cell_at d.view.cache line))
        (move_transfers move (line_at state.memory line) (cell_at d.view.cache line)) (move_wide move (line_at state.memory line) (cell_at d.view.cache line) refl (wide_at line))

  -- The media failed.

  module _ (left : Image) (tears_line : TearsLine state.memory left d.view.cache) where
    line_torn_lines : length left ≡ length start
    line_torn_lines = ap (λ (i : Image). length i) tears_line.1.is ∙ length-with_line state.memory tears_line.0 tears_line.1.words ∙ held.lines

    line_torn_normal : map eight left ≡ left
    line_torn_normal = subst (λ (i : Image). map eight i ≡ i) (sym tears_line.1.is) (normal-with_line state.memory held.normal tears_line.0 tears_line.1.words)

    line_torn_shared : TransfersAt h tears_line.0 (shared_of state.memory world.hosts) (shared_of left world.hosts)
    line_torn_shared =
        tears_line_by h (machine state.memory d.view.cache) (shared_of state.memory world.hosts) (shared_of left world.hosts) tears_line.0 left
        record {
          before = record { memory = λ l. refl; copies = λ l. ap (λ (o : Option HostView). copy_at o l) d.view_is };
          after = record { memory = λ l. refl; copies = λ l. ap (λ (o : Option HostView). copy_at o l) d.view_is };
          others = λ k l ne. refl;
        } tears_line.1

    line_torn_invariant : Invariant settled (length start) (hosts_of world.hosts x.hosts) (shared_of left world.hosts)
    line_torn_invariant =
        invariant_transferred (length start) (hosts_of world.hosts x.hosts) h tears_line.0 (shared_of state.memory world.hosts) (shared_of left world.hosts) line_torn_shared
        (λ none. absurd (let is : uuid_at (slice_get world.hosts h) ≡ Some d.view.uuid = ap uuid_at d.view_is in cc)) settled held.invariant

    -- in a move of a cache: nothing but memory is other than before, and the call is refused
    pub line_torn_held : (name : List ℕ) (cause : Refusal) → Agrees start (with_memory left state) (record { hosts = world.hosts; journal = world.journal ++ Refused name cause ∷ [] }) left
    line_torn_held name cause =
        held_with start state world state.memory held (with_memory left state) world.hosts (Refused name cause ∷ [])
        (line_at state.memory) line_torn_lines line_torn_normal (tt, tt) held.stands held.told held.halted line_torn_invariant

  -- in a task's operation: the task is gone
  module _ (op : Op) (inside : IsInImage op (record { image = state.memory; cache = d.view.cache })) (failure : Failure)
      (broken : HasBroken op (record { image = state.memory; cache = d.view.cache }) failure) where
    abbrev own : Machine
    own = record { image = state.memory; cache = d.view.cache }

    abbrev fails : HostView → HostView
    fails v = record v { cache = failure.left.cache; task = None }

    abbrev views : List HostView
    views = changed_at h fails world.hosts

    breaks : Breaks own failure
    breaks = op_breaks op own broken.through failure held.normal inside broken.is

    broken_shared : BreaksAt h failure.line.0 (shared_of state.memory world.hosts) (shared_of failure.left.image views)
    broken_shared =
        failure_breaks h own (shared_of state.memory world.hosts) (shared_of failure.left.image views) op broken.through failure
        (acts_at world.hosts h d.view d.view_is fails state.memory failure.left refl) held.invariant.wide held.normal inside broken.is

    broken_invariant : Invariant settled (length start) (hosts_of world.hosts x.hosts) (shared_of failure.left.image views)
    broken_invariant =
        invariant_broken (length start) (hosts_of world.hosts x.hosts) h failure.line.0 (shared_of state.memory world.hosts) (shared_of failure.left.image views) broken_shared
        (λ none. absurd (let is : uuid_at (slice_get world.hosts h) ≡ Some d.view.uuid = ap uuid_at d.view_is in cc)) settled held.invariant

    pub failed_held : Agrees start (with_machine h failure.left None state) (record { hosts = views; journal = world.journal ++ Answered h (MediaFault failure.line.0) ∷ [] }) failure.left.image
    failed_held =
        held_with start state world state.memory held (with_machine h failure.left None state) views (Answered h (MediaFault failure.line.0) ∷ []) (line_at state.memory)
        (breaks_length own failure breaks ∙ held.lines) (breaks_normal own failure breaks held.normal)
        (subst (λ (o : Option HostPast). OfHost o (λ z. ⊤)) (sym d.told_is) tt, tt)
        (stands_changed h d.view world.hosts d.view_is fails (length start) state.hosts d.host d.host_is (λ z. record z { cache = failure.left.cache; task = None })
        record { name = d.stands.name; uuid = d.stands.uuid; cache = refl; task = tt; kept = d.stands.kept; joined = d.stands.joined } held.stands)
        (told_changed h d.view world.hosts d.view_is fails x.hosts x.hosts d.told d.told_is (λ k ne. refl)
        record { name = d.host_told.name; uuid = d.host_told.uuid; task = tt } held.told)
        held.halted
        (invariant_stopped settled (length start) h (hosts_of world.hosts x.hosts) (hosts_of views x.hosts) (shared_of failure.left.image views) broken_invariant
        record {
          is = run_here h d.view world.hosts d.view_is fails x.hosts d.told d.told_is;
          uuids = uuids_same h d.view world.hosts d.view_is fails refl;
          runs = runs_else h d.view world.hosts d.view_is fails x.hosts x.hosts (λ k ne. refl);
          mine = inl (kept_same h d.view world.hosts d.view_is fails refl h);
          kept = λ k ne. kept_else h d.view world.hosts d.view_is fails k ne;
        })
