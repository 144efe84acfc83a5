-- What a task's own operation leaves: memory and caches as they may be, its gift to the task, and what other hosts'
-- tasks rest on.
use Rattle.std.proofs.Common.{ℕ, ◌+◌, ◌*◌, ◌≤◌, ◌<◌, ◌≡◌, ◌≢◌, inl, inr, List, length, refl, sym, ◌∙◌, ap, subst, arith}
use Rattle.std.specs.Prelude.{slice_index, Option}
use Rattle.fam_base.specs.declared.entry.Params.{Params}
use Rattle.fam_base.specs.declared.entry.Entry.{Entry}
use Rattle.fam_format.specs.Layout.{gate_line, slot_line, geometry}
use Rattle.fam_format.proofs.EntryLawsProofs.{spelling_count}
use Rattle.fam_format.proofs.Formats.{shape}
use Rattle.fam_machine.specs.declared.cell.Cell.{Cell}
use Rattle.fam_machine.specs.declared.cell.Cell.TheVariants.{Absent, Clean, Dirty}
use Rattle.fam_commands.specs.declared.phase.Phase.{Phase}
use Rattle.fam_commands.specs.declared.phase.Phase.TheVariants as at
use Rattle.fam_machine.specs.Moves.{Transfers}
use Rattle.fam_machine.specs.OneLine.{asked_for, brought, current, sent, stored}
use Rattle.fam_commands.specs.Task.{Task, data_words, line_of, op_at, part_line, size_of}
use Rattle.fam_machine.proofs.Transferring.{absent_transfers, asked_for_transfers, brought_transfers}
use Rattle.fam_rules.specs.Asks.{File}
use Rattle.fam_rules.specs.Place.{line_bytes}
use Rattle.fam_rules.specs.Written.{slot_part}
use Rattle.fam_protocol.specs.SharedState.{SharedState, TransfersAt, LeavesAt, Operates, Fences}
use Rattle.fam_protocol.specs.Lines.{Fresh, FreshGate, Asked, Finished, IsHandedOver, gate_of, top, IsAtLeast}
use Rattle.fam_protocol.specs.Core.{System, Core, IsEntryLine, masters_copy}
use Rattle.fam_protocol.specs.Tasks.{AtPhase, AwaitsSlot, MayPublish, HasPublished, IsAtGate, IsWriting, StoresData, StoresSlot}
use Rattle.fam_protocol.proofs.Lines.Apart.{files_apart, slots_apart, slot_no_file}
use Rattle.fam_protocol.proofs.Lines.Transferring.{transfer_keeps}
use Rattle.fam_protocol.proofs.Lines.Free.{core_kept, transfers_at, same}
use Rattle.fam_protocol.proofs.Hosts.Given.{Given, GivesGate}
use Rattle.fam_protocol.proofs.Lines.Keeping.{Keeps, phase_kept}
use Rattle.fam_protocol.proofs.Lines.Moves.{asked_handed, fresh_current}
use Rattle.fam_protocol.proofs.Lines.Fencing.{Sent, finished_then, not_dirty_then, same_keeps, sends_keep, top_then}
use Rattle.fam_protocol.proofs.Lines.Publish.{core_published, has_published, publish_keeps}
use Rattle.fam_protocol.proofs.Lines.Stored.{asked_other, core_stored, finished_other, holding_here, part_length, part_word, sent_whole, store_keeps, writing_stored}
use Rattle.fam_protocol.proofs.Lines.Floors.{at_least_more}

-- what is known after an operation
pub record Leaves (p : Phase) (sys : System) (host : ℕ) (floor : Option ℕ) (word : ℕ) (t : Task) (s s' : SharedState) (all : List File) (settled : ℕ) : Type 0 where
  pub core : Core sys s' all settled
  pub given : Given p sys host floor word t s' all settled
  pub others : (h : ℕ) → h ≢ host → Keeps sys h settled s s'

module _ (sys : System) (s s' : SharedState) (all : List File) (settled : ℕ) (core : Core sys s all settled) (host : ℕ) (floor : Option ℕ) (word : ℕ) (t : Task) where
  -- a drop, a load, a write-back
  module _ (p : Phase) (line : ℕ) (m : List ℕ) (c : Cell) (left : LeavesAt host line s s' m c) (d : Transfers (s.memory line) (s.copy host line) m c)
      (known : AtPhase p sys host floor t s all settled) where
    moves : TransfersAt host line s s'
    moves = transfers_at host line s s' m c left d

    core_now : Core sys s' all settled
    core_now = core_kept host line s s' moves core.wide sys all settled core

    phase_now : AtPhase p sys host floor t s' all settled
    phase_now = phase_kept sys s s' all settled core host floor (transfer_keeps sys s s' all settled core host line moves host) p t known

    by_transfer : Given p sys host floor word t s' all settled → Leaves p sys host floor word t s s' all settled
    by_transfer given = record { core = core_now; given = given; others = λ h _. transfer_keeps sys s s' all settled core host line moves h }

  -- a load through a fresh copy gives memory's word, which stays
  loaded : (line k : ℕ) → LeavesAt host line s s' (s.memory line) (brought (s.memory line) (s.copy host line)) → word ≡ slice_index (current (s.memory line) (s.copy host line)) k
      → Fresh (s.memory line) (s.copy host line) → word ≡ slice_index (s'.memory line) k
  loaded line k left gives fresh =
      gives ∙ ap (λ (w : List ℕ). slice_index w k) (fresh_current (s.memory line) (s.copy host line) fresh ∙ sym left.memory_is)

  -- what a load of the gate gives
  gate_word : (m : List ℕ) (c : Cell) → settled ≤ gate_of m → IsAtLeast floor settled → FreshGate floor m c → word ≡ slice_index (current m c) 0 → IsAtLeast floor word × (word ≤ gate_of m)
  gate_word m Absent low lo f e = (at_least_more floor settled word (omega (arith, low, e)) lo, omega arith)
  gate_word m (Clean w) low lo f e = (at_least_more floor (gate_of w) word (omega (arith, e)) f.0, omega (arith, f.1))
  gate_word m (Dirty a w) low lo f e = absurd f

  gives_gate : LeavesAt host gate_line s s' (s.memory gate_line) (brought (s.memory gate_line) (s.copy host gate_line)) → word ≡ slice_index (current (s.memory gate_line) (s.copy host gate_line)) 0
      → IsAtGate sys host floor s settled → GivesGate sys host floor word s'
  gives_gate left gives g =
      let w = gate_word (s.memory gate_line) (s.copy host gate_line) core.low g.low g.copy gives in
      record { low = w.0; high = omega (arith, w.1, ap gate_of left.memory_is); masters = λ is. loaded gate_line 0 left gives (g.masters is) }

  -- a line of the file, and of the slot, that is written
  data_line : (w : IsWriting sys host t s all settled) (j : ℕ) → line_bytes * j < w.file.entry.size → IsEntryLine sys.params t.gate w.file.entry (line_of t.entry j)
  data_line w j lt = inr (j, lt, ap (λ (o : Option Entry). line_of o j) w.entry)

  new_line : (w : IsWriting sys host t s all settled) (j : ℕ) → j < (geometry sys.params).lines → IsEntryLine sys.params t.gate w.file.entry (slot_line t.params t.gate j)
  new_line w j lt = inl (j, lt, ap (λ (p : Params). slot_line p t.gate j) w.params)

  in_file : (w : IsWriting sys host t s all settled) (b : ℕ) → line_bytes * b < size_of t.entry → line_bytes * b < w.file.entry.size
  in_file w b lt = subst (λ (o : Option Entry). line_bytes * b < size_of o) w.entry lt

  words_long : (w : IsWriting sys host t s all settled) → length t.words ≡ (geometry sys.params).words
  words_long w = ap length w.words ∙ spelling_count sys.params w.file.entry t.gate

  -- two lines of the new file are two, and none is one of the slot
  data_apart : (w : IsWriting sys host t s all settled) (a b : ℕ) → line_bytes * a < w.file.entry.size → line_bytes * b < w.file.entry.size → line_of t.entry a ≡ line_of t.entry b → a ≡ b
  data_apart w a b la lb e =
      (files_apart sys.params all core.head.sound core.history t.gate t.gate a b w.file w.file w.last w.last la lb
      (sym (ap (λ (o : Option Entry). line_of o a) w.entry) ∙ e ∙ ap (λ (o : Option Entry). line_of o b) w.entry)).1

  data_no_slot : (w : IsWriting sys host t s all settled) (a j : ℕ) → line_bytes * a < w.file.entry.size → j < (geometry sys.params).lines → line_of t.entry a ≡ slot_line t.params t.gate j → ⊥
  data_no_slot w a j la lj e =
      slot_no_file sys.params t.gate w.file.entry (line_of t.entry a) core.head.sound (omega (arith, core.room, w.pending)) (core.history t.gate w.file w.last).proper
      (j, lj, e ∙ ap (λ (p : Params). slot_line p t.gate j) w.params) (a, la, ap (λ (o : Option Entry). line_of o a) w.entry)

  slot_once : (w : IsWriting sys host t s all settled) (a b : ℕ) → a < (geometry sys.params).lines → b < (geometry sys.params).lines → slot_line t.params t.gate a ≡ slot_line t.params t.gate b → a ≡ b
  slot_once w a b la lb e =
      (slots_apart sys.params t.gate t.gate a b la lb (sym (ap (λ (p : Params). slot_line p t.gate a) w.params) ∙ e ∙ ap (λ (p : Params). slot_line p t.gate b) w.params)).1

  store_data : (j k : ℕ) → k < 8 → (d : StoresData j k sys host t s all settled)
      → LeavesAt host (line_of t.entry j) s s' (s.memory (line_of t.entry j))
      (stored k (slice_index (data_words t j) k) (s.memory (line_of t.entry j)) (s.copy host (line_of t.entry j)))
      → Leaves (at.StoreData j k) sys host floor word t s s' all settled
  unfolding writing_stored
  store_data j k lt d left =
      let line = line_of t.entry j in
      let value = slice_index (data_words t j) k in
      let of = data_line d.writing j d.line in
      record {
        core = core_stored sys s s' all settled core host t d.writing line k value of left;
        given = (
          lt,
          record {
            writing = writing_stored sys s s' all settled core host t d.writing line k value of left;
            line = d.line;
            before = λ b below small. finished_other sys s s' all settled core host t d.writing line k value of left (data_words t b) (line_of t.entry b)
                (λ e. omega (arith, below, data_apart d.writing b j (in_file d.writing b small) d.line e)) (d.before b below small);
            here = holding_here sys s s' all settled core host t d.writing line k value of left k (data_words t j) refl refl lt refl d.here;
          },
        );
        others = λ h ne. store_keeps sys s s' all settled core host t d.writing line k value of left h ne;
      }

  store_slot : (j k : ℕ) → k < 8 → (d : StoresSlot j k sys host t s all settled)
      → LeavesAt host (slot_line t.params t.gate j) s s' (s.memory (slot_line t.params t.gate j))
      (stored k (slice_index t.words (8 * j + k)) (s.memory (slot_line t.params t.gate j)) (s.copy host (slot_line t.params t.gate j)))
      → Leaves (at.StoreSlot j k) sys host floor word t s s' all settled
  store_slot j k lt d left =
      let line = slot_line t.params t.gate j in
      let value = slice_index t.words (8 * j + k) in
      let of = new_line d.writing j d.line in
      let long : 8 * j + 8 ≤ length t.words = omega (arith, d.line, words_long d.writing, (shape sys.params).words) in
      record {
        core = core_stored sys s s' all settled core host t d.writing line k value of left;
        given = (
          lt,
          record {
            writing = writing_stored sys s s' all settled core host t d.writing line k value of left;
            line = d.line;
            contents = λ count b below small. finished_other sys s s' all settled core host t d.writing line k value of left (data_words t b) (line_of t.entry b)
                (λ e. data_no_slot d.writing b j (in_file d.writing b small) d.line e) (d.contents count b below small);
            before = λ b below. asked_other sys s s' all settled core host t d.writing line k value of left (slot_part t.words b) (slot_line t.params t.gate b)
                (λ e. omega (arith, below, slot_once d.writing b j (omega (arith, below, d.line)) d.line e)) (d.before b below);
            here = holding_here sys s s' all settled core host t d.writing line k value of left k (slot_part t.words j) refl (sym (part_word t.words j k lt)) lt (part_length t.words j long) d.here;
          },
        );
        others = λ h ne. store_keeps sys s s' all settled core host t d.writing line k value of left h ne;
      }

  -- a line whose words are all stored is sent
  sent_data : (j : ℕ) → StoresData j 8 sys host t s all settled → LeavesAt host (line_of t.entry j) s s' (sent (s.memory (line_of t.entry j)) (s.copy host (line_of t.entry j))) Absent
      → Finished (data_words t j) (s'.memory (line_of t.entry j)) (s'.copy host (line_of t.entry j))
  sent_data j d left =
      rw (left.memory_is, left.copy_is) (sent_whole (data_words t j) _ _ refl (core.wide.memory (line_of t.entry j)) (core.wide.copies host (line_of t.entry j)) d.here, tt)

  -- a line of the slot is asked for
  asked_slot : (j : ℕ) → StoresSlot j 8 sys host t s' all settled
      → LeavesAt host (slot_line t.params t.gate j) s s' (s.memory (slot_line t.params t.gate j))
      (asked_for (s.copy host (slot_line t.params t.gate j)))
      → Asked (slot_part t.words j) (s'.memory (slot_line t.params t.gate j)) (s'.copy host (slot_line t.params t.gate j))
  asked_slot j d left = (d.here, subst IsHandedOver (sym left.copy_is) (asked_handed (s.copy host (slot_line t.params t.gate j))))

  -- a fence
  fenced : Fences host s s' → Sent sys all settled s s'
  fenced f = sends_keep sys all settled host f.lines s s' f.sends core

  fence_now : (p : Phase) → Fences host s s' → AtPhase p sys host floor t s all settled → AtPhase p sys host floor t s' all settled
  fence_now p f known = phase_kept sys s s' all settled core host floor ((fenced f).keeps host) p t known

  -- behind it the slot is finished
  slot_finished : Fences host s s' → AwaitsSlot sys host t s' all settled → MayPublish sys host t s' all settled
  slot_finished f d = record {
    writing = d.writing;
    contents = d.contents;
    slot = λ b lt.
        let line = slot_line t.params t.gate b in
        let long : 8 * b + 8 ≤ length t.words = omega (arith, lt, ap length d.writing.words ∙ spelling_count sys.params d.writing.file.entry t.gate, (shape sys.params).words) in
        finished_then (slot_part t.words b) (s'.memory line) (s'.copy host line) (part_length t.words b long) ((fenced f).core.wide.memory line)
        (d.slot b lt).0 (not_dirty_then (s'.copy host line) (d.slot b lt).1 (f.none_asked line));
  }

  -- and the gate is sent
  gate_finished : Fences host s s' → HasPublished sys host t s' all → IsHandedOver (s'.copy host gate_line) → gate_of (s'.memory gate_line) ≡ t.gate + 1
  gate_finished f d handed =
      sym (top_then (s'.memory gate_line) (s'.copy host gate_line) (not_dirty_then (s'.copy host gate_line) handed (f.none_asked gate_line)))
      ∙ ap (λ (o : Option ℕ). top (s'.memory gate_line) (masters_copy o s' gate_line)) (sym d.master) ∙ d.published

  -- a Digest touches no line
  still : (p : Phase) → Given p sys host floor word t s all settled → Leaves p sys host floor word t s s all settled
  still p given = record { core = core; given = given; others = λ h _. same_keeps sys h settled s }

  -- an operation at any place
  pub gives : (p : Phase) → AtPhase p sys host floor t s all settled → Operates (op_at t p) host s s' word → Leaves p sys host floor word t s s' all settled
  gives at.DropMagic known left =
      let d = absent_transfers (s.memory 0) (s.copy host 0) in
      by_transfer at.DropMagic 0 _ _ left d known (phase_now at.DropMagic 0 _ _ left d known, left.copy_is)
  gives at.Magic known left =
      let d = brought_transfers (s.memory 0) (s.copy host 0) in
      by_transfer at.Magic 0 _ _ left.0 d known (phase_now at.Magic 0 _ _ left.0 d known, loaded 0 0 left.0 left.1 known.1)
  gives (at.Drop part j) known left =
      let line = part_line t part j in
      let d = absent_transfers (s.memory line) (s.copy host line) in
      by_transfer (at.Drop part j) line _ _ left d known (phase_now (at.Drop part j) line _ _ left d known, left.copy_is)
  gives (at.Word part j k) known left =
      let line = part_line t part j in
      let d = brought_transfers (s.memory line) (s.copy host line) in
      by_transfer (at.Word part j k) line _ _ left.0 d known (phase_now (at.Word part j k) line _ _ left.0 d known, λ sure. loaded line k left.0 left.1 (known.3 sure).0)
  gives at.DropGate known left =
      let d = absent_transfers (s.memory gate_line) (s.copy host gate_line) in
      by_transfer at.DropGate gate_line _ _ left d known (phase_now at.DropGate gate_line _ _ left d known, left.copy_is)
  gives at.Gate known left =
      let d = brought_transfers (s.memory gate_line) (s.copy host gate_line) in
      by_transfer at.Gate gate_line _ _ left.0 d known (phase_now at.Gate gate_line _ _ left.0 d known, gives_gate left.0 left.1 known.3)
  gives (at.Check i) known same = rw same (still (at.Check i) known)
  gives at.Decide known same = rw same (still at.Decide known)
  gives (at.StoreData j k) known left = store_data j k known.0 known.1 left
  gives (at.SendData j) known left =
      let line = line_of t.entry j in
      let d = absent_transfers (s.memory line) (s.copy host line) in
      by_transfer (at.SendData j) line _ _ left d known (phase_now (at.SendData j) line _ _ left d known, sent_data j known left)
  gives (at.StoreSlot j k) known left = store_slot j k known.0 known.1 left
  gives (at.SendSlot j) known left =
      let line = slot_line t.params t.gate j in
      let d = asked_for_transfers (s.memory line) (s.copy host line) in
      let now = phase_now (at.SendSlot j) line _ _ left d known in
      by_transfer (at.SendSlot j) line _ _ left d known (now, asked_slot j now left)
  gives at.FenceSlot known left =
      record { core = (fenced left).core; given = slot_finished left (fence_now at.FenceSlot left known); others = λ h _. (fenced left).keeps h }
  gives at.StoreGate known left = record {
    core = core_published sys s s' all settled core host t known left;
    given = has_published sys s s' all settled core host t known left;
    others = λ h ne. publish_keeps sys s s' all settled core host t known left h ne;
  }
  gives at.SendGate known left =
      let d = asked_for_transfers (s.memory gate_line) (s.copy host gate_line) in
      by_transfer at.SendGate gate_line _ _ left d known
      (phase_now at.SendGate gate_line _ _ left d known, subst IsHandedOver (sym left.copy_is) (asked_handed (s.copy host gate_line)))
  gives at.FenceGate known left =
      let now = fence_now at.FenceGate left known in
      record { core = (fenced left).core; given = (now.0, gate_finished left now.0 now.1); others = λ h _. (fenced left).keeps h }
