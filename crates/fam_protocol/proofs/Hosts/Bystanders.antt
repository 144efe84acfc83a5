-- What is known of a task stays where memory and its own host's cache stay, whatever the other caches do.
use Rattle.std.proofs.Common.{◌≡◌, ◌<◌, ℕ, List, Option, Some, sym, ap, subst, ◌∙◌}
use Rattle.fam_format.specs.Layout.{geometry, gate_line, slot_line}
use Rattle.fam_format.specs.Slot.{spelling}
use Rattle.fam_base.specs.declared.entry.Params.{Params}
use Rattle.fam_machine.specs.declared.cell.Cell.{Cell}
use Rattle.fam_commands.specs.declared.phase.Part.{Part}
use Rattle.fam_commands.specs.declared.phase.Part.TheVariants.{Superblock, Header, Slot, File as FileLines}
use Rattle.fam_commands.specs.declared.phase.Phase.{Phase}
use Rattle.fam_commands.specs.declared.phase.Phase.TheVariants as at
use Rattle.fam_commands.specs.Task.{Task, data_words, line_of, part_line}
use Rattle.fam_rules.specs.Asks.{File}
use Rattle.fam_rules.specs.Written.{slot_part}
use Rattle.fam_protocol.specs.SharedState.{SharedState}
use Rattle.fam_protocol.specs.Lines.{Fresh, FreshGate, Holding, IsHandedOver, Finished, top}
use Rattle.fam_protocol.specs.Core.{System, masters_copy, top_of}
use Rattle.fam_protocol.specs.Tasks.{AtPhase, OnPart, IsBeingRead, KnowsHead, KnowsGate, HasReadAll, IsAtSlot, IsAtFile, IsWriting, HasData, HasAllData, HasAskedLines, HasWrittenLines, AwaitsSlot, StoresData, StoresSlot, MayPublish, HasPublished, IsAtGate}
use Rattle.fam_protocol.specs.Bad.{AtDamagedPhase}

-- the same memory, with these copies
abbrev pub with_copies : SharedState → (ℕ → ℕ → Cell) → SharedState
with_copies s copy = record { memory = s.memory; copy = copy }

module _ (sys sys' : System) (host : ℕ) (floor : Option ℕ) (t : Task) (s : SharedState) (copy : ℕ → ℕ → Cell) (all : List File) (settled : ℕ)
    (params : sys'.params ≡ sys.params) (on : sys.master ≡ Some host → sys'.master ≡ Some host)
    (back : sys'.master ≡ Some host → sys.master ≡ Some host) (same : (l : ℕ) → copy host l ≡ s.copy host l) where
  -- the host's copy of a line
  fresh_kept : (l : ℕ) → Fresh (s.memory l) (s.copy host l) → Fresh (s.memory l) (copy host l)
  fresh_kept l h = subst (Fresh (s.memory l)) (sym (same l)) h

  finished_kept : (wanted : List ℕ) (l : ℕ) → Finished wanted (s.memory l) (s.copy host l) → Finished wanted (s.memory l) (copy host l)
  finished_kept wanted l h = subst (Finished wanted (s.memory l)) (sym (same l)) h

  holding_kept : (k : ℕ) (wanted : List ℕ) (l : ℕ) → Holding k wanted (s.memory l) (s.copy host l) → Holding k wanted (s.memory l) (copy host l)
  holding_kept k wanted l h = subst (Holding k wanted (s.memory l)) (sym (same l)) h

  handed_kept : (l : ℕ) → IsHandedOver (s.copy host l) → IsHandedOver (copy host l)
  handed_kept l h = subst IsHandedOver (sym (same l)) h

  -- the master's top, where the host is the master
  top_kept : sys.master ≡ Some host → top_of sys' (with_copies s copy) ≡ top_of sys s
  top_kept master =
      ap (λ (m : Option ℕ). top (s.memory gate_line) (masters_copy m (with_copies s copy) gate_line)) (on master)
      ∙ ap (λ (c : Cell). top (s.memory gate_line) c) (same gate_line)
      ∙ sym (ap (λ (m : Option ℕ). top (s.memory gate_line) (masters_copy m s gate_line)) master)

  -- reading
  head_kept : KnowsHead sys host t → KnowsHead sys' host t
  head_kept h = record { params = h.params ∙ sym params; master = λ w is. on (h.master w is) }

  gate_kept : KnowsGate host floor t s all settled → KnowsGate host floor t (with_copies s copy) all settled
  gate_kept h = record { low = h.low; high = h.high; writer = h.writer }

  all_kept : HasReadAll host floor t s all settled → HasReadAll host floor t (with_copies s copy) all settled
  all_kept h = record { gate = gate_kept h.gate; read = h.read }

  slot_kept : (i : ℕ) → IsAtSlot i host floor t s all settled → IsAtSlot i host floor t (with_copies s copy) all settled
  slot_kept i h = record { gate = gate_kept h.gate; below = h.below; read = h.read }

  file_kept : (j : ℕ) → IsAtFile j host floor t s all settled → IsAtFile j host floor t (with_copies s copy) all settled
  file_kept j h = record { all_read = all_kept h.all_read; file = h.file }

  part_kept : (part : Part) (j : ℕ) → OnPart part j sys host floor t s all settled → OnPart part j sys' host floor t (with_copies s copy) all settled
  part_kept Superblock j h = h
  part_kept Header j h = (h.0, head_kept h.1)
  part_kept (Slot i) j h = (head_kept h.0, slot_kept i h.1)
  part_kept FileLines j h = (head_kept h.0, file_kept j h.1)

  reading_kept : (part : Part) (j k : ℕ) → IsBeingRead host t part j k s → IsBeingRead host t part j k (with_copies s copy)
  reading_kept part j k h sure = (fresh_kept (part_line t part j) (h sure).0, (h sure).1)

  at_gate_kept : IsAtGate sys host floor s settled → IsAtGate sys' host floor (with_copies s copy) settled
  at_gate_kept h = record {
    low = h.low;
    copy = subst (FreshGate floor (s.memory gate_line)) (sym (same gate_line)) h.copy;
    masters = λ is. fresh_kept gate_line (h.masters (back is));
  }

  -- writing
  writing_kept : IsWriting sys host t s all settled → IsWriting sys' host t (with_copies s copy) all settled
  writing_kept h = record {
    master = on h.master;
    params = h.params ∙ sym params;
    settled_is = h.settled_is;
    pending = h.pending;
    unpublished = top_kept h.master ∙ h.unpublished;
    file = h.file;
    last = h.last;
    entry = h.entry;
    bytes = h.bytes;
    content = h.content;
    words = h.words ∙ ap (λ (p : Params). spelling (geometry p) h.file.entry t.gate) (sym params);
  }

  data_kept : (count : ℕ) → HasData count host t s → HasData count host t (with_copies s copy)
  data_kept count h b below some = finished_kept (data_words t b) (line_of t.entry b) (h b below some)

  all_data_kept : HasAllData host t s → HasAllData host t (with_copies s copy)
  all_data_kept h count = data_kept count (h count)

  slots_kept : (count : ℕ) → HasWrittenLines count host t s → HasWrittenLines count host t (with_copies s copy)
  slots_kept count h b below = finished_kept (slot_part t.words b) (slot_line t.params t.gate b) (h b below)

  asked_kept : (count : ℕ) → HasAskedLines count host t s → HasAskedLines count host t (with_copies s copy)
  asked_kept count h b below =
      (holding_kept 8 (slot_part t.words b) (slot_line t.params t.gate b) (h b below).0, handed_kept (slot_line t.params t.gate b) (h b below).1)

  stores_data_kept : (j k : ℕ) → StoresData j k sys host t s all settled → StoresData j k sys' host t (with_copies s copy) all settled
  unfolding writing_kept
  stores_data_kept j k h = record {
    writing = writing_kept h.writing;
    line = h.line;
    before = data_kept j h.before;
    here = holding_kept k (data_words t j) (line_of t.entry j) h.here;
  }

  stores_slot_kept : (j k : ℕ) → StoresSlot j k sys host t s all settled → StoresSlot j k sys' host t (with_copies s copy) all settled
  unfolding writing_kept
  stores_slot_kept j k h = record {
    writing = writing_kept h.writing;
    line = subst (λ (p : Params). j < (geometry p).lines) (sym params) h.line;
    contents = all_data_kept h.contents;
    before = asked_kept j h.before;
    here = holding_kept k (slot_part t.words j) (slot_line t.params t.gate j) h.here;
  }

  awaits_slot_kept : AwaitsSlot sys host t s all settled → AwaitsSlot sys' host t (with_copies s copy) all settled
  unfolding writing_kept
  awaits_slot_kept h = record {
    writing = writing_kept h.writing;
    contents = all_data_kept h.contents;
    slot =
        subst (λ (p : Params). HasAskedLines (geometry p).lines host t (with_copies s copy)) (sym params)
        (asked_kept (geometry sys.params).lines h.slot);
  }

  may_publish_kept : MayPublish sys host t s all settled → MayPublish sys' host t (with_copies s copy) all settled
  unfolding writing_kept
  may_publish_kept h = record {
    writing = writing_kept h.writing;
    contents = all_data_kept h.contents;
    slot =
        subst (λ (p : Params). HasWrittenLines (geometry p).lines host t (with_copies s copy)) (sym params)
        (slots_kept (geometry sys.params).lines h.slot);
  }

  published_kept : HasPublished sys host t s all → HasPublished sys' host t (with_copies s copy) all
  published_kept h = record {
    master = on h.master;
    published = top_kept h.master ∙ h.published;
    pending = h.pending;
    file = h.file;
    last = h.last;
    entry = h.entry;
  }

  -- A task in its phase
  pub phase_kept : (phase : Phase) → AtPhase phase sys host floor t s all settled → AtPhase phase sys' host floor t (with_copies s copy) all settled
  phase_kept at.DropMagic h = h
  phase_kept at.Magic h = (h.0, fresh_kept 0 h.1)
  phase_kept (at.Drop part j) (known, below, loaded) = (part_kept part j known, below, loaded)
  phase_kept (at.Word part j k) (known, below, within, reading) = (part_kept part j known, below, within, reading_kept part j k reading)
  phase_kept at.DropGate h = (h.0, h.1, head_kept h.2)
  phase_kept at.Gate h = (h.0, h.1, head_kept h.2, at_gate_kept h.3)
  phase_kept (at.Check i) (head, slot, words) = (head_kept head, slot_kept i slot, words)
  phase_kept at.Decide (head, read) = (head_kept head, all_kept read)
  phase_kept (at.StoreData j k) (below, stores) = (below, stores_data_kept j k stores)
  phase_kept (at.SendData j) h = stores_data_kept j 8 h
  phase_kept (at.StoreSlot j k) (below, stores) = (below, stores_slot_kept j k stores)
  phase_kept (at.SendSlot j) h = stores_slot_kept j 8 h
  phase_kept at.StoreGate h = may_publish_kept h
  phase_kept at.FenceSlot h = awaits_slot_kept h
  phase_kept at.SendGate h = published_kept h
  phase_kept at.FenceGate h = (published_kept h.0, handed_kept gate_line h.1)

module _ (image : ℕ → List ℕ) (have host : ℕ) (t : Task) (s : SharedState) (copy : ℕ → ℕ → Cell) (same : (l : ℕ) → copy host l ≡ s.copy host l) where
  still_fresh : (l : ℕ) → Fresh (s.memory l) (s.copy host l) → Fresh (s.memory l) (copy host l)
  still_fresh l h = subst (Fresh (s.memory l)) (sym (same l)) h

  -- a task on a damaged image
  pub bad_phase_kept : (phase : Phase) → AtDamagedPhase phase image have host t s → AtDamagedPhase phase image have host t (with_copies s copy)
  bad_phase_kept at.Magic h = (h.0, still_fresh 0 h.1)
  bad_phase_kept (at.Word part j k) (known, below, within, fresh, loaded) = (known, below, within, still_fresh (part_line t part j) fresh, loaded)
  bad_phase_kept at.Gate h = (h.0, h.1, h.2, still_fresh gate_line h.3)
  bad_phase_kept e h = h
