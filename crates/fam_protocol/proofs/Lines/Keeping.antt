-- What a host's task rests on, and that the task's facts hold where this stands.
use Rattle.std.proofs.Common.{ℕ, ◌+◌, ◌-◌, ◌*◌, ◌/◌, ◌%◌, ◌≤◌, ◌<◌, ◌≡◌, List, take, drop, sym, ◌∙◌, ap, subst, arith}
use Rattle.std.specs.Prelude.{slice_index, Option, Some}
use Rattle.fam_base.specs.declared.entry.Params.{Params}
use Rattle.fam_base.specs.declared.entry.Entry.{Entry}
use Rattle.fam_format.specs.Layout.{gate_line, slot_line, geometry}
use Rattle.fam_commands.specs.declared.phase.Part.{Part}
use Rattle.fam_commands.specs.declared.phase.Part.TheVariants.{Superblock, Header, Slot, File as FileLines}
use Rattle.fam_commands.specs.declared.phase.Phase.{Phase}
use Rattle.fam_commands.specs.declared.phase.Phase.TheVariants as at
use Rattle.fam_commands.specs.Task.{Task, data_words, first_line, line_of, part_count, part_line, size_of, wanted_lines}
use Rattle.fam_rules.specs.Asks.{File}
use Rattle.fam_rules.specs.Written.{slot_part}
use Rattle.fam_rules.proofs.RoomSame.{map_range_same}
use Rattle.fam_protocol.specs.SharedState.{SharedState}
use Rattle.fam_protocol.specs.Lines.{Fresh, Holding, IsHandedOver, Finished, gate_of}
use Rattle.fam_protocol.specs.Core.{System, Core, top_of}
use Rattle.fam_protocol.specs.Tasks.{AtPhase, TaskHolds, HasLoaded, HasReadAll, IsAtFile, IsAtGate, IsAtSlot, IsBeingRead, IsStable, IsWriting, HasPublished, KnowsGate, AwaitsSlot, MayPublish, OnPart, StoresData, StoresSlot, kept_from, part_words}
use Rattle.fam_protocol.proofs.Lines.Clean.{NobodyDirty, super_quiet, header_quiet, slot_quiet, file_quiet, wanted_line}

-- what a writer rests on
pub record KeepsWriting (sys : System) (h : ℕ) (s s' : SharedState) : Type 0 where
  pub top : top_of sys s' ≡ top_of sys s
  pub finished : (wanted : List ℕ) (l : ℕ) → Finished wanted (s.memory l) (s.copy h l) → Finished wanted (s'.memory l) (s'.copy h l)
  pub holding : (k : ℕ) (wanted : List ℕ) (l : ℕ) → Holding k wanted (s.memory l) (s.copy h l) → Holding k wanted (s'.memory l) (s'.copy h l)
  pub handed : (l : ℕ) → IsHandedOver (s.copy h l) → IsHandedOver (s'.copy h l)

-- what any task of host h rests on
pub record Keeps (sys : System) (h settled : ℕ) (s s' : SharedState) : Type 0 where
  pub quiet : (l : ℕ) → NobodyDirty s l → s'.memory l ≡ s.memory l
  pub fresh : (l : ℕ) → NobodyDirty s l → Fresh (s.memory l) (s.copy h l) → Fresh (s'.memory l) (s'.copy h l)
  pub gate : gate_of (s.memory gate_line) ≤ gate_of (s'.memory gate_line)
  pub at_gate : (floor : Option ℕ) → IsAtGate sys h floor s settled → IsAtGate sys h floor s' settled
  pub writing : sys.master ≡ Some h → KeepsWriting sys h s s'

-- the same lines have the same words
pub part_same : (memory memory' : ℕ → List ℕ) (t : Task) (part : Part)
    → ((n : ℕ) → n < part_count t part → memory' (part_line t part n) ≡ memory (part_line t part n))
    → part_words memory' t part ≡ part_words memory t part
part_same memory memory' t part lines =
    map_range_same _ _ 0 (8 * part_count t part) (λ n _ lt. ap (λ (w : List ℕ). slice_index w (n % 8)) (lines (n / 8) (omega (arith, lt))))

module _ (sys : System) (s s' : SharedState) (all : List File) (settled : ℕ) (core : Core sys s all settled) (h : ℕ) (floor : Option ℕ) (keeps : Keeps sys h settled s s') where
  gate_kept : (t : Task) → KnowsGate h floor t s all settled → KnowsGate h floor t s' all settled
  gate_kept t g = record { low = g.low; high = omega (arith, g.high, keeps.gate); writer = g.writer }

  read_all_kept : (t : Task) → HasReadAll h floor t s all settled → HasReadAll h floor t s' all settled
  read_all_kept t r = record { gate = gate_kept t r.gate; read = r.read }

  slot_kept : (i : ℕ) (t : Task) → IsAtSlot i h floor t s all settled → IsAtSlot i h floor t s' all settled
  slot_kept i t r = record { gate = gate_kept t r.gate; below = r.below; read = r.read }

  file_kept : (j : ℕ) (t : Task) → IsAtFile j h floor t s all settled → IsAtFile j h floor t s' all settled
  file_kept j t r = record { all_read = read_all_kept t r.all_read; file = r.file }

  -- nobody has a line of the part dirty
  pub part_quiet : (part : Part) (j n : ℕ) (t : Task) → OnPart part j sys h floor t s all settled → IsStable t part → n < part_count t part → NobodyDirty s (part_line t part n)
  part_quiet Superblock j n t on sure lt = super_quiet sys s all settled core (1 + n) (omega (arith, lt))
  part_quiet Header j n t on sure lt = header_quiet sys s all settled core
  part_quiet (Slot i) j n t on sure lt =
      subst (λ (p : Params). NobodyDirty s (slot_line p i n)) (sym on.0.params)
      (slot_quiet sys s all settled core i n (omega (arith, sure, on.1.gate.high, core.order))
      (subst (λ (p : Params). n < (geometry p).lines) on.0.params lt))
  part_quiet FileLines j n t on sure lt =
      let f = on.1.file in
      file_quiet sys s all settled core t.cmd t.entry f.i f.file (first_line t.cmd + n) f.is (omega (arith, f.below, on.1.all_read.gate.high, core.order)) f.entry
      (wanted_line t.cmd f.file.entry.size n (subst (λ (e : Option Entry). n < wanted_lines t.cmd (size_of e)) f.entry lt))

  loaded_kept : (part : Part) (j k : ℕ) (t : Task) → OnPart part j sys h floor t s all settled → IsStable t part → HasLoaded s.memory t part j k → HasLoaded s'.memory t part j k
  loaded_kept part j k t on sure has =
      has ∙ ap (λ (w : List ℕ). take (8 * j + k - kept_from t.cmd part j) (drop (kept_from t.cmd part j) w))
      (sym (part_same s.memory s'.memory t part (λ n lt. keeps.quiet _ (part_quiet part j n t on sure lt))))

  on_kept : (part : Part) (j : ℕ) (t : Task) → OnPart part j sys h floor t s all settled → OnPart part j sys h floor t s' all settled
  on_kept Superblock j t on = on
  on_kept Header j t on = on
  on_kept (Slot i) j t on = (on.0, slot_kept i t on.1)
  on_kept FileLines j t on = (on.0, file_kept j t on.1)

  reading_kept : (part : Part) (j k : ℕ) (t : Task) → OnPart part j sys h floor t s all settled → j < part_count t part → IsBeingRead h t part j k s → IsBeingRead h t part j k s'
  reading_kept part j k t on lt r sure = let was = r sure in (keeps.fresh _ (part_quiet part j j t on sure lt) was.0, loaded_kept part j k t on sure was.1)

  writing_kept : (t : Task) → IsWriting sys h t s all settled → IsWriting sys h t s' all settled
  writing_kept t w = record {
    master = w.master;
    params = w.params;
    settled_is = w.settled_is;
    pending = w.pending;
    unpublished = (keeps.writing w.master).top ∙ w.unpublished;
    file = w.file;
    last = w.last;
    entry = w.entry;
    bytes = w.bytes;
    content = w.content;
    words = w.words;
  }

  stores_data_kept : (j k : ℕ) (t : Task) → StoresData j k sys h t s all settled → StoresData j k sys h t s' all settled
  unfolding writing_kept
  stores_data_kept j k t d =
      let keep = keeps.writing d.writing.master in
      record {
        writing = writing_kept t d.writing;
        line = d.line;
        before = λ b lt small. keep.finished (data_words t b) (line_of t.entry b) (d.before b lt small);
        here = keep.holding k (data_words t j) (line_of t.entry j) d.here;
      }

  stores_slot_kept : (j k : ℕ) (t : Task) → StoresSlot j k sys h t s all settled → StoresSlot j k sys h t s' all settled
  stores_slot_kept j k t d =
      let keep = keeps.writing d.writing.master in
      record {
        writing = writing_kept t d.writing;
        line = d.line;
        contents = λ count b lt small. keep.finished (data_words t b) (line_of t.entry b) (d.contents count b lt small);
        before = λ b lt. (keep.holding 8 (slot_part t.words b) (slot_line t.params t.gate b) (d.before b lt).0, keep.handed (slot_line t.params t.gate b) (d.before b lt).1);
        here = keep.holding k (slot_part t.words j) (slot_line t.params t.gate j) d.here;
      }

  awaits_slot_kept : (t : Task) → AwaitsSlot sys h t s all settled → AwaitsSlot sys h t s' all settled
  awaits_slot_kept t d =
      let keep = keeps.writing d.writing.master in
      record {
        writing = writing_kept t d.writing;
        contents = λ count b lt small. keep.finished (data_words t b) (line_of t.entry b) (d.contents count b lt small);
        slot = λ b lt. (keep.holding 8 (slot_part t.words b) (slot_line t.params t.gate b) (d.slot b lt).0, keep.handed (slot_line t.params t.gate b) (d.slot b lt).1);
      }

  may_publish_kept : (t : Task) → MayPublish sys h t s all settled → MayPublish sys h t s' all settled
  may_publish_kept t d =
      let keep = keeps.writing d.writing.master in
      record {
        writing = writing_kept t d.writing;
        contents = λ count b lt small. keep.finished (data_words t b) (line_of t.entry b) (d.contents count b lt small);
        slot = λ b lt. keep.finished (slot_part t.words b) (slot_line t.params t.gate b) (d.slot b lt);
      }

  published_kept : (t : Task) → HasPublished sys h t s all → HasPublished sys h t s' all
  published_kept t d = record {
    master = d.master;
    published = (keeps.writing d.master).top ∙ d.published;
    pending = d.pending;
    file = d.file;
    last = d.last;
    entry = d.entry;
  }

  -- what is known in a phase stays
  pub phase_kept : (p : Phase) (t : Task) → AtPhase p sys h floor t s all settled → AtPhase p sys h floor t s' all settled
  phase_kept at.DropMagic t at = at
  phase_kept at.Magic t at = (at.0, keeps.fresh 0 (super_quiet sys s all settled core 0 (omega arith)) at.1)
  phase_kept (at.Drop part j) t at = (on_kept part j t at.0, at.1, λ sure. loaded_kept part j 0 t at.0 sure (at.2 sure))
  phase_kept (at.Word part j k) t at = (on_kept part j t at.0, at.1, at.2, reading_kept part j k t at.0 at.1 at.3)
  phase_kept at.DropGate t at = at
  phase_kept at.Gate t at = (at.0, at.1, at.2, keeps.at_gate floor at.3)
  phase_kept (at.Check i) t at =
      (at.0, slot_kept i t at.1, λ lt. at.2 lt ∙ sym (part_same s.memory s'.memory t (Slot i) (λ n small. keeps.quiet _ (part_quiet (Slot i) 0 n t (at.0, at.1) lt small))))
  phase_kept at.Decide t at = (at.0, read_all_kept t at.1)
  phase_kept (at.StoreData j k) t at = (at.0, stores_data_kept j k t at.1)
  phase_kept (at.SendData j) t at = stores_data_kept j 8 t at
  phase_kept (at.StoreSlot j k) t at = (at.0, stores_slot_kept j k t at.1)
  phase_kept (at.SendSlot j) t at = stores_slot_kept j 8 t at
  phase_kept at.StoreGate t at = may_publish_kept t at
  phase_kept at.FenceSlot t at = awaits_slot_kept t at
  phase_kept at.SendGate t at = published_kept t at
  phase_kept at.FenceGate t at = (published_kept t at.0, (keeps.writing at.0.master).handed gate_line at.1)

  -- what is known of a task stays
  pub task_kept : (t : Task) → TaskHolds sys h floor t s all settled → TaskHolds sys h floor t s' all settled
  task_kept t holds = record { command = holds.command; me = holds.me; lines = holds.lines; phase = phase_kept t.phase t holds.phase }
