-- A command that runs alone while it appends its entry: which lines of memory and of its cache are otherwise than the
-- image's.
use Rattle.std.proofs.Common.{ℕ, ◌≡◌, ◌≢◌, ◌+◌, ◌*◌, ◌/◌, ◌<◌, Bool, true, false, List, length, Option, Some, inl, inr, refl, sym, ◌∙◌, ap, subst, arith}
use Rattle.std.specs.Prelude.{nat_lt, if◌then◌else◌, slice_set}
use Rattle.std.proofs.lemmas.Bool.{cases_eq}
use Rattle.std.proofs.lemmas.Option.{same_Some}
use Rattle.fam_base.specs.declared.cmd.Cmd.{Cmd}
use Rattle.fam_base.specs.declared.entry.Params.{Params}
use Rattle.fam_base.specs.declared.entry.Entry.{Entry}
use Rattle.fam_base.specs.Image.{Image, line_at}
use Rattle.fam_format.specs.Layout.{geometry, gate_line, slot_line}
use Rattle.fam_format.specs.Params.{SoundParams}
use Rattle.fam_format.specs.Slot.{Proper, spelling}
use Rattle.fam_machine.specs.declared.cell.Cell.{Cell}
use Rattle.fam_machine.specs.declared.cell.Cell.TheVariants.{Clean, Dirty}
use Rattle.fam_machine.specs.declared.op.Op.{Op}
use Rattle.fam_machine.specs.declared.op.Op.TheVariants.{Store, Fence}
use Rattle.fam_commands.specs.declared.phase.Phase.{Phase}
use Rattle.fam_commands.specs.declared.phase.Phase.TheVariants as at
use Rattle.fam_machine.specs.Caches.{IsClean, IsCleanCell, cell_at}
use Rattle.fam_machine.specs.OneLine.{asked_for, stored}
use Rattle.fam_machine.specs.Operations.{Machine, operated, line_no}
use Rattle.fam_commands.specs.Stands.{task_after}
use Rattle.fam_commands.specs.Task.{Task, line_of, op_at, size_of}
use Rattle.fam_commands.specs.Turns.{Ends, turn_at}
use Rattle.fam_machine.proofs.CacheLemmas.{cell_at-with_cell_same}
use Rattle.fam_rules.specs.Solo.{content_of}
use Rattle.fam_rules.specs.Asks.{File}
use Rattle.fam_rules.specs.Content.{content_line, file_words, fill}
use Rattle.fam_rules.specs.Place.{line_bytes}
use Rattle.fam_rules.specs.Reply.{Reply, Appended}
use Rattle.fam_rules.specs.Written.{file_line, lines_of, slot_part}
use Rattle.fam_rules.specs.WrittenLaws.{IsAppended}
use Rattle.fam_protocol.specs.Core.{IsEntryLine, System}
use Rattle.fam_protocol.specs.Lines.{Fresh}
use Rattle.fam_protocol.specs.Tasks.{AtPhase, MayPublish}
use Rattle.fam_machine.proofs.OneOperation.{IsAt, cache_away, memory_away, operated_length}
use Rattle.fam_machine.proofs.FenceLemmas.{fence_away, fence_here}
use Rattle.fam_solo.proofs.Machine.{clean_fresh, clean_unasked, fresh_unasked}
use Rattle.fam_solo.proofs.OneHost.{shared}
use Rattle.fam_solo.proofs.Written.{count_file, file_count, in_row}
use Rattle.fam_protocol.proofs.Lines.Apart.{line_behind}
use Rattle.fam_protocol.proofs.Lines.Moves.{fresh_current}

-- a line is as in the image, and its copy has nothing to send
abbrev pub Untouched : Image → Machine → ℕ → Type 0
Untouched image m l = (line_at m.image l ≡ line_at image l) × IsCleanCell (cell_at m.cache l)

-- nor is its copy stale
abbrev pub Current : Image → Machine → ℕ → Type 0
Current image m l = (line_at m.image l ≡ line_at image l) × Fresh (line_at m.image l) (cell_at m.cache l)

-- an operation at another line
away : (P : List ℕ → Cell → Type 0) (op : Op) (m : Machine) (line l : ℕ) → IsAt op line → l ≢ line → P (line_at m.image l) (cell_at m.cache l)
    → P (line_at (operated op m).image l) (cell_at (operated op m).cache l)
away P op m line l at other was =
    subst (λ (w : List ℕ). P w (cell_at (operated op m).cache l)) (sym (memory_away op m line l at other))
    (subst (P (line_at m.image l)) (sym (cache_away op m line l at other)) was)

-- the lines of the file and of the slot are written, and nothing of them is left to be sent
pub record HasLines (cmd : Cmd) (p : Params) (n : ℕ) (e : Entry) (m : Machine) : Type 0 where
  pub file : (j : ℕ) → line_bytes * j < e.size → line_at m.image (file_line e j) ≡ file_words (fill (content_of cmd) e.size) j
  pub slot : (j : ℕ) → j < (geometry p).lines → line_at m.image (slot_line p n j) ≡ slot_part (spelling (geometry p) e n) j
  pub file_sent : (j : ℕ) → line_bytes * j < e.size → IsCleanCell (cell_at m.cache (file_line e j))
  pub slot_sent : (j : ℕ) → j < (geometry p).lines → IsCleanCell (cell_at m.cache (slot_line p n j))

-- the gate's line is untouched up to its store
abbrev pub GateAt : Phase → Cmd → Image → Params → ℕ → Entry → Machine → Type 0
GateAt (at.StoreData j k) cmd image p n e m = Current image m gate_line
GateAt (at.SendData j) cmd image p n e m = Current image m gate_line
GateAt (at.StoreSlot j k) cmd image p n e m = Current image m gate_line
GateAt (at.SendSlot j) cmd image p n e m = Current image m gate_line
GateAt at.StoreGate cmd image p n e m = Current image m gate_line
GateAt at.FenceSlot cmd image p n e m = Current image m gate_line
GateAt at.SendGate cmd image p n e m = HasLines cmd p n e m × (cell_at m.cache gate_line ≡ Dirty false (slice_set (line_at image gate_line) 0 (n + 1)))
GateAt at.FenceGate cmd image p n e m = HasLines cmd p n e m × (cell_at m.cache gate_line ≡ Dirty true (slice_set (line_at image gate_line) 0 (n + 1)))
GateAt at.DropMagic cmd image p n e m = ⊥
GateAt at.Magic cmd image p n e m = ⊥
GateAt (at.Drop part j) cmd image p n e m = ⊥
GateAt (at.Word part j k) cmd image p n e m = ⊥
GateAt at.DropGate cmd image p n e m = ⊥
GateAt at.Gate cmd image p n e m = ⊥
GateAt (at.Check i) cmd image p n e m = ⊥
GateAt at.Decide cmd image p n e m = ⊥

-- the command appends entry n
pub record Writing (cmd : Cmd) (image : Image) (p : Params) (n : ℕ) (e : Entry) (t : Task) (m : Machine) : Type 0 where
  pub entry : t.entry ≡ Some e
  pub others : (l : ℕ) → (IsEntryLine p n e l → ⊥) → l ≢ gate_line → Untouched image m l
  pub gate : GateAt t.phase cmd image p n e m

module _ (cmd : Cmd) (image : Image) (p : Params) (n : ℕ) (e : Entry) (sound : SoundParams p) (left : n < p.slots) (proper : Proper p e) where
  -- no line of the entry is the gate's
  no_gate : (l : ℕ) → IsEntryLine p n e l → gate_line ≢ l
  no_gate l line same = omega (arith, line_behind p n e l sound left proper line)

  module _ (have : ℕ) (uuid : ℕ → Option (List ℕ)) (master : Option ℕ) (all : List File) (t next : Task) (m : Machine) (word : ℕ) (cmd_is : t.cmd ≡ cmd) (entry : t.entry ≡ Some e)
      (others : (l : ℕ) → (IsEntryLine p n e l → ⊥) → l ≢ gate_line → Untouched image m l) where
    abbrev pub sys : System
    sys = record { params = p; have = have; uuid = uuid; master = master }

    -- an operation at a line of the entry
    off_line : (op : Op) (line : ℕ) → IsAt op line → IsEntryLine p n e line → (l : ℕ) → (IsEntryLine p n e l → ⊥) → l ≢ gate_line → Untouched image (operated op m) l
    off_line op line at is l none other = away (λ w c. (w ≡ line_at image l) × IsCleanCell c) op m line l at (λ same. none (subst (IsEntryLine p n e) (sym same) is)) (others l none other)

    on_line : (op : Op) (line : ℕ) → IsAt op line → IsEntryLine p n e line → Current image m gate_line → Current image (operated op m) gate_line
    on_line op line at is gate = away (λ w c. (w ≡ line_at image gate_line) × Fresh w c) op m line gate_line at (no_gate line is) gate

    of_file : (j : ℕ) (file : Entry) → t.entry ≡ Some file → line_bytes * j < file.size → IsEntryLine p n e (line_of t.entry j)
    of_file j file is below =
        let same : file ≡ e = same_Some file e (sym is ∙ entry) in
        inr (j, subst (λ (x : Entry). line_bytes * j < x.size) same below, ap (λ (o : Option Entry). line_of o j) entry)

    of_slot : (j : ℕ) → t.params ≡ p → n ≡ t.gate → j < (geometry p).lines → IsEntryLine p n e (slot_line t.params t.gate j)
    of_slot j params gate below = inl (j, below, ap (λ (q : Params). slot_line q t.gate j) params ∙ ap (λ (i : ℕ). slot_line p i j) (sym gate))

    -- the next place
    then_store : (b : Bool) (j k : ℕ) (m' : Machine) → Current image m' gate_line → GateAt (if b then at.StoreData j (k + 1) else at.SendData j) cmd image p n e m'
    then_store true j k m' gate = gate
    then_store false j k m' gate = gate

    then_data : (b : Bool) (j : ℕ) (m' : Machine) → Current image m' gate_line → GateAt (if b then at.StoreData (j + 1) 0 else at.StoreSlot 0 0) cmd image p n e m'
    then_data true j m' gate = gate
    then_data false j m' gate = gate

    then_slot : (b : Bool) (j k : ℕ) (m' : Machine) → Current image m' gate_line → GateAt (if b then at.StoreSlot j (k + 1) else at.SendSlot j) cmd image p n e m'
    then_slot true j k m' gate = gate
    then_slot false j k m' gate = gate

    then_gate : (b : Bool) (j : ℕ) (m' : Machine) → Current image m' gate_line → GateAt (if b then at.StoreSlot (j + 1) 0 else at.FenceSlot) cmd image p n e m'
    then_gate true j m' gate = gate
    then_gate false j m' gate = gate

    -- the task that goes on
    on : (phase : Phase) (m' : Machine) → Some (record t { phase = phase }) ≡ Some next
        → ((l : ℕ) → (IsEntryLine p n e l → ⊥) → l ≢ gate_line → Untouched image m' l) → GateAt phase cmd image p n e m'
        → Writing cmd image p n e next m'
    on phase m' is off gate = subst (λ (x : Task). Writing cmd image p n e x m') (same_Some (record t { phase = phase }) next is) record { entry = entry; others = off; gate = gate }

    -- what is finished before the gate is stored
    all_lines : MayPublish sys 0 t (shared m) all n → HasLines cmd p n e m
    all_lines a = record {
      file = λ j below.
          let done = a.contents (j + 1) j (omega arith) (subst (λ (o : Option Entry). line_bytes * j < size_of o) (sym entry) below) in
          ap (λ (o : Option Entry). line_at m.image (line_of o j)) (sym entry) ∙ done.0
          ∙ ap (λ (o : Option Entry). content_line (content_of t.cmd) (size_of o) j) entry
          ∙ ap (λ (c : Cmd). content_line (content_of c) e.size j) cmd_is;
      slot = λ j below.
          let done = a.slot j below in
          let same : a.writing.file.entry ≡ e = same_Some a.writing.file.entry e (sym a.writing.entry ∙ entry) in
          ap (λ (i : ℕ). line_at m.image (slot_line p i j)) a.writing.settled_is
          ∙ ap (λ (q : Params). line_at m.image (slot_line q t.gate j)) (sym a.writing.params) ∙ done.0
          ∙ ap (λ (w : List ℕ). slot_part w j) a.writing.words
          ∙ ap (λ (x : Entry). slot_part (spelling (geometry p) x t.gate) j) same
          ∙ ap (λ (i : ℕ). slot_part (spelling (geometry p) e i) j) (sym a.writing.settled_is);
      file_sent = λ j below.
          let done = a.contents (j + 1) j (omega arith) (subst (λ (o : Option Entry). line_bytes * j < size_of o) (sym entry) below) in
          subst (λ (o : Option Entry). IsCleanCell (cell_at m.cache (line_of o j))) entry (clean_fresh (line_at m.image (line_of t.entry j)) (cell_at m.cache (line_of t.entry j)) refl done.1);
      slot_sent = λ j below.
          let done = a.slot j below in
          subst (λ (i : ℕ). IsCleanCell (cell_at m.cache (slot_line p i j))) (sym a.writing.settled_is)
          (subst (λ (q : Params). IsCleanCell (cell_at m.cache (slot_line q t.gate j))) a.writing.params
          (clean_fresh (line_at m.image (slot_line t.params t.gate j)) (cell_at m.cache (slot_line t.params t.gate j)) refl done.1));
    }

    -- the store of the gate
    gate_stored : n ≡ t.gate → Current image m gate_line → cell_at (operated (Store (line_no gate_line) 0 (t.gate + 1)) m).cache gate_line ≡ Dirty false (slice_set (line_at image gate_line) 0 (n + 1))
    gate_stored gate_is gate =
        cell_at-with_cell_same gate_line (stored 0 (t.gate + 1) (line_at m.image gate_line) (cell_at m.cache gate_line)) m.cache
        ∙ ap (λ (w : List ℕ). Dirty false (slice_set w 0 (t.gate + 1))) (fresh_current (line_at m.image gate_line) (cell_at m.cache gate_line) gate.1 ∙ gate.0)
        ∙ ap (λ (i : ℕ). Dirty false (slice_set (line_at image gate_line) 0 (i + 1))) (sym gate_is)

    pub writes_on : (pl : Phase) (floor : Option ℕ) → AtPhase pl sys 0 floor t (shared m) all n → GateAt pl cmd image p n e m
        → task_after (turn_at pl t word) ≡ Some next → Writing cmd image p n e next (operated (op_at t pl) m)
    writes_on (at.StoreData j k) floor a gate is =
        let line = of_file j a.1.writing.file.entry a.1.writing.entry a.1.line in
        on _ (operated (op_at t (at.StoreData j k)) m) is (off_line (op_at t (at.StoreData j k)) (line_of t.entry j) refl line)
        (then_store (nat_lt k 7) j k _ (on_line (op_at t (at.StoreData j k)) (line_of t.entry j) refl line gate))
    writes_on (at.SendData j) floor a gate is =
        let line = of_file j a.writing.file.entry a.writing.entry a.line in
        on _ (operated (op_at t (at.SendData j)) m) is (off_line (op_at t (at.SendData j)) (line_of t.entry j) refl line)
        (then_data (nat_lt (j + 1) (lines_of (size_of t.entry))) j _ (on_line (op_at t (at.SendData j)) (line_of t.entry j) refl line gate))
    writes_on (at.StoreSlot j k) floor a gate is =
        let line = of_slot j a.1.writing.params a.1.writing.settled_is a.1.line in
        on _ (operated (op_at t (at.StoreSlot j k)) m) is (off_line (op_at t (at.StoreSlot j k)) (slot_line t.params t.gate j) refl line)
        (then_slot (nat_lt k 7) j k _ (on_line (op_at t (at.StoreSlot j k)) (slot_line t.params t.gate j) refl line gate))
    writes_on (at.SendSlot j) floor a gate is =
        let line = of_slot j a.writing.params a.writing.settled_is a.line in
        on _ (operated (op_at t (at.SendSlot j)) m) is (off_line (op_at t (at.SendSlot j)) (slot_line t.params t.gate j) refl line)
        (then_gate (nat_lt (j + 1) (geometry t.params).lines) j _
        (on_line (op_at t (at.SendSlot j)) (slot_line t.params t.gate j) refl line gate))
    writes_on at.StoreGate floor a gate is =
        on at.SendGate (operated (op_at t at.StoreGate) m) is
        (λ l none other. away (λ w c. (w ≡ line_at image l) × IsCleanCell c) (op_at t at.StoreGate) m gate_line l refl other
        (others l none other)) (
          let lines = all_lines a in
              record {
                file = lines.file;
                slot = lines.slot;
                file_sent = λ j below. subst IsCleanCell
                    (sym (cache_away (op_at t at.StoreGate) m gate_line (file_line e j) refl
                    (λ same. no_gate (file_line e j) (inr (j, below, refl)) (sym same)))) (lines.file_sent j below);
                slot_sent = λ j below. subst IsCleanCell
                    (sym (cache_away (op_at t at.StoreGate) m gate_line (slot_line p n j) refl
                    (λ same. no_gate (slot_line p n j) (inl (j, below, refl)) (sym same)))) (lines.slot_sent j below);
              },
          gate_stored a.writing.settled_is gate,
        )
    writes_on at.FenceSlot floor a gate is =
        on at.StoreGate (operated Fence m) is
        (λ l none other.
        let was = others l none other in
        let same = fence_away m l (clean_unasked (cell_at m.cache l) was.1) in (same.0 ∙ was.0, subst IsCleanCell (sym same.1) was.1)) (
        let same = fence_away m gate_line (fresh_unasked (line_at m.image gate_line) (cell_at m.cache gate_line) gate.1) in (
          same.0 ∙ gate.0,
          subst (λ (w : List ℕ). Fresh w (cell_at (operated Fence m).cache gate_line)) (sym same.0) (subst (Fresh (line_at m.image gate_line)) (sym same.1) gate.1),
        )
        )
    writes_on at.SendGate floor a gate is =
        on at.FenceGate (operated (op_at t at.SendGate) m) is
        (λ l none other. away (λ w c. (w ≡ line_at image l) × IsCleanCell c) (op_at t at.SendGate) m gate_line l refl other (others l none other)) (
          let lines = gate.0 in
              record {
                file = lines.file;
                slot = lines.slot;
                file_sent = λ j below. subst IsCleanCell
                    (sym (cache_away (op_at t at.SendGate) m gate_line (file_line e j) refl
                    (λ same. no_gate (file_line e j) (inr (j, below, refl)) (sym same)))) (lines.file_sent j below);
                slot_sent = λ j below. subst IsCleanCell
                    (sym (cache_away (op_at t at.SendGate) m gate_line (slot_line p n j) refl
                    (λ same. no_gate (slot_line p n j) (inl (j, below, refl)) (sym same)))) (lines.slot_sent j below);
              },
          cell_at-with_cell_same gate_line (asked_for (cell_at m.cache gate_line)) m.cache ∙ ap asked_for gate.1,
        )
    writes_on at.FenceGate floor a gate is = absurd (cc)
    writes_on e floor a gate is = absurd gate

    -- The last operation.

    pub all_written : length m.image ≡ length image → gate_line < length m.image → GateAt at.FenceGate cmd image p n e m
        → IsAppended p n e (fill (content_of cmd) e.size) image (operated Fence m).image
    all_written count inside gate = record {
      count = operated_length Fence m ∙ count;
      file = λ j below. (fence_away m (file_line e j) (clean_unasked (cell_at m.cache (file_line e j)) (gate.0.file_sent j below))).0 ∙ gate.0.file j below;
      slot = λ j below. (fence_away m (slot_line p n j) (clean_unasked (cell_at m.cache (slot_line p n j)) (gate.0.slot_sent j below))).0 ∙ gate.0.slot j below;
      gate = (fence_here m gate_line (slice_set (line_at image gate_line) 0 (n + 1)) inside gate.1).1;
      others = λ l other off_slot off_file.
          let was = others l (λ line. none_of l off_slot off_file line) other in
          (fence_away m l (clean_unasked (cell_at m.cache l) was.1)).0 ∙ was.0;
    }
      where
        none_of : (l : ℕ) → ((j : ℕ) → j < (geometry p).lines → l ≢ slot_line p n j) → ((j : ℕ) → line_bytes * j < e.size → l ≢ file_line e j) → IsEntryLine p n e l → ⊥
        none_of l off_slot off_file (inl line) = off_slot line.0 line.1 line.2
        none_of l off_slot off_file (inr line) = off_file line.0 line.1 line.2

    -- nothing is left to be sent
    elsewhere : HasLines cmd p n e m → (l : ℕ) → l ≢ gate_line → IsCleanCell (cell_at m.cache l)
    elsewhere lines l other =
        elim (in_row (slot_line p n) l (geometry p).lines) [
          | inl slot ↦ subst (λ (x : ℕ). IsCleanCell (cell_at m.cache x)) (sym slot.2) (lines.slot_sent slot.0 slot.1)
          | inr off_slot ↦
              elim (in_row (file_line e) l ((e.size + 63) / 64)) [
                | inl file ↦ subst (λ (x : ℕ). IsCleanCell (cell_at m.cache x)) (sym file.2) (lines.file_sent file.0 (file_count e.size file.0 file.1))
                | inr off_file ↦ (others l (λ line. of_neither l off_slot (λ j below. off_file j (count_file e.size j below)) line) other).1
              ]
        ]
      where
        of_neither : (l : ℕ) → ((j : ℕ) → j < (geometry p).lines → l ≢ slot_line p n j) → ((j : ℕ) → line_bytes * j < e.size → l ≢ file_line e j) → IsEntryLine p n e l → ⊥
        of_neither l off_slot off_file (inl line) = off_slot line.0 line.1 line.2
        of_neither l off_slot off_file (inr line) = off_file line.0 line.1 line.2

    pub all_sent : gate_line < length m.image → GateAt at.FenceGate cmd image p n e m → IsClean (operated Fence m).cache
    all_sent inside gate l =
        elim (cases_eq l gate_line) [
          | inl here ↦
              let copy : cell_at (operated Fence m).cache l ≡ Clean (slice_set (line_at image gate_line) 0 (n + 1)) =
              ap (cell_at (operated Fence m).cache) here ∙ (fence_here m gate_line (slice_set (line_at image gate_line) 0 (n + 1)) inside gate.1).0 in
              subst IsCleanCell (sym copy) refl
          | inr other ↦ let was = elsewhere gate.0 l other in subst IsCleanCell (sym (fence_away m l (clean_unasked (cell_at m.cache l) was)).1) was
        ]

    -- it ends there
    pub ends_there : (pl : Phase) (given : Reply) → GateAt pl cmd image p n e m → turn_at pl t word ≡ Ends given → (pl ≡ at.FenceGate) × (given ≡ Appended t.gate)
    ends_there at.FenceGate given gate is = (refl, cc)
    ends_there at.FenceSlot given gate is = absurd (cc)
    ends_there at.SendGate given gate is = absurd (cc)
    ends_there (at.StoreData j k) given gate is = absurd (cc)
    ends_there (at.SendData j) given gate is = absurd (cc)
    ends_there (at.StoreSlot j k) given gate is = absurd (cc)
    ends_there (at.SendSlot j) given gate is = absurd (cc)
    ends_there at.StoreGate given gate is = absurd (cc)
    ends_there e given gate is = absurd gate
