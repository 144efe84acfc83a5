-- A task's operation asks for a line of the image, in whatever phase the task is.
use Rattle.std.proofs.Common.{◌≡◌, ℕ, ◌+◌, ◌*◌, ◌<◌, ◌≤◌, List, length, Option, Some, None, Ok, refl, ap, sym, subst, arith}
use Rattle.std.specs.Prelude.{⊤, slice_get, slice_index}
use Rattle.std.proofs.Math.Nat.{div-mul-le_self}
use Rattle.fam_base.specs.declared.cmd.Cmd.{Cmd}
use Rattle.fam_base.specs.declared.cmd.Cmd.TheVariants.{Logplay, Mount, Mkdir, Creat, Cp, Verify, Read, Check, Fsck}
use Rattle.fam_base.specs.declared.entry.Entry.{Entry}
use Rattle.fam_base.specs.declared.entry.Params.{Params}
use Rattle.fam_format.specs.Layout.{device_limit, gate_line, geometry, least_lines, slot_line}
use Rattle.fam_format.specs.Params.{SoundParams}
use Rattle.fam_format.specs.Reading.{Lines, super_in}
use Rattle.fam_format.specs.Slot.{Proper}
use Rattle.fam_machine.specs.declared.op.Op.{Op}
use Rattle.fam_machine.specs.declared.op.Op.TheVariants.{Load, Store, WriteBack, Fence, Invalidate, Digest}
use Rattle.fam_commands.specs.declared.phase.Part.{Part}
use Rattle.fam_commands.specs.declared.phase.Part.TheVariants.{Superblock, Header, Slot, File as FileLines}
use Rattle.fam_commands.specs.declared.phase.Phase.{Phase}
use Rattle.fam_commands.specs.declared.phase.Phase.TheVariants as at
use Rattle.fam_machine.specs.Operations.{IsInImage, Machine}
use Rattle.fam_machine.specs.Caches.{cell_at}
use Rattle.fam_machine.specs.OneLine.{IsDirty}
use Rattle.fam_protocol.specs.Hosted.{IsMachineOf}
use Rattle.fam_protocol.proofs.Lines.Moves.{asked_dirty}
use Rattle.fam_commands.specs.Table.{slots_of_cmd}
use Rattle.fam_commands.specs.Task.{Task, first_line, line_of, op_at, op_of, part_count, part_line, size_of, wanted_lines}
use Rattle.fam_commands.specs.Turns.{slots_read}
use Rattle.fam_commands.proofs.Rows.Slots.{slots_are}
use Rattle.fam_protocol.specs.After.{Run}
use Rattle.fam_protocol.specs.Bad.{AtDamagedPhase, OnBadPart, ReadsSlots}
use Rattle.fam_protocol.specs.Core.{Core, System}
use Rattle.fam_protocol.specs.SharedState.{SharedState}
use Rattle.fam_protocol.specs.Tasks.{AtPhase, OnPart}
use Rattle.fam_protocol.specs.Invariant.{Hosts, Settled, Small, Damaged, Known, InvariantBy}
use Rattle.fam_protocol.proofs.Lines.Apart.{line_begins, slot_before}
use Rattle.fam_protocol.proofs.Lines.Clean.{wanted_line}
use Rattle.fam_protocol.proofs.Hosts.SoundReads.{super_is_sound}
use Rattle.fam_rules.specs.Asks.{File}
use Rattle.fam_rules.specs.Place.{line_bytes}
use Rattle.fam_rules.specs.Written.{file_line}
use Rattle.fam_rules.proofs.FilePlaces.{place_before}

-- the operation's line, if it asks for one, is one of so many
abbrev pub AsksWithin : ℕ → Op → Type 0
AsksWithin lines (Load line k) = line.0 < lines
AsksWithin lines (Store line k value) = line.0 < lines
AsksWithin lines (WriteBack line) = line.0 < lines
AsksWithin lines (Invalidate line) = line.0 < lines
AsksWithin lines Fence = ⊤
AsksWithin lines Digest = ⊤

-- so it is inside a machine's image of so many lines, of which all that its cache has to send are lines
inside_of : (op : Op) (m : Machine) (lines : ℕ) → length m.image ≡ lines → ((l : ℕ) → IsDirty (cell_at m.cache l) → l < lines) → AsksWithin lines op → IsInImage op m
inside_of Fence m lines same dirty within = λ l is. omega (arith, same, dirty l (asked_dirty (cell_at m.cache l) is))
inside_of Digest m lines same dirty within = tt
inside_of e m lines same dirty within = omega (arith, same, within)

module _ (lines : ℕ) (enough : least_lines ≤ lines) (p : Params) (sound : SoundParams p) (device : p.device ≤ line_bytes * lines) where
  slot_within : (i j : ℕ) → i < p.slots → j < (geometry p).lines → slot_line p i j < lines
  slot_within i j below within = omega (arith, slot_before p i j sound below within, sound.need, device)

  file_within : (e : Entry) (j : ℕ) → Proper p e → line_bytes * j < e.size → file_line e j < lines
  file_within e j proper below =
      omega (arith, place_before p e (line_bytes * j) sound proper below, line_begins p e j sound proper below, div-mul-le_self p.device p.unit, device)

  -- how many slots are read
  slots_within : (t : Task) → t.params ≡ p → t.gate ≤ p.slots → slots_read t ≤ p.slots
  slots_within t same gate = subst (λ n. n ≤ p.slots) (slots_are t) (by_cmd t.cmd)
    where
      by_cmd : (cmd : Cmd) → slots_of_cmd cmd t.params t.gate ≤ p.slots
      by_cmd Logplay = gate
      by_cmd Mount = gate
      by_cmd (Mkdir path attr) = gate
      by_cmd (Creat path size attr stripe fill) = gate
      by_cmd (Cp path attr stripe bytes) = gate
      by_cmd (Verify path against) = gate
      by_cmd (Read path offset count) = gate
      by_cmd (Check listing) = gate
      by_cmd Fsck = omega (arith, ap (λ (q : Params). q.slots) same)

  -- a line of a slot that is read
  slot_part_within : (t : Task) (i j : ℕ) → t.params ≡ p → t.gate ≤ p.slots → i < slots_read t → j < part_count t (Slot i) → part_line t (Slot i) j < lines
  slot_part_within t i j same gate below within =
      subst (λ (q : Params). slot_line q i j < lines) (sym same) (slot_within i j (omega (arith, slots_within t same gate, below)) (subst (λ (q : Params). j < (geometry q).lines) same within))

module _ (lines : ℕ) (enough : least_lines ≤ lines) (sys : System) (s : SharedState) (all : List File) (settled : ℕ) (core : Core sys s all settled)
    (have : sys.have ≡ line_bytes * lines) (host : ℕ) (floor : Option ℕ) (t : Task) where
  device_within : sys.params.device ≤ line_bytes * lines
  device_within = omega (arith, core.head.device, have)

  gate_within : (g : ℕ) → g ≤ slice_index (s.memory gate_line) 0 → g ≤ sys.params.slots
  gate_within g low = omega (arith, low, core.order, core.high, core.room)

  -- a line of a file of the history
  line_within : (o : Option Entry) (i : ℕ) (f : File) (j : ℕ) → slice_get all i ≡ Some f → o ≡ Some f.entry → line_bytes * j < f.entry.size → line_of o j < lines
  line_within o i f j is same below =
      subst (λ (x : Option Entry). line_of x j < lines) (sym same) (file_within lines enough sys.params core.head.sound device_within f.entry j (core.history i f is).proper below)

  part_within : (part : Part) (j : ℕ) → OnPart part j sys host floor t s all settled → j < part_count t part → part_line t part j < lines
  part_within Superblock j on within = omega (arith, enough, within)
  part_within Header j on within = omega (arith, enough)
  part_within (Slot i) j on within =
      slot_part_within lines enough sys.params core.head.sound device_within t i j on.0.params (gate_within t.gate on.1.gate.high) on.1.below within
  part_within FileLines j on within =
      let f = on.1.file in
      line_within t.entry f.i f.file (first_line t.cmd + j) f.is f.entry
      (wanted_line t.cmd f.file.entry.size j (subst (λ (o : Option Entry). j < wanted_lines t.cmd (size_of o)) f.entry within))

  pub at_within : (p : Phase) → AtPhase p sys host floor t s all settled → AsksWithin lines (op_at t p)
  at_within (at.Drop part j) holds = part_within part j holds.0 holds.1
  at_within (at.Word part j k) holds = part_within part j holds.0 holds.1
  at_within (at.Check i) holds = tt
  at_within at.Decide holds = tt
  at_within (at.StoreData j k) holds =
      let w = holds.1.writing in line_within t.entry t.gate w.file j w.last w.entry holds.1.line
  at_within (at.SendData j) holds =
      let w = holds.writing in line_within t.entry t.gate w.file j w.last w.entry holds.line
  at_within (at.StoreSlot j k) holds =
      let w = holds.1.writing in
      subst (λ (q : Params). slot_line q t.gate j < lines) (sym w.params)
      (slot_within lines enough sys.params core.head.sound device_within t.gate j (omega (arith, w.pending, core.room)) holds.1.line)
  at_within (at.SendSlot j) holds =
      let w = holds.writing in
      subst (λ (q : Params). slot_line q t.gate j < lines) (sym w.params) (slot_within lines enough sys.params core.head.sound device_within t.gate j (omega (arith, w.pending, core.room)) holds.line)
  at_within at.FenceSlot holds = tt
  at_within at.FenceGate holds = tt
  at_within e holds = omega (arith, enough)

-- on a damaged image
module _ (image : Lines) (lines : ℕ) (enough : least_lines ≤ lines) (limit : line_bytes * lines ≤ device_limit) (host : ℕ) (t : Task) (s : SharedState) where
  bad_slots : (i j : ℕ) → ReadsSlots image (line_bytes * lines) i t → i < slots_read t → j < part_count t (Slot i) → part_line t (Slot i) j < lines
  bad_slots i j reads below within =
      let super : super_in image (line_bytes * lines) ≡ Ok t.params = reads.header.super.super in
      let is = super_is_sound _ _ (line_bytes * lines) t.params limit super in
      slot_part_within lines enough t.params is.sound is.device t i j refl (gate_counts t.gate t.params reads.within) below within
    where
      gate_counts : (gate : ℕ) (p : Params) → Rattle.fam_format.specs.Log.gate_fault gate p ≡ None → gate ≤ p.slots
      gate_counts gate p none = go (Rattle.std.specs.Prelude.nat_lt p.slots gate) refl none
        where
          go : (b : Rattle.std.specs.Prelude.Bool) → Rattle.std.specs.Prelude.nat_lt p.slots gate ≡ b
              → Rattle.std.specs.Prelude.if◌then◌else◌ b
              (Some (Rattle.fam_format.specs.declared.faults.LogFault.TheVariants.BadLog
              Rattle.fam_format.specs.declared.faults.LogField.TheVariants.Gate gate p.slots)) None ≡ None → gate ≤ p.slots
          go Rattle.std.specs.Prelude.true is none = absurd cc
          go Rattle.std.specs.Prelude.false is none = grind (arith, Rattle.std.proofs.lemmas.Bool.Decides.nat_tests)

  bad_part : (part : Part) (j : ℕ) → OnBadPart part image (line_bytes * lines) t → j < part_count t part → part_line t part j < lines
  bad_part Superblock j on within = omega (arith, enough, within)
  bad_part Header j on within = omega (arith, enough)
  bad_part (Slot i) j on within = bad_slots i j on.0 on.1 within
  bad_part FileLines j on within = absurd on

  bad_within : (p : Phase) → AtDamagedPhase p image (line_bytes * lines) host t s → AsksWithin lines (op_at t p)
  bad_within at.DropMagic holds = omega (arith, enough)
  bad_within at.Magic holds = omega (arith, enough)
  bad_within (at.Drop part j) holds = bad_part part j holds.0 holds.1
  bad_within (at.Word part j k) holds = bad_part part j holds.0 holds.1
  bad_within at.DropGate holds = omega (arith, enough)
  bad_within at.Gate holds = omega (arith, enough)
  bad_within (at.Check i) holds = tt
  bad_within at.Decide holds = tt
  bad_within e holds = absurd holds

-- wherever a task stands
within : (settled : Settled) (lines : ℕ) (hosts : Hosts) (s : SharedState) → line_bytes * lines ≤ device_limit → InvariantBy settled lines hosts s
    → (h : ℕ) (r : Run) → hosts.run h ≡ Some r → AsksWithin lines (op_of r.task)
within (Small image) lines hosts s limit stage h r run = absurd (let none = stage.idle h in cc)
within (Damaged image) lines hosts s limit stage h r run =
    bad_within image lines stage.enough limit h r.task s r.task.phase (stage.tasks h r run).phase
within (Known p all settled) lines hosts s limit stage h r run =
    at_within lines stage.enough (record { params = p; have = line_bytes * lines; uuid = hosts.uuid; master = stage.master }) s all settled stage.core
    refl h r.floor r.task r.task.phase (stage.tasks h r run).phase

-- what a cache has to send are lines of the image
pub dirty_inside : (settled : Settled) (lines : ℕ) (hosts : Hosts) (s : SharedState) → InvariantBy settled lines hosts s → (h l : ℕ) → IsDirty (s.copy h l) → l < lines
dirty_inside (Small image) lines hosts s stage h l d = absurd (stage.clean h l d)
dirty_inside (Damaged image) lines hosts s stage h l d = absurd (stage.still.clean h l d)
dirty_inside (Known p all settled) lines hosts s stage h l d = stage.inside h l d

-- so it is inside each image of so many lines
pub asks_inside : (settled : Settled) (lines : ℕ) (hosts : Hosts) (s : SharedState) → line_bytes * lines ≤ device_limit
    → InvariantBy settled lines hosts s → (h : ℕ) (r : Run) → hosts.run h ≡ Some r → (m : Machine) → IsMachineOf h m s → length m.image ≡ lines
    → IsInImage (op_of r.task) m
asks_inside settled lines hosts s limit stage h r runs m of same =
    inside_of (op_of r.task) m lines same (λ l d. dirty_inside settled lines hosts s stage h l (subst IsDirty (sym (of.copies l)) d)) (within settled lines hosts s limit stage h r runs)
