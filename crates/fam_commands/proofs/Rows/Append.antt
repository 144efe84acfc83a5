-- The rows of an append.
use Rattle.std.proofs.Common.{ℕ, ◌≡◌, ◌<◌, ◌+◌, ◌-◌, ◌*◌, List, [], ◌∷◌, ◌++◌, length, drop, Option, Some, Ok, refl, sym, ◌∙◌, ap, arith, length-append}
use Rattle.std.specs.Prelude.{slice_get, slice_index}
use Rattle.std.proofs.lemmas.List.{append_assoc, get_or-take, get_or-drop}
use Rattle.fam_base.specs.declared.cmd.Cmd.{Cmd}
use Rattle.fam_base.specs.declared.cmd.Cmd.TheVariants.{Mkdir, Creat, Cp, Fsck}
use Rattle.fam_base.specs.declared.cmd.Content.{Content}
use Rattle.fam_base.specs.declared.entry.Params.{Params}
use Rattle.fam_base.specs.declared.entry.Entry.{Entry}
use Rattle.fam_format.specs.Layout.{geometry, slot_line, gate_line}
use Rattle.fam_format.specs.Slot.{spelling}
use Rattle.fam_rules.specs.Content.{content_line}
use Rattle.fam_rules.specs.Decide.{decide}
use Rattle.fam_rules.specs.Reply.{Appended}
use Rattle.fam_rules.specs.Written.{lines_of, file_line, slot_part}
use Rattle.fam_machine.specs.declared.op.Op.{Op}
use Rattle.fam_machine.specs.declared.op.Op.TheVariants.{Store, WriteBack, Fence, Invalidate}
use Rattle.fam_commands.specs.declared.phase.Phase.TheVariants as at
use Rattle.fam_commands.specs.Task.{Task, first_in, line_of, size_of, content_of, op_at}
use Rattle.fam_machine.specs.Operations.{line_no}
use Rattle.fam_commands.specs.Counts.{line_steps, append_steps}
use Rattle.fam_commands.specs.Table.{Quiet, Answer, Row, rows, append_ops, append_rows, last_rows, table}
use Rattle.fam_commands.proofs.Rows.Numbered.{row, row_before, row_last, sends, length-sends, store_at, send_at, behind_sends}
use Rattle.fam_commands.proofs.Rows.Head.{Here}
use Rattle.fam_commands.proofs.Rows.Slots.{ReadsLog, read_of, tail_at}
use Rattle.fam_commands.proofs.Steps.Ties.{IsAppending, new_lines, decided_and}

-- only a command that appends decides
pub decides_reads : (cmd : Cmd) (p : Params) (me : List ℕ) (entries : List Entry) (e : Entry) → decide p me entries cmd ≡ Some (Ok e) → ReadsLog cmd
decides_reads Fsck p me entries e is = absurd cc
decides_reads cmd p me entries e is = tt

-- the rows of an append, for every command that appends
abbrev fits_rows : Cmd → Params → List Entry → Entry → List Row
fits_rows cmd p entries e = rows (append_ops p (length entries) e (content_of cmd)) (Answer (Appended (length entries)))

-- what comes behind the decision of an append
last_is : (cmd : Cmd) (p : Params) (me : List ℕ) (words : List ℕ) (first : ℕ) (entries : List Entry) (e : Entry)
    → decide p me entries cmd ≡ Some (Ok e) → last_rows cmd me words p first entries ≡ fits_rows cmd p entries e
last_is (Mkdir path attr) p me words first entries e is = ap (append_rows (Mkdir path attr) p (length entries)) is
last_is (Creat path size attr stripe fill) p me words first entries e is = ap (append_rows (Creat path size attr stripe fill) p (length entries)) is
last_is (Cp path attr stripe bytes) p me words first entries e is = ap (append_rows (Cp path attr stripe bytes) p (length entries)) is
last_is other p me words first entries e is = absurd cc

-- a word of a line of the slot
pub slot_part_at : (words : List ℕ) (j k : ℕ) → k < 8 → slice_index (slot_part words j) k ≡ slice_index words (8 * j + k)
slot_part_at words j k small = get_or-take (8 * j + 8 - 8 * j) (drop (8 * j) words) k 0 (omega arith) ∙ get_or-drop (8 * j) words k 0

-- The operations of an append.

module _ (p : Params) (seq : ℕ) (e : Entry) (fill : Content) where
  -- the three parts of an append
  abbrev data_part : List Op
  data_part = sends (file_line e) (content_line fill e.size) (λ j. Invalidate (line_no (file_line e j))) (lines_of e.size)

  abbrev slot_lines : List Op
  slot_lines = sends (slot_line p seq) (slot_part (spelling (geometry p) e seq)) (λ j. WriteBack (line_no (slot_line p seq j))) (geometry p).lines

  abbrev gate_part : List Op
  gate_part = Fence ∷ Store (line_no gate_line) 0 (seq + 1) ∷ WriteBack (line_no gate_line) ∷ Fence ∷ []

  parts : append_ops p seq e fill ≡ data_part ++ (slot_lines ++ gate_part)
  parts = append_assoc data_part slot_lines gate_part

  -- nine operations a line of the file and of the slot, two for the gate, and two fences
  pub length-append_ops : length (append_ops p seq e fill) ≡ append_steps (geometry p) (lines_of e.size)
  length-append_ops =
      ap length parts
      ∙ omega (
        arith,
        length-append data_part (slot_lines ++ gate_part),
        length-append slot_lines gate_part,
        length-sends (file_line e) (content_line fill e.size) (λ j. Invalidate (line_no (file_line e j))) (lines_of e.size),
        length-sends (slot_line p seq) (slot_part (spelling (geometry p) e seq)) (λ j. WriteBack (line_no (slot_line p seq j))) (geometry p).lines,
      )

  -- a store into the file
  pub data_store : (j k m : ℕ) → j < lines_of e.size → k < 8 → m ≡ 9 * j + k
      → slice_get (append_ops p seq e fill) m ≡ Some (Store (line_no (file_line e j)) k (slice_index (content_line fill e.size j) k))
  data_store j k m below small is =
      ap (λ (l : List Op). slice_get l m) parts
      ∙ store_at (file_line e) (content_line fill e.size) (λ j. Invalidate (line_no (file_line e j))) (lines_of e.size) j k m (slot_lines ++ gate_part) below small is

  -- a line of the file is sent
  pub data_send : (j m : ℕ) → j < lines_of e.size → m ≡ 9 * j + 8 → slice_get (append_ops p seq e fill) m ≡ Some (Invalidate (line_no (file_line e j)))
  data_send j m below is =
      ap (λ (l : List Op). slice_get l m) parts
      ∙ send_at (file_line e) (content_line fill e.size) (λ j. Invalidate (line_no (file_line e j))) (lines_of e.size) j m (slot_lines ++ gate_part) below is

  -- row r behind the file
  behind_data : (r m : ℕ) → m ≡ 9 * lines_of e.size + r → slice_get (append_ops p seq e fill) m ≡ slice_get (slot_lines ++ gate_part) r
  behind_data r m is =
      ap (λ (l : List Op). slice_get l m) parts
      ∙ behind_sends (file_line e) (content_line fill e.size) (λ j. Invalidate (line_no (file_line e j))) (lines_of e.size) r m (slot_lines ++ gate_part) is

  -- a store into the slot
  pub slot_store : (j k m : ℕ) → j < (geometry p).lines → k < 8 → m ≡ 9 * lines_of e.size + (9 * j + k)
      → slice_get (append_ops p seq e fill) m ≡ Some (Store (line_no (slot_line p seq j)) k (slice_index (spelling (geometry p) e seq) (8 * j + k)))
  slot_store j k m below small is =
      behind_data (9 * j + k) m is
      ∙ store_at (slot_line p seq) (slot_part (spelling (geometry p) e seq)) (λ j. WriteBack (line_no (slot_line p seq j))) (geometry p).lines j k (9 * j + k) gate_part below small refl
      ∙ ap (λ (w : ℕ). Some (Store (line_no (slot_line p seq j)) k w)) (slot_part_at (spelling (geometry p) e seq) j k small)

  -- a line of the slot is sent
  pub slot_send : (j m : ℕ) → j < (geometry p).lines → m ≡ 9 * lines_of e.size + (9 * j + 8) → slice_get (append_ops p seq e fill) m ≡ Some (WriteBack (line_no (slot_line p seq j)))
  slot_send j m below is =
      behind_data (9 * j + 8) m is
      ∙ send_at (slot_line p seq) (slot_part (spelling (geometry p) e seq)) (λ j. WriteBack (line_no (slot_line p seq j))) (geometry p).lines j (9 * j + 8) gate_part below refl

  -- row r behind the slot's lines
  behind_slot : (r m : ℕ) → m ≡ 9 * lines_of e.size + (9 * (geometry p).lines + r) → slice_get (append_ops p seq e fill) m ≡ slice_get gate_part r
  behind_slot r m is =
      behind_data (9 * (geometry p).lines + r) m is
      ∙ behind_sends (slot_line p seq) (slot_part (spelling (geometry p) e seq)) (λ j. WriteBack (line_no (slot_line p seq j))) (geometry p).lines r (9 * (geometry p).lines + r) gate_part refl

  -- the slot is sent
  pub slot_fence : (m : ℕ) → m ≡ 9 * lines_of e.size + (9 * (geometry p).lines + 0) → slice_get (append_ops p seq e fill) m ≡ Some Fence
  slot_fence m is = behind_slot 0 m is

  -- the gate is stored
  pub gate_store : (m : ℕ) → m ≡ 9 * lines_of e.size + (9 * (geometry p).lines + 1) → slice_get (append_ops p seq e fill) m ≡ Some (Store (line_no gate_line) 0 (seq + 1))
  gate_store m is = behind_slot 1 m is

  -- it is asked for
  pub gate_send : (m : ℕ) → m ≡ 9 * lines_of e.size + (9 * (geometry p).lines + 2) → slice_get (append_ops p seq e fill) m ≡ Some (WriteBack (line_no gate_line))
  gate_send m is = behind_slot 2 m is

  -- and sent
  pub gate_fence : (m : ℕ) → m ≡ 9 * lines_of e.size + (9 * (geometry p).lines + 3) → slice_get (append_ops p seq e fill) m ≡ Some Fence
  gate_fence m is = behind_slot 3 m is

-- The rows.

module _ (t : Task) (words more : List ℕ) (a : IsAppending t words) where
  reads : ReadsLog t.cmd
  reads = decides_reads t.cmd t.params t.me t.entries a.e a.decided

  count : length t.entries ≡ t.gate
  count = (read_of t.kept t.cmd t.params t.gate t.entries t.survey words t.gate reads a.slots.known).count

  -- the operations of this task's append
  abbrev ops : List Op
  ops = append_ops t.params t.gate a.e (content_of t.cmd)

  -- row k behind the decision
  append_at : (k m : ℕ) → m ≡ decided_and t.params (first_in t) t.gate 0 + k → slice_get (table t.kept t.cmd t.me t.lines (words ++ more)) m ≡ slice_get (rows ops (Answer (Appended t.gate))) k
  append_at k m is =
      tail_at t words more k m reads a.slots is
      ∙ ap (λ (l : List Row). slice_get l k) (last_is t.cmd t.params t.me (words ++ more) (first_in t) t.entries a.e a.decided)
      ∙ ap (λ (n : ℕ). slice_get (rows (append_ops t.params n a.e (content_of t.cmd)) (Answer (Appended n))) k) count

  -- one before the last
  quiet_at : (k m : ℕ) (op : Op) → k < 9 * lines_of a.e.size + (9 * (geometry t.params).lines + 3)
      → m ≡ decided_and t.params (first_in t) t.gate 0 + k → slice_get ops k ≡ Some op → Here t words more m op Quiet
  quiet_at k m op before is found =
      append_at k m is ∙ row_before ops (Answer (Appended t.gate)) k op (omega (arith, length-append_ops t.params t.gate a.e (content_of t.cmd))) found

  lines_are : new_lines t ≡ lines_of a.e.size
  lines_are = ap (λ (o : Option Entry). lines_of (size_of o)) a.entry_is

  -- so the table has them, with what is noted
  pub store_data_row : (j k made : ℕ) → j < new_lines t → k < 8 → made ≡ decided_and t.params (first_in t) t.gate 0 + (9 * j + k) → Here t words more made (op_at t (at.StoreData j k)) Quiet
  store_data_row j k made below small is =
      let same = lines_are in
      quiet_at (9 * j + k) made _ (omega arith) is (data_store t.params t.gate a.e (content_of t.cmd) j k (9 * j + k) (omega arith) small refl)
      ∙ ap (λ (o : Option Entry). Some (row (Store (line_no (line_of o j)) k (slice_index (content_line (content_of t.cmd) (size_of o) j) k)) Quiet)) (sym a.entry_is)

  -- a line of the file is sent
  pub send_data_row : (j made : ℕ) → j < new_lines t → made ≡ decided_and t.params (first_in t) t.gate 0 + (9 * j + 8) → Here t words more made (op_at t (at.SendData j)) Quiet
  send_data_row j made below is =
      let same = lines_are in
      quiet_at (9 * j + 8) made _ (omega arith) is (data_send t.params t.gate a.e (content_of t.cmd) j (9 * j + 8) (omega arith) refl)
      ∙ ap (λ (o : Option Entry). Some (row (Invalidate (line_no (line_of o j))) Quiet)) (sym a.entry_is)

  -- a store into the slot
  pub store_slot_row : (j k made : ℕ) → j < (geometry t.params).lines → k < 8
      → made ≡ decided_and t.params (first_in t) t.gate 0 + 9 * new_lines t + (9 * j + k) → Here t words more made (op_at t (at.StoreSlot j k)) Quiet
  store_slot_row j k made below small is =
      let same = lines_are in
      quiet_at (9 * lines_of a.e.size + (9 * j + k)) made _ (omega arith) (omega arith) (slot_store t.params t.gate a.e (content_of t.cmd) j k (9 * lines_of a.e.size + (9 * j + k)) below small refl)
      ∙ ap (λ (l : List ℕ). Some (row (Store (line_no (slot_line t.params t.gate j)) k (slice_index l (8 * j + k))) Quiet)) (sym a.spelled)

  -- a line of the slot is sent
  pub send_slot_row : (j made : ℕ) → j < (geometry t.params).lines → made ≡ decided_and t.params (first_in t) t.gate 0 + 9 * new_lines t + (9 * j + 8)
      → Here t words more made (op_at t (at.SendSlot j)) Quiet
  send_slot_row j made below is =
      let same = lines_are in
      quiet_at (9 * lines_of a.e.size + (9 * j + 8)) made _ (omega arith) (omega arith) (slot_send t.params t.gate a.e (content_of t.cmd) j (9 * lines_of a.e.size + (9 * j + 8)) below refl)

  -- the slot is sent
  pub fence_slot_row : (made : ℕ) → made ≡ decided_and t.params (first_in t) t.gate (line_steps * (geometry t.params).lines) + 9 * new_lines t → Here t words more made (op_at t at.FenceSlot) Quiet
  fence_slot_row made is =
      let same = lines_are in
      quiet_at (9 * lines_of a.e.size + (9 * (geometry t.params).lines + 0)) made _ (omega arith) (omega arith)
      (slot_fence t.params t.gate a.e (content_of t.cmd) (9 * lines_of a.e.size + (9 * (geometry t.params).lines + 0)) refl)

  -- the gate is stored
  pub store_gate_row : (made : ℕ) → made ≡ decided_and t.params (first_in t) t.gate (line_steps * (geometry t.params).lines + 1) + 9 * new_lines t → Here t words more made (op_at t at.StoreGate) Quiet
  store_gate_row made is =
      let same = lines_are in
      quiet_at (9 * lines_of a.e.size + (9 * (geometry t.params).lines + 1)) made _ (omega arith) (omega arith)
      (gate_store t.params t.gate a.e (content_of t.cmd) (9 * lines_of a.e.size + (9 * (geometry t.params).lines + 1)) refl)

  -- it is asked for
  pub send_gate_row : (made : ℕ) → made ≡ decided_and t.params (first_in t) t.gate (line_steps * (geometry t.params).lines + 2) + 9 * new_lines t → Here t words more made (op_at t at.SendGate) Quiet
  send_gate_row made is =
      let same = lines_are in
      quiet_at (9 * lines_of a.e.size + (9 * (geometry t.params).lines + 2)) made _ (omega arith) (omega arith)
      (gate_send t.params t.gate a.e (content_of t.cmd) (9 * lines_of a.e.size + (9 * (geometry t.params).lines + 2)) refl)

  -- the gate is sent, with the answer
  pub fence_gate_row : (made : ℕ) → made ≡ decided_and t.params (first_in t) t.gate (line_steps * (geometry t.params).lines + 3) + 9 * new_lines t
      → Here t words more made (op_at t at.FenceGate) (Answer (Appended t.gate))
  fence_gate_row made is =
      let same = lines_are in
      append_at (9 * lines_of a.e.size + (9 * (geometry t.params).lines + 3)) made (omega arith)
      ∙ row_last ops (Answer (Appended t.gate)) (9 * lines_of a.e.size + (9 * (geometry t.params).lines + 3)) _
      (omega (arith, length-append_ops t.params t.gate a.e (content_of t.cmd)))
      (gate_fence t.params t.gate a.e (content_of t.cmd) (9 * lines_of a.e.size + (9 * (geometry t.params).lines + 3)) refl)
