-- The rows of the slots, and of the decision behind them.
use Rattle.std.proofs.Common.{ℕ, suc, ◌≡◌, ◌<◌, ◌≤◌, ◌+◌, ◌*◌, ◌⊎◌, inl, inr, Option, List, [], ◌∷◌, ◌++◌, length, Some, refl, sym, ◌∙◌, ap, arith, ◌-◌, length-append}
use Rattle.std.specs.Prelude.{slice_get}
use Rattle.std.proofs.lemmas.Bool.{cases_lt}
use Rattle.fam_base.specs.declared.cmd.Cmd.{Cmd}
use Rattle.fam_base.specs.declared.cmd.Cmd.TheVariants.{Fsck, Logplay, Mount, Mkdir, Creat, Cp, Verify, Read, Check}
use Rattle.fam_base.specs.declared.entry.Params.{Params}
use Rattle.fam_base.specs.declared.entry.Entry.{Entry}
use Rattle.fam_format.specs.Layout.{geometry, slot_line}
use Rattle.fam_rules.specs.Reports.{Survey}
use Rattle.fam_machine.specs.declared.op.Op.TheVariants.{Digest}
use Rattle.fam_commands.specs.declared.phase.Part.TheVariants.{Slot}
use Rattle.fam_commands.specs.declared.phase.Phase.TheVariants as at
use Rattle.fam_commands.specs.Task.{Task, first_in, used_in, op_at}
use Rattle.fam_commands.specs.Kept.{Kept, used}
use Rattle.fam_commands.specs.Counts.{line_steps, slot_steps}
use Rattle.fam_commands.specs.Table.{rows_behind}
use Rattle.fam_commands.specs.Turns.{slots_read}
use Rattle.fam_commands.specs.Table.{RowNote, Quiet, Row, rows, slot_ops, fed_gate, fed_slots, entries_read, slot_note, decision_note, slots_rows, last_rows, slots_of_cmd, body_rows, table}
use Rattle.fam_commands.proofs.ListPlaces.{pieces_from, after_from}
use Rattle.fam_commands.proofs.Rows.Numbered.{row, row_before, row_last, length-rows, loads, length-loads, drop_at, word_at, behind_loads, if_below, if_past}
use Rattle.fam_commands.proofs.Rows.Head.{Here, behind_head, told_is}
use Rattle.fam_commands.proofs.Steps.TieStays.{has_slots_stay}
use Rattle.fam_commands.proofs.Steps.Ties.{AreRead, SlotsKnown, TaskSlots, note_at, steps_to, decided_and}

-- Commands that read the slots below the gate alone.

-- a command that isn't a check of the whole file system
abbrev pub ReadsLog : Cmd → Type 0
ReadsLog Fsck = ⊥
ReadsLog Logplay = Unit {0}
ReadsLog Mount = Unit {0}
ReadsLog (Mkdir path attr) = Unit {0}
ReadsLog (Creat path size attr stripe fill) = Unit {0}
ReadsLog (Cp path attr stripe bytes) = Unit {0}
ReadsLog (Verify path against) = Unit {0}
ReadsLog (Read path offset count) = Unit {0}
ReadsLog (Check listing) = Unit {0}

-- what is known of the slots that it read
pub read_of : (kept : Option Kept) (cmd : Cmd) (p : Params) (gate : ℕ) (entries : List Entry) (survey : Survey) (words : List ℕ) (i : ℕ)
    → ReadsLog cmd → SlotsKnown cmd p gate (used kept cmd p gate) entries survey words i → AreRead p (used kept cmd p gate) entries words i
read_of kept Fsck p gate entries survey words i reads known = absurd reads
read_of kept cmd p gate entries survey words i reads known = known

slots_as : (cmd : Cmd) (t : Task) → slots_of_cmd cmd t.params t.gate ≡ slots_read (record t { cmd = cmd })
slots_as Fsck t = refl
slots_as cmd t = refl

-- how many slots a task reads, by the table
pub slots_are : (t : Task) → slots_of_cmd t.cmd t.params t.gate ≡ slots_read t
slots_are t = slots_as t.cmd t

below_gate_as : (cmd : Cmd) (t : Task) → ReadsLog cmd → slots_read (record t { cmd = cmd }) ≡ t.gate
below_gate_as Fsck t reads = absurd reads
below_gate_as cmd t reads = refl

-- those below the gate
pub below_gate : (t : Task) → ReadsLog t.cmd → slots_read t ≡ t.gate
below_gate t reads = below_gate_as t.cmd t reads

-- The rows.

-- nine operations a line, and a Digest
pub length-slot_ops : (p : Params) (i : ℕ) → length (slot_ops p i) ≡ slot_steps (geometry p)
length-slot_ops p i =
    length-append (loads (slot_line p i) (geometry p).lines) (Digest ∷ []) ∙ ap (λ (n : ℕ). n + 1) (length-loads (slot_line p i) (geometry p).lines)

slot_width : (cmd : Cmd) (words : List ℕ) (p : Params) (used : List Entry) (i : ℕ) → length (rows (slot_ops p i) (slot_note cmd words p used i)) ≡ slot_steps (geometry p)
slot_width cmd words p used i = length-rows (slot_ops p i) (slot_note cmd words p used i) ∙ length-slot_ops p i

module _ (t : Task) (words more : List ℕ) where
  -- the words with those to come, their entries, and the rows behind the slots
  abbrev now : List ℕ
  now = words ++ more

  abbrev entries : List Entry
  entries = entries_read (fed_slots now t.params (used_in t) (fed_gate now))

  abbrev behind : List Row
  behind = record { op = Digest; note = decision_note t.cmd t.me now t.lines t.params (first_in t) entries } ∷ last_rows t.cmd t.me now t.params (first_in t) entries

  -- row k behind the head, where the gate is known
  body_at : (i k m : ℕ) → TaskSlots t words i → m ≡ 31 + k → slice_get (table t.kept t.cmd t.me t.lines now) m ≡ slice_get (slots_rows t.cmd now t.params (used_in t) (slots_read t) ++ behind) k
  body_at i k m h is =
      let known = has_slots_stay t.kept t.cmd t.me t.lines t.params t.gate t.entries t.survey words more i h in
      behind_head t.kept t.cmd t.me t.lines now k m is
      ∙ ap (λ (p : Params). slice_get (body_rows t.kept t.cmd t.me t.lines now p) k) (told_is t.kept t.cmd t.me t.lines t.params now known.gated.log.head)
      ∙ ap (λ (n : ℕ). slice_get (rows_behind (used t.kept t.cmd t.params n) t.cmd t.me t.lines now t.params) k) known.gated.gate_is
      ∙ ap (λ (n : ℕ). slice_get (slots_rows t.cmd now t.params (used_in t) n ++ behind) k) (ap (slots_of_cmd t.cmd t.params) known.gated.gate_is ∙ slots_are t)

  -- row r of slot i
  slot_at : (i r m : ℕ) → TaskSlots t words i → i < slots_read t → r < slot_steps (geometry t.params) → m ≡ steps_to t.params (first_in t) i + r
      → slice_get (table t.kept t.cmd t.me t.lines now) m ≡ slice_get (rows (slot_ops t.params i) (slot_note t.cmd now t.params (used_in t) i)) r
  slot_at i r m h below small is =
      body_at i (slot_steps (geometry t.params) * (i - first_in t) + r) m h (omega arith)
      ∙ pieces_from (λ i. rows (slot_ops t.params i) (slot_note t.cmd now t.params (used_in t) i)) (slot_steps (geometry t.params))
      (slot_width t.cmd now t.params (used_in t)) (first_in t) (slots_read t - first_in t) i r
      (slot_steps (geometry t.params) * (i - first_in t) + r) behind h.behind (let b = h.behind in omega arith) small refl

  -- a line of a slot is dropped
  pub slot_drop_row : (i j made : ℕ) → TaskSlots t words i → i < slots_read t → j < (geometry t.params).lines
      → made ≡ steps_to t.params (first_in t) i + (9 * j + 0) → Here t words more made (op_at t (at.Drop (Slot i) j)) Quiet
  slot_drop_row i j made h below line is =
      slot_at i (9 * j) made h below (omega arith) (omega arith)
      ∙ row_before (slot_ops t.params i) _ (9 * j) _ (omega (arith, length-slot_ops t.params i)) (drop_at (slot_line t.params i) (geometry t.params).lines j (9 * j) (Digest ∷ []) line refl)

  -- a word of it is loaded
  pub slot_word_row : (i j k made : ℕ) → TaskSlots t words i → i < slots_read t → j < (geometry t.params).lines → k < 8
      → made ≡ steps_to t.params (first_in t) i + (9 * j + (1 + k))
      → Here t words more made (op_at t (at.Word (Slot i) j k)) (note_at (at.Word (Slot i) j k) t now)
  slot_word_row i j k made h below line small is =
      slot_at i (9 * j + (1 + k)) made h below (omega arith) (omega arith)
      ∙ row_before (slot_ops t.params i) _ (9 * j + (1 + k)) _ (omega (arith, length-slot_ops t.params i))
      (word_at (slot_line t.params i) (geometry t.params).lines j k (9 * j + (1 + k)) (Digest ∷ []) line small refl)
      ∙ ap (λ (n : RowNote). Some (row (op_at t (at.Word (Slot i) j k)) n)) (quiet (cases_lt k 7))
    where
      quiet : (k < 7) ⊎ (7 ≤ k) → Quiet ≡ note_at (at.Word (Slot i) j k) t now
      quiet (inl less) = sym (if_below k 7 Quiet Quiet less)
      quiet (inr past) = sym (if_past k 7 Quiet Quiet past)

  -- the slot's words are looked at
  pub check_row : (i made : ℕ) → TaskSlots t words i → i < slots_read t
      → made ≡ steps_to t.params (first_in t) i + line_steps * (geometry t.params).lines
      → Here t words more made (op_at t (at.Check i)) (note_at (at.Check i) t now)
  check_row i made h below is =
      slot_at i (line_steps * (geometry t.params).lines) made h below (omega arith) is
      ∙ row_last (slot_ops t.params i) _ (line_steps * (geometry t.params).lines) Digest (sym (length-slot_ops t.params i))
      (behind_loads (slot_line t.params i) (geometry t.params).lines 0 (line_steps * (geometry t.params).lines) (Digest ∷ []) (omega arith))

  -- the decision
  pub decide_row : (made : ℕ) → TaskSlots t words (slots_read t) → made ≡ steps_to t.params (first_in t) (slots_read t) → Here t words more made (op_at t at.Decide) (note_at at.Decide t now)
  decide_row made h is =
      body_at (slots_read t) (slot_steps (geometry t.params) * (slots_read t - first_in t)) made h is
      ∙ after_from (λ i. rows (slot_ops t.params i) (slot_note t.cmd now t.params (used_in t) i)) (slot_steps (geometry t.params))
      (slot_width t.cmd now t.params (used_in t)) (first_in t) (slots_read t - first_in t) 0
      (slot_steps (geometry t.params) * (slots_read t - first_in t)) behind (omega arith)

  -- the entries that longer words tell
  pub entries_are : (i : ℕ) → ReadsLog t.cmd → i ≡ t.gate → TaskSlots t words i → entries ≡ t.entries
  entries_are i reads is h =
      let known = has_slots_stay t.kept t.cmd t.me t.lines t.params t.gate t.entries t.survey words more i h in
      let all = read_of t.kept t.cmd t.params t.gate t.entries t.survey now i reads known.known in
      ap (λ (n : ℕ). entries_read (fed_slots now t.params (used_in t) n)) (known.gated.gate_is ∙ sym is) ∙ ap entries_read all.sound

  -- row k behind the decision
  pub tail_at : (k m : ℕ) → ReadsLog t.cmd → TaskSlots t words t.gate → m ≡ decided_and t.params (first_in t) t.gate 0 + k
      → slice_get (table t.kept t.cmd t.me t.lines now) m ≡ slice_get (last_rows t.cmd t.me now t.params (first_in t) t.entries) k
  tail_at k m reads h is =
      let count : slot_steps (geometry t.params) * (slots_read t - first_in t) ≡ slot_steps (geometry t.params) * (t.gate - first_in t) =
      ap (λ (n : ℕ). slot_steps (geometry t.params) * (n - first_in t)) (below_gate t reads) in
      body_at t.gate (slot_steps (geometry t.params) * (slots_read t - first_in t) + (1 + k)) m h (omega arith)
      ∙ after_from (λ i. rows (slot_ops t.params i) (slot_note t.cmd now t.params (used_in t) i)) (slot_steps (geometry t.params))
      (slot_width t.cmd now t.params (used_in t)) (first_in t) (slots_read t - first_in t) (1 + k)
      (slot_steps (geometry t.params) * (slots_read t - first_in t) + (1 + k)) behind (omega arith)
      ∙ ap (λ (i : ℕ). slice_get behind i) (let z : 1 + k ≡ suc k = omega arith in z)
      ∙ ap (λ (es : List Entry). slice_get (last_rows t.cmd t.me now t.params (first_in t) es) k) (entries_are t.gate reads refl h)
