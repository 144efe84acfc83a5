-- What comes of the operations of an append, and of its decision.
use Rattle.std.proofs.Common.{ℕ, ◌≡◌, ◌<◌, ◌≤◌, ◌+◌, inl, inr, Bool, cond, List, Option, Some, Result, Ok, Err, refl, sym, ◌∙◌, ap, subst, arith}
use Rattle.std.proofs.lemmas.Bool.{cases_lt, cases_eq, eq-eqb, ne_eqb}
use Rattle.fam_base.specs.declared.entry.Entry.{Entry}
use Rattle.fam_format.specs.Layout.{geometry}
use Rattle.fam_format.specs.Slot.{spelling}
use Rattle.fam_format.proofs.Formats.{shape}
use Rattle.fam_rules.specs.declared.answers.Refused.{Refused}
use Rattle.fam_rules.specs.Decide.{decide}
use Rattle.fam_rules.specs.Reply as reply
use Rattle.fam_rules.specs.Written.{lines_of}
use Rattle.fam_commands.specs.declared.phase.Phase.{Phase}
use Rattle.fam_commands.specs.declared.phase.Phase.TheVariants as at
use Rattle.fam_commands.proofs.Steps.UsedTold.{first_told, first_told_is, used_told_by, shape_told, shape_told_is}
use Rattle.fam_commands.specs.Task.{Task, first_in, size_of}
use Rattle.fam_commands.specs.Turns.{Goes, Ends, first_store, append_turn, store_or_send, data_or_slot, slot_or_fence}
use Rattle.fam_commands.specs.Table.{Quiet, Answer, append_note, fed_gate}
use Rattle.fam_commands.proofs.Rows.Numbered.{if_below, if_past}
use Rattle.fam_commands.proofs.Counted.Files.{decided_at, refused_at, appended_at, appended_lines}
use Rattle.fam_commands.specs.Counts.{file_lines, told_entries}
use Rattle.fam_commands.proofs.Steps.Outcomes.{Outcome, goes_on, still_tied, ends}
use Rattle.fam_commands.proofs.Steps.Ties.{TaskSlots, IsAppending, TieAt, new_lines, decided_and}

-- the append of a task whose place changes
appending_at : (t : Task) (phase : Phase) (words : List ℕ) → IsAppending t words → IsAppending (record t { phase = phase }) words
appending_at t phase words a = record { e = a.e; slots = a.slots; decided = a.decided; entry_is = a.entry_is; spelled = a.spelled }

-- a task that goes on at a place
at_phase : (t : Task) (phase : Phase) (words : List ℕ) (made : ℕ) → TieAt phase (record t { phase = phase }) words made → Outcome t (Goes (record t { phase = phase })) Quiet words made
at_phase t phase words made tie = goes_on t (record t { phase = phase }) words made refl refl refl refl tie

-- The decision.

first_store_tie : (t : Task) (phase : Phase) (words : List ℕ) (e : Entry) (made : ℕ) → t.entry ≡ Some e → IsAppending t words
    → made ≡ decided_and t.params (first_in t) t.gate 0 → TieAt (first_store e.size) (record t { phase = phase }) words made
first_store_tie t phase words e made is a at_made =
    let lines : new_lines t ≡ lines_of e.size = ap (λ (o : Option Entry). lines_of (size_of o)) is in
    elim (cases_eq e.size 0) [
      | inl none ↦
          subst (λ (b : Bool). TieAt (cond b (at.StoreSlot 0 0) (at.StoreData 0 0)) (record t { phase = phase }) words made) (sym (eq-eqb e.size 0 none))
          (appending_at t phase words a, omega (arith, (shape t.params).lines), omega arith, omega (arith, ap lines_of none))
      | inr some ↦
          subst (λ (b : Bool). TieAt (cond b (at.StoreSlot 0 0) (at.StoreData 0 0)) (record t { phase = phase }) words made) (sym (ne_eqb e.size 0 some))
          (appending_at t phase words a, omega arith, omega arith, omega arith)
    ]

-- an entry is to be appended, or the answer
pub append_by : (t : Task) (words : List ℕ) (made : ℕ) (r : Result Entry Refused) → decide t.params t.me t.entries t.cmd ≡ Some r
    → TaskSlots t words t.gate → made ≡ decided_and t.params (first_in t) t.gate 0
    → Outcome t (append_turn t r) (append_note t.gate (Some r)) words made
append_by t words made (Err refused) is h at_made =
    ends t (reply.NotAppended refused) _ words made refl
    (decided_at t.params (shape_told t words) (first_told t words) (first_in t) (fed_gate words) t.gate made (shape_told_is t words t.gate h)
    (first_told_is t words t.gate h) h.gated.gate_is at_made
    ∙ sym (refused_at t.params t.me t.entries (shape_told t words) (first_told t words) (fed_gate words) refused t.cmd h.gated.log.head.host is))
append_by t words made (Ok e) is h at_made =
    record {
      noted = refl;
      tied = still_tied t (record t { entry = Some e; words = spelling (geometry t.params) e t.gate; phase = first_store e.size }) words made refl refl refl refl
          (first_store_tie (record t { entry = Some e; words = spelling (geometry t.params) e t.gate }) (first_store e.size) words e made refl
          (record { e = e; slots = h; decided = is; entry_is = refl; spelled = refl }) at_made);
    }

-- The stores.

-- where a store or the sending comes next
store_or_send_tie : (t : Task) (store send phase : Phase) (words : List ℕ) (k made : ℕ)
    → (k < 7 → TieAt store (record t { phase = phase }) words made) → (7 ≤ k → TieAt send (record t { phase = phase }) words made)
    → TieAt (store_or_send k store send) (record t { phase = phase }) words made
store_or_send_tie t store send phase words k made less past =
    elim (cases_lt k 7) [
      | inl below ↦ subst (λ (p : Phase). TieAt p (record t { phase = phase }) words made) (sym (if_below k 7 store send below)) (less below)
      | inr behind ↦ subst (λ (p : Phase). TieAt p (record t { phase = phase }) words made) (sym (if_past k 7 store send behind)) (past behind)
    ]

-- a store into the file
pub store_data_step : (t : Task) (words : List ℕ) (j k made : ℕ) → TieAt (at.StoreData j k) t words made
    → Outcome t (Goes (record t { phase = store_or_send k (at.StoreData j (k + 1)) (at.SendData j) })) Quiet words (made + 1)
store_data_step t words j k made (a, below, small, is) =
    at_phase t (store_or_send k (at.StoreData j (k + 1)) (at.SendData j)) words (made + 1)
    (store_or_send_tie t (at.StoreData j (k + 1)) (at.SendData j) (store_or_send k (at.StoreData j (k + 1)) (at.SendData j)) words k (made + 1)
    (λ less. (appending_at t _ words a, below, omega arith, omega arith))
    (λ past. (appending_at t _ words a, below, omega arith)))

-- a line of the file is sent
pub send_data_step : (t : Task) (words : List ℕ) (j made : ℕ) → TieAt (at.SendData j) t words made → Outcome t (Goes (record t { phase = data_or_slot t j })) Quiet words (made + 1)
send_data_step t words j made (a, below, is) =
    at_phase t (data_or_slot t j) words (made + 1)
    (elim (cases_lt (j + 1) (new_lines t)) [
      | inl less ↦
          subst (λ (p : Phase). TieAt p (record t { phase = data_or_slot t j }) words (made + 1)) (sym (if_below (j + 1) (new_lines t) (at.StoreData (j + 1) 0) (at.StoreSlot 0 0) less))
          (appending_at t _ words a, less, omega arith, omega arith)
      | inr past ↦
          subst (λ (p : Phase). TieAt p (record t { phase = data_or_slot t j }) words (made + 1)) (sym (if_past (j + 1) (new_lines t) (at.StoreData (j + 1) 0) (at.StoreSlot 0 0) past))
          (appending_at t _ words a, omega (arith, (shape t.params).lines), omega arith, omega arith)
    ])

-- a store into the slot
pub store_slot_step : (t : Task) (words : List ℕ) (j k made : ℕ) → TieAt (at.StoreSlot j k) t words made
    → Outcome t (Goes (record t { phase = store_or_send k (at.StoreSlot j (k + 1)) (at.SendSlot j) })) Quiet words (made + 1)
store_slot_step t words j k made (a, below, small, is) =
    at_phase t (store_or_send k (at.StoreSlot j (k + 1)) (at.SendSlot j)) words (made + 1)
    (store_or_send_tie t (at.StoreSlot j (k + 1)) (at.SendSlot j) (store_or_send k (at.StoreSlot j (k + 1)) (at.SendSlot j)) words k (made + 1)
    (λ less. (appending_at t _ words a, below, omega arith, omega arith))
    (λ past. (appending_at t _ words a, below, omega arith)))

-- a line of the slot is sent
pub send_slot_step : (t : Task) (words : List ℕ) (j made : ℕ) → TieAt (at.SendSlot j) t words made → Outcome t (Goes (record t { phase = slot_or_fence t j })) Quiet words (made + 1)
send_slot_step t words j made (a, below, is) =
    at_phase t (slot_or_fence t j) words (made + 1)
    (elim (cases_lt (j + 1) (geometry t.params).lines) [
      | inl less ↦
          subst (λ (p : Phase). TieAt p (record t { phase = slot_or_fence t j }) words (made + 1)) (sym (if_below (j + 1) (geometry t.params).lines (at.StoreSlot (j + 1) 0) at.FenceSlot less))
          (appending_at t _ words a, less, omega arith, omega arith)
      | inr past ↦
          subst (λ (p : Phase). TieAt p (record t { phase = slot_or_fence t j }) words (made + 1)) (sym (if_past (j + 1) (geometry t.params).lines (at.StoreSlot (j + 1) 0) at.FenceSlot past))
          (appending_at t _ words a, omega arith)
    ])

-- the slot is sent
pub fence_slot_step : (t : Task) (words : List ℕ) (made : ℕ) → TieAt at.FenceSlot t words made → Outcome t (Goes (record t { phase = at.StoreGate })) Quiet words (made + 1)
fence_slot_step t words made (a, is) = at_phase t at.StoreGate words (made + 1) (appending_at t at.StoreGate words a, omega arith)

-- the gate is stored
pub store_gate_step : (t : Task) (words : List ℕ) (made : ℕ) → TieAt at.StoreGate t words made → Outcome t (Goes (record t { phase = at.SendGate })) Quiet words (made + 1)
store_gate_step t words made (a, is) = at_phase t at.SendGate words (made + 1) (appending_at t at.SendGate words a, omega arith)

-- it is asked for the gate to be sent
pub send_gate_step : (t : Task) (words : List ℕ) (made : ℕ) → TieAt at.SendGate t words made → Outcome t (Goes (record t { phase = at.FenceGate })) Quiet words (made + 1)
send_gate_step t words made (a, is) = at_phase t at.FenceGate words (made + 1) (appending_at t at.FenceGate words a, omega arith)

-- the gate is sent, and the task answers
pub fence_gate_step : (t : Task) (words : List ℕ) (made : ℕ) → TieAt at.FenceGate t words made → Outcome t (Ends (reply.Appended t.gate)) (Answer (reply.Appended t.gate)) words (made + 1)
fence_gate_step t words made (a, is) =
    ends t (reply.Appended t.gate) _ words (made + 1) refl
    (appended_at t.params (shape_told t words) (first_told t words) (first_in t) (fed_gate words) t.gate
    (file_lines t.cmd (told_entries (used_told_by t words) words t.lines)) (new_lines t) made (shape_told_is t words t.gate a.slots)
    (first_told_is t words t.gate a.slots) a.slots.gated.gate_is
    (appended_lines t.params t.me t.entries a.e t.cmd (told_entries (used_told_by t words) words t.lines) a.decided ∙ sym (ap (λ (o : Option Entry). lines_of (size_of o)) a.entry_is)) is)
