-- The rest of a line that a task loads.
use Rattle.std.proofs.Common.{ℕ, suc, ◌≡◌, ◌+◌, ◌*◌, ◌<◌, Bool, true, false, cond, inl, inr, List, Option, Some, None, refl, sym, ap, subst, ◌∙◌, arith}
use Rattle.std.specs.Prelude.{nat_lt, slice_index, unwrap_or}
use Rattle.std.proofs.lemmas.Bool.{cond-true, lt-ltb}
use Rattle.fam_base.specs.declared.line.LineNo.{LineNo}
use Rattle.fam_format.specs.Layout.{geometry, slot_line}
use Rattle.fam_machine.specs.declared.op.Op.TheVariants.{Load, Store}
use Rattle.fam_machine.specs.Operations.{IsWithin, line_no}
use Rattle.fam_commands.specs.declared.phase.Part.{Part}
use Rattle.fam_commands.specs.declared.phase.Part.TheVariants.{Slot}
use Rattle.fam_commands.specs.declared.phase.Phase.{Phase}
use Rattle.fam_commands.specs.declared.phase.Phase.TheVariants as at
use Rattle.fam_commands.specs.Task.{Task, data_words, line_of, op_at, op_of, part_line}
use Rattle.fam_commands.specs.Turns.{Goes, Turn, line_turn, store_or_send, turn_at, turn_of, with_word, word_turn}
use Rattle.fam_tasks.specs.Rest.{IsRest, IsStoreRest, Loads, Stored, Stores, StoresFileRest, Taken, begins, none, more, stores}
use Rattle.fam_tasks.specs.Sound.{IsSound}
use Rattle.fam_tasks.specs.declared.answer.Turn as answer
use Rattle.fam_tasks.specs.Tells.{Tells}

-- a word of the line comes next
pub load_next : (line : LineNo) (part : Part) (j k : ℕ) (now : Task) → now.phase ≡ at.Word part j k → line.0 ≡ part_line now part j → op_of now ≡ Load line k
load_next line part j k now phase is =
    ap (op_at now) phase ∙ ap (λ (l : ℕ). Load (line_no l) k) (sym is)

-- no word of the line was taken
pub first_taken : (line : LineNo) (words : List ℕ) (part : Part) (j : ℕ) (t : Task) → t.phase ≡ at.Word part j 1 → IsRest line t → Taken line words part j t t 1
first_taken line words part j t phase rest =
    let same : at.Word rest.part rest.j 1 ≡ at.Word part j 1 = sym rest.phase ∙ phase in
    let part_is : rest.part ≡ part = cc in
    let number_is : rest.j ≡ j = cc in
    record {
      count = 0;
      behind = refl;
      loads = none;
      phase = phase;
      is = rest.is ∙ ap (λ (p : Part). part_line t p rest.j) part_is ∙ ap (part_line t part) number_is;
      within = rest.within;
    }

-- one word more was taken
pub next_taken : (line : LineNo) (words : List ℕ) (part : Part) (j k : ℕ) (t now next : Task) → IsSound now → k < 7
    → next ≡ record (with_word now (slice_index words k)) { phase = at.Word part j (k + 1) } → turn_of now (Some (slice_index words k)) ≡ Goes next
    → Taken line words part j t now k → Taken line words part j t next (k + 1)
next_taken line words part j k t now next sound small is turn taken =
    let op : op_of now ≡ Load line k = load_next line part j k now taken.phase taken.is in
    record {
      count = suc taken.count;
      behind = omega (arith, taken.behind);
      loads = more taken.loads sound k op (subst (IsWithin now.lines) (sym op) (taken.within, omega (arith, small))) turn;
      phase = ap (λ (u : Task). u.phase) is;
      is = taken.is ∙ sym (ap (λ (u : Task). part_line u part j) is);
      within = subst (λ (u : Task). line.0 < u.lines) (sym is) taken.within;
    }

-- Words that are stored.

-- a phase with a word number: the task stores that word of the line
abbrev StoresAt : LineNo → List ℕ → (ℕ → Phase) → Task → Type 0
StoresAt line words phase_at t = (k : ℕ) → k < 8 → op_at (record t { phase = phase_at k }) (phase_at k) ≡ Store line k (slice_index words k)

-- the rest of a line of the file that stands in this phase
pub file_stores : (line : LineNo) (words : List ℕ) (j : ℕ) (t : Task) → t.phase ≡ at.StoreData j 1 → IsStoreRest line words t → StoresAt line words (at.StoreData j) t
file_stores line words j t phase (inl rest) k small =
    let number : j ≡ rest.j = (let both : at.StoreData j 1 ≡ at.StoreData rest.j 1 = sym phase ∙ rest.phase in cc) in
    ap (λ (i : ℕ). Store (line_no (line_of t.entry i)) k (slice_index (data_words t i) k)) number
    ∙ ap (λ (l : ℕ). Store (line_no l) k (slice_index (data_words t rest.j) k)) (sym rest.is)
    ∙ ap (Store line k) (sym (rest.words_are k small))
file_stores line words j t phase (inr rest) k small = absurd (let both : at.StoreData j 1 ≡ at.StoreSlot rest.j 1 = sym phase ∙ rest.phase in cc)

-- and of one of the slot
pub slot_stores : (line : LineNo) (words : List ℕ) (j : ℕ) (t : Task) → t.phase ≡ at.StoreSlot j 1 → IsStoreRest line words t → StoresAt line words (at.StoreSlot j) t
slot_stores line words j t phase (inr rest) k small =
    let number : j ≡ rest.j = (let both : at.StoreSlot j 1 ≡ at.StoreSlot rest.j 1 = sym phase ∙ rest.phase in cc) in
    ap (λ (i : ℕ). Store (line_no (slot_line t.params t.gate i)) k (slice_index t.words (8 * i + k))) number
    ∙ ap (λ (l : ℕ). Store (line_no l) k (slice_index t.words (8 * rest.j + k))) (sym rest.is)
    ∙ ap (Store line k) (sym (rest.words_are k small))
slot_stores line words j t phase (inl rest) k small = absurd (let both : at.StoreSlot j 1 ≡ at.StoreData rest.j 1 = sym phase ∙ rest.phase in cc)

rest_within : (line : LineNo) (words : List ℕ) (t : Task) → IsStoreRest line words t → line.0 < t.lines
rest_within line words t (inl rest) = rest.within
rest_within line words t (inr rest) = rest.within

-- no word was stored
pub first_stored : (line : LineNo) (words : List ℕ) (phase_at : ℕ → Phase) (t : Task) → t.phase ≡ phase_at 1 → Stored line words phase_at t t 0
first_stored line words phase_at t phase = record { stored = begins; same = ap (λ (p : Phase). record t { phase = p }) phase }

-- one word more was stored
pub more_stored : (line : LineNo) (words : List ℕ) (phase_at : ℕ → Phase) (n : ℕ) (t now next : Task) → IsStoreRest line words t
    → StoresAt line words phase_at t → IsSound now → n < 7 → turn_of now None ≡ Goes next → Stored line words phase_at t now n
    → Stores line words t next (suc n)
more_stored line words phase_at n t now next rest at_words sound small turn stored =
    let op : op_of now ≡ Store line (suc n) (slice_index words (suc n)) = ap op_of stored.same ∙ at_words (suc n) (omega (arith, small)) in
    let within : line.0 < now.lines = subst (λ (u : Task). line.0 < u.lines) (sym stored.same) (rest_within line words t rest) in
    stores stored.stored sound op (subst (IsWithin now.lines) (sym op) (within, omega (arith, small))) turn

-- What a turn that just goes on says.

-- a word that isn't the last of its line leads to the next one
pub word_goes : (u : Task) (part : Part) (j k : ℕ) → k < 7 → word_turn u part j k ≡ Goes (record u { phase = at.Word part j (k + 1) })
word_goes u part j k small = cond-true (nat_lt k 7) _ _ (lt-ltb k 7 small)

-- the last one of a line of a slot leads to the next line, or to the look at the slot
pub slot_goes : (u : Task) (i j : ℕ) → word_turn u (Slot i) j 7 ≡ Goes (record u { phase = cond (nat_lt (j + 1) (geometry u.params).lines) (at.Drop (Slot i) (j + 1)) (at.Check i) })
slot_goes u i j = either_goes u (nat_lt (j + 1) (geometry u.params).lines) (at.Drop (Slot i) (j + 1)) (at.Check i)
  where
    either_goes : (u : Task) (b : Bool) (x y : Phase) → cond b (Goes (record u { phase = x })) (Goes (record u { phase = y })) ≡ Goes (record u { phase = cond b x y })
    either_goes u true x y = refl
    either_goes u false x y = refl

-- a turn that goes on tells with which task
pub told_goes : (wanted : Turn) (mid new : Task) (turn : answer.Turn) → wanted ≡ Goes mid → Tells wanted turn new → (wanted ≡ Goes new) × (new ≡ mid)
told_goes wanted mid new turn is tells =
    let same : new ≡ mid = (subst (λ (w : Turn). Tells w turn new) is tells).1 in
    (is ∙ ap Goes (sym same), same)

-- a turn of a phase
pub turn_in : (t : Task) (p : Phase) (word : Option ℕ) → t.phase ≡ p → turn_of t word ≡ turn_at p t (unwrap_or word 0)
turn_in t p word phase = ap (λ (x : Phase). turn_at x t (unwrap_or word 0)) phase

-- a word that is stored leads to the next one, or to the line's sending
pub file_goes : (t : Task) (j k : ℕ) → t.phase ≡ at.StoreData j k → turn_of t None ≡ Goes (record t { phase = store_or_send k (at.StoreData j (k + 1)) (at.SendData j) })
file_goes t j k phase = turn_in t (at.StoreData j k) None phase

pub slot_word_goes : (t : Task) (j k : ℕ) → t.phase ≡ at.StoreSlot j k → turn_of t None ≡ Goes (record t { phase = store_or_send k (at.StoreSlot j (k + 1)) (at.SendSlot j) })
slot_word_goes t j k phase = turn_in t (at.StoreSlot j k) None phase

-- one word more was stored, and the next one comes next
pub next_stored : (line : LineNo) (words : List ℕ) (phase_at : ℕ → Phase) (send : Phase) (n k : ℕ) (t now next : Task) (turn : answer.Turn)
    → k ≡ suc n → k < 7 → IsStoreRest line words t → StoresAt line words phase_at t → IsSound now
    → turn_of now None ≡ Goes (record now { phase = store_or_send k (phase_at (k + 1)) send }) → Tells (turn_of now None) turn next
    → Stored line words phase_at t now n → Stored line words phase_at t next (suc n)
next_stored line words phase_at send n k t now next turn number small rest at_words sound wanted tells stored =
    let told = told_goes (turn_of now None) _ next turn wanted tells in
    let chosen : store_or_send k (phase_at (k + 1)) send ≡ phase_at (suc (suc n)) =
    cond-true (nat_lt k 7) (phase_at (k + 1)) send (lt-ltb k 7 small) ∙ ap phase_at (omega (arith, number)) in
    record {
      stored = more_stored line words phase_at n t now next rest at_words sound (omega (arith, number, small)) told.0 stored;
      same = told.1 ∙ ap (λ (p : Phase). record now { phase = p }) chosen ∙ ap (λ (u : Task). record u { phase = phase_at (suc (suc n)) }) stored.same;
    }

-- the last word was stored
pub last_stored : (line : LineNo) (words : List ℕ) (phase_at : ℕ → Phase) (mid : Task) (t now next : Task) (turn : answer.Turn)
    → IsStoreRest line words t → StoresAt line words phase_at t → IsSound now → turn_of now None ≡ Goes mid → Tells (turn_of now None) turn next
    → Stored line words phase_at t now 6 → Stores line words t next 7
last_stored line words phase_at mid t now next turn rest at_words sound wanted tells stored =
    more_stored line words phase_at 6 t now next rest at_words sound (omega arith) (told_goes (turn_of now None) mid next turn wanted tells).0 stored

-- and the line of the file is sent next
pub file_sent : (line : LineNo) (words : List ℕ) (j : ℕ) (t now next : Task) (turn : answer.Turn) → t.phase ≡ at.StoreData j 1
    → IsStoreRest line words t → IsSound now → now.phase ≡ at.StoreData j 7 → Tells (turn_of now None) turn next
    → Stored line words (at.StoreData j) t now 6 → StoresFileRest line words j t next
file_sent line words j t now next turn phase rest sound last tells stored =
    let told = told_goes (turn_of now None) _ next turn (file_goes now j 7 last) tells in
    record {
      stores = more_stored line words (at.StoreData j) 6 t now next rest (file_stores line words j t phase rest) sound (omega arith) told.0 stored;
      same = told.1 ∙ ap (λ (u : Task). record u { phase = at.SendData j }) stored.same;
    }

-- the last word of a line of a slot was taken
pub last_taken : (line : LineNo) (words : List ℕ) (part : Part) (slot j : ℕ) (t now next : Task) (turn : answer.Turn) → part ≡ Slot slot → IsSound now
    → Tells (line_turn (with_word now (slice_index words 7)) (Slot slot) j) turn next → Taken line words part j t now 7 → Loads line words t next 7
last_taken line words part slot j t now next turn is sound tells taken =
    let word : ℕ = slice_index words 7 in
    let phase : now.phase ≡ at.Word (Slot slot) j 7 = taken.phase ∙ ap (λ (p : Part). at.Word p j 7) is in
    let told = told_goes (word_turn (with_word now word) (Slot slot) j 7) _ next turn (slot_goes (with_word now word) slot j) tells in
    let op : op_of now ≡ Load line 7 = load_next line part j 7 now taken.phase taken.is in
    subst (Loads line words t next) (sym taken.behind)
    (more taken.loads sound 7 op (subst (IsWithin now.lines) (sym op) (taken.within, omega arith)) (turn_in now (at.Word (Slot slot) j 7) (Some word) phase ∙ told.0))

-- the words before the last one were taken
pub six_taken : (line : LineNo) (words : List ℕ) (part : Part) (j : ℕ) (t now : Task) → Taken line words part j t now 7 → Loads line words t now 6
six_taken line words part j t now taken =
    let six : taken.count ≡ 6 = let behind = taken.behind in omega (arith, behind) in
    subst (Loads line words t now) six taken.loads
