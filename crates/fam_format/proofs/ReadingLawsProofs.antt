-- A whole reading in plain words.
use Prim.Native.Nat.{zero, suc}
use Rattle.std.proofs.Common.{◌≡◌, ℕ, ◌+◌, ◌<◌, ◌≤◌, ◌⊎◌, ◌^◌, false, nat_lt, List, [], ◌∷◌, ◌++◌, length, get_or, take, slice_get, Option, Some, None, Result, Ok, Err, inl, inr, refl, sym, ap, subst, ◌∙◌, arith, length-append}
use Rattle.std.proofs.lemmas.Bool.{cases_lt}
use Rattle.std.proofs.lemmas.Bool.Decides.{nat_tests}
use Rattle.std.proofs.lemmas.List.{take_all, take_more, take-append-le, get_or_past}
use Rattle.std.proofs.lemmas.List.FromFn.{get_or-map-range_with_len, length-map-range_with_len}
use Rattle.std.proofs.lemmas.Option.{slice_get_cases}
use Rattle.fam_base.specs.declared.entry.Params.{Params}
use Rattle.fam_base.specs.declared.entry.Entry.{Entry}
use Rattle.fam_format.specs.declared.faults.SuperFault.{SuperFault}
use Rattle.fam_format.specs.declared.faults.LogFault.{LogFault}
use Rattle.fam_format.specs.declared.faults.Reason.{Reason}
use Rattle.fam_format.specs.Layout.{geometry, log_line}
use Rattle.fam_format.specs.Log.{log_fault, gate_fault}
use Rattle.fam_format.specs.Slot.{entry_of}
use Rattle.fam_format.specs.Tree.{join_fault}
use Rattle.fam_format.specs.Reading.{Reading, NoSuperblock, BadHeader, BadSlot, Sound, Lines, super_in, gate_in, slot_word, slot_words, slot_in, joined_or, slot_or, read_slots, read_below, read_log, read_super, reading_of}
use Rattle.fam_format.specs.ReadingLaws.{HasWords, IsSlot, AreSlots, HasHead, Holds, IsAgainst, IsBadSlot}
use Rattle.fam_format.proofs.EntryLawsProofs.{read_proper, read_spelled, spelling_read}
use Rattle.fam_format.proofs.JoinLaws.{joins_from, joins_back}

-- a list's member below its length
at_place : {X : Type 0} (xs : List X) (i : ℕ) → i < length xs → (x : X) × (slice_get xs i ≡ Some x) × (get_or xs i x ≡ x)
at_place xs i below =
    elim ((slice_get_cases xs i).1) [ inl (x, less, is, at) ↦ (x, is, at) | inr (past, is) ↦ absurd (omega arith) ]

-- a member of a list with one more behind it
with_last : {X : Type 0} (xs : List X) (e : X) (k : ℕ) (f : X) → slice_get (xs ++ e ∷ []) k ≡ Some f → ((k < length xs) × (slice_get xs k ≡ Some f)) ⊎ ((k ≡ length xs) × (e ≡ f))
with_last [] e zero f h = inr (refl, cc)
with_last [] e (suc k) f h = absurd (cc)
with_last (x ∷ xs) e zero f h = inl (omega arith, h)
with_last (x ∷ xs) e (suc k) f h =
    elim (with_last xs e k f h) [ inl (below, is) ↦ inl (omega arith, is) | inr (last, same) ↦ inr (ap suc last, same) ]

module _ (line : Lines) (p : Params) where
  -- a slot's words are those of the lines, and none more
  slot_fits : HasWords line → (i k : ℕ) → get_or (slot_words line p i) k 0 < 2 ^ 64
  unfolding slot_words
  slot_fits words i k =
      elim (cases_lt k (geometry p).words) [
        | inl below ↦
            let is = get_or-map-range_with_len (slot_word line p i) 0 (geometry p).words k k 0 below (omega arith) in
            subst (λ (n : ℕ). n < 2 ^ 64) (sym is) (words _ _)
        | inr past ↦
            let long = length-map-range_with_len (slot_word line p i) 0 (geometry p).words in
            subst (λ (n : ℕ). n < 2 ^ 64) (sym (get_or_past (slot_words line p i) k 0 (omega (arith, long)))) (omega arith)
      ]

  slot_long : (i : ℕ) → length (slot_words line p i) ≡ (geometry p).words
  unfolding slot_words
  slot_long i = length-map-range_with_len (slot_word line p i) 0 (geometry p).words

  -- a slot that reads, and whose entry joins
  reads_slot : HasWords line → (before : List Entry) (i : ℕ) (e : Entry) → slot_in line p i ≡ Ok e → join_fault p before e ≡ None → IsSlot line p before i e
  reads_slot words before i e reads joins =
      record {
        proper = read_proper p (slot_words line p i) i e reads;
        words = read_spelled p (slot_words line p i) i e (slot_long i) (slot_fits words i) reads;
        joins = joins_from p before e joins;
      }

  slot_reads : (before : List Entry) (i : ℕ) (e : Entry) → IsSlot line p before i e → slot_in line p i ≡ Ok e
  slot_reads before i e slot = ap (λ (w : List ℕ). entry_of p w i) slot.words ∙ spelling_read p e i slot.proper

  -- one slot more
  slots_more : (list : List Entry) (e : Entry) (i : ℕ) → length list ≡ i → AreSlots line p list → IsSlot line p list i e → AreSlots line p (list ++ e ∷ [])
  slots_more list e i count slots slot = λ k f h.
      elim (with_last list e k f h) [
        | inl (below, is) ↦ subst (λ (before : List Entry). IsSlot line p before k f) (sym (take-append-le k list (e ∷ []) (omega arith))) (slots k f is)
        | inr (last, same) ↦
            let whole : take k (list ++ e ∷ []) ≡ list = take-append-le k list (e ∷ []) (omega arith) ∙ take_all k list (omega arith) in
            let at : i ≡ k = omega arith in
            subst (λ (before : List Entry). IsSlot line p before k f) (sym whole)
            (subst (λ (n : ℕ). IsSlot line p list n f) at (subst (λ (x : Entry). IsSlot line p list i x) same slot))
      ]

  -- what came of a slot where reading went on behind it
  record GoesOn (list : List Entry) (i : ℕ) (next : Entry → Reading) (told : Reading) : Type 0 where
    entry : Entry
    reads : slot_in line p i ≡ Ok entry
    joins : join_fault p list entry ≡ None
    rest : next entry ≡ told

  -- a slot behind which reading goes on, or the bad one
  after_join : (list : List Entry) (i : ℕ) (e : Entry) (next : Entry → Reading) (told : Reading) (fault : Option Reason) → slot_in line p i ≡ Ok e
      → join_fault p list e ≡ fault → joined_or i fault (next e) ≡ told →
      GoesOn list i next told ⊎ ((reason : Reason) × IsAgainst line p list i reason × (BadSlot i reason ≡ told))
  after_join list i e next told None reads is h = inl record { entry = e; reads = reads; joins = is; rest = h }
  after_join list i e next told (Some reason) reads is h = inr (reason, inr (e, reads, is), h)

  after_slot : (list : List Entry) (i : ℕ) (next : Entry → Reading) (told : Reading) (r : Result Entry Reason) → slot_in line p i ≡ r → slot_or p list i r next ≡ told →
      GoesOn list i next told ⊎ ((reason : Reason) × IsAgainst line p list i reason × (BadSlot i reason ≡ told))
  after_slot list i next told (Ok e) is h = after_join list i e next told (join_fault p list e) is refl h
  after_slot list i next told (Err reason) is h = inr (reason, inl is, h)

  -- what reading so many slots found
  record Found (i more : ℕ) (es : List Entry) (q : Params) : Type 0 where
    slots : AreSlots line p es
    count : length es ≡ i + more
    params : p ≡ q

  slots_found : HasWords line → (more i : ℕ) (list es : List Entry) (q : Params) → length list ≡ i → AreSlots line p list → read_slots line p i more list ≡ Sound q es → Found i more es q
  slots_found words zero i list es q count slots h =
      let same : list ≡ es = cc in
      record { slots = subst (λ (xs : List Entry). AreSlots line p xs) same slots; count = omega (arith, ap length same); params = cc }
  slots_found words (suc more) i list es q count slots h =
      elim (after_slot list i (λ e. read_slots line p (i + 1) more (list ++ e ∷ [])) (Sound q es) (slot_in line p i) refl h) [
        | inl on ↦
            let longer : length (list ++ on.entry ∷ []) ≡ i + 1 = length-append list (on.entry ∷ []) ∙ ap (λ (n : ℕ). n + 1) count in
            let again = slots_found words more (i + 1) (list ++ on.entry ∷ []) es q longer (slots_more list on.entry i count slots (reads_slot words list i on.entry on.reads on.joins)) on.rest in
            record { slots = again.slots; count = let n = again.count in omega arith; params = again.params }
        | inr (reason, against, bad) ↦ absurd (cc)
      ]

  -- what stopped the reading at a bad slot
  record Stopped (last j : ℕ) (reason : Reason) : Type 0 where
    before : List Entry
    count : length before ≡ j
    slots : AreSlots line p before
    against : IsAgainst line p before j reason
    below : j < last

  bad_found : HasWords line → (more i j : ℕ) (list : List Entry) (reason : Reason) → length list ≡ i → AreSlots line p list
      → read_slots line p i more list ≡ BadSlot j reason → Stopped (i + more) j reason
  bad_found words zero i j list reason count slots h = absurd (cc)
  bad_found words (suc more) i j list reason count slots h =
      elim (after_slot list i (λ e. read_slots line p (i + 1) more (list ++ e ∷ [])) (BadSlot j reason) (slot_in line p i) refl h) [
        | inl on ↦
            let longer : length (list ++ on.entry ∷ []) ≡ i + 1 = length-append list (on.entry ∷ []) ∙ ap (λ (n : ℕ). n + 1) count in
            let again = bad_found words more (i + 1) j (list ++ on.entry ∷ []) reason longer (slots_more list on.entry i count slots (reads_slot words list i on.entry on.reads on.joins)) on.rest in
            record { before = again.before; count = again.count; slots = again.slots; against = again.against; below = let n = again.below in omega arith }
        | inr (other, against, bad) ↦
            let at : i ≡ j = cc in
            let why : other ≡ reason = cc in
            record {
              before = list;
              count = count ∙ at;
              slots = slots;
              against = subst (λ (r : Reason). IsAgainst line p list j r) why (subst (λ (n : ℕ). IsAgainst line p list n other) at against);
              below = omega arith;
            }
      ]

  -- reading passes a slot that is one
  passes : (es : List Entry) (i more : ℕ) → i < length es → AreSlots line p es → read_slots line p i (suc more) (take i es) ≡ read_slots line p (i + 1) more (take (i + 1) es)
  passes es i more below slots =
      let at = at_place es i below in
      let slot : IsSlot line p (take i es) i at.0 = slots i at.0 at.1 in
      let next : Entry → Reading = λ e. read_slots line p (i + 1) more (take i es ++ e ∷ []) in
      ap (λ (r : Result Entry Reason). slot_or p (take i es) i r next) (slot_reads (take i es) i at.0 slot)
      ∙ ap (λ (f : Option Reason). joined_or i f (next at.0)) (joins_back p (take i es) at.0 slot.joins)
      ∙ ap (λ (e : Entry). read_slots line p (i + 1) more (take i es ++ e ∷ [])) (sym at.2)
      ∙ ap (λ (xs : List Entry). read_slots line p (i + 1) more xs) (sym (take_more es i at.0 below))

  slots_sound : (more i : ℕ) (es : List Entry) → i + more ≡ length es → AreSlots line p es → read_slots line p i more (take i es) ≡ Sound p es
  slots_sound zero i es count slots = ap (Sound p) (take_all i es (omega arith))
  slots_sound (suc more) i es count slots = passes es i more (omega arith) slots ∙ slots_sound more (i + 1) es (omega arith) slots

  -- reading stops at a slot that is bad
  stops : (before : List Entry) (i more : ℕ) (reason : Reason) → IsAgainst line p before i reason → read_slots line p i (suc more) before ≡ BadSlot i reason
  stops before i more reason (inl fault) = ap (λ (r : Result Entry Reason). slot_or p before i r (λ e. read_slots line p (i + 1) more (before ++ e ∷ []))) fault
  stops before i more reason (inr (e, reads, fault)) =
      ap (λ (r : Result Entry Reason). slot_or p before i r (λ f. read_slots line p (i + 1) more (before ++ f ∷ []))) reads
      ∙ ap (λ (f : Option Reason). joined_or i f (read_slots line p (i + 1) more (before ++ e ∷ []))) fault

  bad_stops : (more i j : ℕ) (before : List Entry) (reason : Reason) → i ≤ j → j < i + more → length before ≡ j → AreSlots line p before
      → IsAgainst line p before j reason → read_slots line p i more (take i before) ≡ BadSlot j reason
  bad_stops zero i j before reason low high count slots against = absurd (omega arith)
  bad_stops (suc more) i j before reason low high count slots against =
      elim (cases_lt i j) [
        | inl less ↦ passes before i more (omega arith) slots ∙ bad_stops more (i + 1) j before reason (omega arith) (omega arith) count slots against
        | inr not_less ↦
            let at : i ≡ j = omega arith in
            ap (λ (xs : List Entry). read_slots line p i (suc more) xs) (take_all i before (omega arith))
            ∙ ap (λ (n : ℕ). read_slots line p n (suc more) before) at
            ∙ stops before j more reason against
      ]

gate_counts : (gate : ℕ) (p : Params) → gate_fault gate p ≡ None → gate ≤ p.slots
gate_counts gate p h = grind (arith, nat_tests)

gate_passes : (gate : ℕ) (p : Params) → gate ≤ p.slots → gate_fault gate p ≡ None
gate_passes gate p h = let is : nat_lt p.slots gate ≡ false = grind (arith, nat_tests) in rw is refl

-- superblock, header and gate read, and the slots below the gate tell the rest
record HeadReads (line : Lines) (have : ℕ) (told : Reading) : Type 0 where
  params : Params
  head : HasHead line have params
  rest : read_slots line params 0 (gate_in line) [] ≡ told

module _ (line : Lines) (have : ℕ) (told : Reading) (some_super : (f : SuperFault) → NoSuperblock f ≡ told → ⊥) (some_log : (f : LogFault) → BadHeader f ≡ told → ⊥) where
  by_gate : (p : Params) (f : Option LogFault) → super_in line have ≡ Ok p → log_fault (line log_line) p ≡ None → gate_fault (gate_in line) p ≡ f
      → read_below line p f ≡ told → HeadReads line have told
  by_gate p (Some f) super header gate h = absurd (some_log f h)
  by_gate p None super header gate h = record { params = p; head = record { super = super; header = header; gate = gate_counts (gate_in line) p gate }; rest = h }

  by_header : (p : Params) (f : Option LogFault) → super_in line have ≡ Ok p → log_fault (line log_line) p ≡ f → read_log line p f ≡ told → HeadReads line have told
  by_header p (Some f) super header h = absurd (some_log f h)
  by_header p None super header h = by_gate p (gate_fault (gate_in line) p) super header refl h

  by_super : (r : Result Params SuperFault) → super_in line have ≡ r → read_super line r ≡ told → HeadReads line have told
  by_super (Err f) super h = absurd (some_super f h)
  by_super (Ok p) super h = by_header p (log_fault (line log_line) p) super refl h

  head_reads : reading_of line have ≡ told → HeadReads line have told
  unfolding reading_of
  head_reads h = by_super (super_in line have) refl h

-- where superblock, header and gate read, the slots decide
slots_decide : (line : Lines) (have : ℕ) (p : Params) → HasHead line have p → reading_of line have ≡ read_slots line p 0 (gate_in line) []
unfolding reading_of
slots_decide line have p head =
    ap (read_super line) head.super ∙ ap (read_log line p) head.header ∙ ap (read_below line p) (gate_passes (gate_in line) p head.gate)

no_slots : (line : Lines) (p : Params) → AreSlots line p []
no_slots line p = λ i e h. absurd (cc)

-- a sound reading holds its entries
pub sound_holds : (line : Lines) (have : ℕ) (p : Params) (entries : List Entry) → HasWords line → reading_of line have ≡ Sound p entries → Holds line have p entries
sound_holds line have p entries words h =
    let head = head_reads line have (Sound p entries) (λ f e. cc) (λ f e. cc) h in
    let found = slots_found line head.params words (gate_in line) 0 [] entries p refl (no_slots line head.params) head.rest in
    record {
      head = subst (λ (q : Params). HasHead line have q) found.params head.head;
      count = let n = found.count in omega arith;
      slots = subst (λ (q : Params). AreSlots line q entries) found.params found.slots;
    }

pub holds_sound : (line : Lines) (have : ℕ) (p : Params) (entries : List Entry) → Holds line have p entries → reading_of line have ≡ Sound p entries
holds_sound line have p entries holds =
    slots_decide line have p holds.head ∙ slots_sound line p (gate_in line) 0 entries (let n = holds.count in omega arith) holds.slots

-- the bad slot that is named is the first one
pub bad_is_first : (line : Lines) (have : ℕ) (i : ℕ) (reason : Reason) → HasWords line → reading_of line have ≡ BadSlot i reason → IsBadSlot line have i reason
bad_is_first line have i reason words h =
    let head = head_reads line have (BadSlot i reason) (λ f e. cc) (λ f e. cc) h in
    let found = bad_found line head.params words (gate_in line) 0 i [] reason refl (no_slots line head.params) head.rest in
    record {
      params = head.params;
      head = head.head;
      below = let n = found.below in omega arith;
      before = found.before;
      count = found.count;
      slots = found.slots;
      against = found.against;
    }

pub first_is_bad : (line : Lines) (have : ℕ) (i : ℕ) (reason : Reason) → IsBadSlot line have i reason → reading_of line have ≡ BadSlot i reason
first_is_bad line have i reason bad =
    slots_decide line have bad.params bad.head
    ∙ bad_stops line bad.params (gate_in line) 0 i bad.before reason (omega arith) (let n = bad.below in omega arith) bad.count bad.slots bad.against
