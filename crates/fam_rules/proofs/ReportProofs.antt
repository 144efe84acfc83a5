-- The report of a sound image.
use Rattle.std.proofs.Common.{◌≡◌, ℕ, zero, suc, ◌+◌, ◌-◌, ◌<◌, ◌≤◌, List, [], ◌∷◌, ◌++◌, length, map, take, get_or, Option, Some, None, Result, Ok, Err, refl, sym, ap, ap₂, subst, ◌∙◌, arith, append_assoc}
use Rattle.std.specs.Prelude.{slice_get, count_by}
use Rattle.std.proofs.Math.Seq.{take-append_seam}
use Rattle.std.proofs.lemmas.Bool.{lt-ltb, le-ltb}
use Rattle.std.proofs.lemmas.List.{append-nil, length-append, get_or-append_right}
use Rattle.std.proofs.lemmas.Option.{slice_get-get_or}
use Rattle.fam_base.specs.declared.entry.Params.{Params}
use Rattle.fam_base.specs.declared.entry.Entry.{Entry}
use Rattle.fam_format.specs.declared.faults.Reason.{Reason}
use Rattle.fam_format.specs.Layout.{device_units}
use Rattle.fam_format.specs.Log.{gate_fault}
use Rattle.fam_format.specs.Reading.{Lines, Sound, gate_in, slot_words, reading_of}
use Rattle.fam_format.specs.ReadingLaws.{HasWords, HasHead, IsSlot, AreSlots, Holds, Joins}
use Rattle.fam_format.specs.Slot.{entry_of}
use Rattle.fam_format.specs.Stop.{or_else}
use Rattle.fam_format.specs.Tree.{replay, tree_fault, join_fault}
use Rattle.fam_format.proofs.EntryLawsProofs.{spelling_read}
use Rattle.fam_format.proofs.JoinLaws.{joins_back}
use Rattle.fam_format.proofs.ReadingLawsProofs.{sound_holds}
use Rattle.fam_rules.specs.declared.answers.LogState.TheVariants as log
use Rattle.fam_rules.specs.Place.{AreApart}
use Rattle.fam_rules.specs.Reports.{Survey, no_survey, applied_or, below_gate, past_gate, survey_slot, survey_slots, is_file, is_directory, used_count, overlap_of, report_by, report_below, report_log, report_super, report_of}
use Rattle.fam_rules.specs.ReportLaws.{IsSoundReport}
use Rattle.fam_rules.proofs.ListPlaces.{sound_apart}
use Rattle.fam_rules.proofs.NoOverlap.{numbered, map-numbered, no_overlap}

-- Slots below the gate.

-- what was found, and nothing bad
abbrev surveyed : List (ℕ × Entry) → List Entry → Survey
surveyed found applied = record { found = found; applied = applied; bad = None; past = 0 }

-- of two tests that name no fault, the first names none
first_none : (a b : Option Reason) → or_else a b ≡ None → a ≡ None
first_none None b h = refl
first_none (Some r) b h = absurd (cc)

-- an entry that joins applies
joined_applies : (p : Params) (list : List Entry) (e : Entry) → Joins p list e → tree_fault (replay list) e ≡ None
unfolding join_fault
joined_applies p list e joins = first_none (tree_fault (replay list) e) _ (joins_back p list e joins)

module _ (line : Lines) (p : Params) (gate : ℕ) where
  -- a slot with an entry that joins
  survey_joined : (i : ℕ) (found : List (ℕ × Entry)) (before : List Entry) (e : Entry) → i < gate → IsSlot line p before i e
      → survey_slot p gate i (slot_words line p i) (surveyed found before) ≡ surveyed (found ++ (i, e) ∷ []) (before ++ e ∷ [])
  unfolding survey_slot
  survey_joined i found before e less slot =
      let reads : entry_of p (slot_words line p i) i ≡ Ok e = ap (λ (words : List ℕ). entry_of p words i) slot.words ∙ spelling_read p e i slot.proper in
      rw (lt-ltb i gate less)
      (ap (below_gate (surveyed found before) i) reads
      ∙ ap (applied_or (surveyed found before) i e) (joined_applies p before e slot.joins))

  -- the slot behind a prefix
  slot_behind : (prefix : List Entry) (i : ℕ) (e : Entry) (more : List Entry) → length prefix ≡ i → AreSlots line p (prefix ++ e ∷ more) → IsSlot line p prefix i e
  slot_behind prefix i e more count slots =
      let first : i - length prefix ≡ 0 = omega arith in
      let at : slice_get (prefix ++ e ∷ more) i ≡ Some e =
      slice_get-get_or (prefix ++ e ∷ more) i e (omega (arith, length-append prefix (e ∷ more)))
      ∙ ap Some (get_or-append_right prefix (e ∷ more) (length prefix) i e refl (omega arith) ∙ ap (λ (n : ℕ). get_or (e ∷ more) n e) first) in
      subst (λ (before : List Entry). IsSlot line p before i e) (ap (λ (n : ℕ). take n (prefix ++ e ∷ more)) (sym count) ∙ take-append_seam prefix (e ∷ more)) (slots i e at)

  -- all of them
  survey_below : (i : ℕ) (found : List (ℕ × Entry)) (prefix rest : List Entry) → length prefix ≡ i → i + length rest ≤ gate
      → AreSlots line p (prefix ++ rest) → survey_slots line p gate i (length rest) (surveyed found prefix) ≡ surveyed (found ++ numbered i rest)
      (prefix ++ rest)
  survey_below i found prefix [] count within slots = sym (ap₂ surveyed (append-nil found) (append-nil prefix))
  survey_below i found prefix (e ∷ more) count within slots =
      ap (survey_slots line p gate (i + 1) (length more)) (survey_joined i found prefix e (omega arith) (slot_behind prefix i e more count slots))
      ∙ survey_below (i + 1) (found ++ (i, e) ∷ []) (prefix ++ e ∷ []) more (omega (arith, length-append prefix (e ∷ []))) (omega arith)
      (subst (AreSlots line p) (sym (append_assoc prefix (e ∷ []) more)) slots)
      ∙ ap₂ surveyed (append_assoc found ((i, e) ∷ []) (numbered (i + 1) more)) (append_assoc prefix (e ∷ []) more)

  -- Slots past it.

  -- a survey goes on by so many slots and finds none below the gate
  record GoesOn (s t : Survey) (more : ℕ) : Type 0 where
    found : t.found ≡ s.found
    bad : t.bad ≡ s.bad
    past : t.past ≤ s.past + more

  past_by : (s : Survey) (r : Result Entry Reason) → GoesOn s (past_gate s r) 1
  past_by s (Ok e) = record { found = refl; bad = refl; past = omega arith }
  past_by s (Err reason) = record { found = refl; bad = refl; past = omega arith }

  past_slot : (i : ℕ) (words : List ℕ) (s : Survey) → gate ≤ i → GoesOn s (survey_slot p gate i words s) 1
  unfolding survey_slot
  past_slot i words s past = subst (λ (t : Survey). GoesOn s t 1)
      (sym (let e : survey_slot p gate i words s ≡ past_gate s (entry_of p words i) = rw (le-ltb i gate past) refl in e))
      (past_by s (entry_of p words i))

  survey_past : (more i : ℕ) (s : Survey) → gate ≤ i → GoesOn s (survey_slots line p gate i more s) more
  survey_past zero i s past = record { found = refl; bad = refl; past = omega arith }
  survey_past (suc more) i s past =
      let first = past_slot i (slot_words line p i) s past in
      let rest = survey_past more (i + 1) (survey_slot p gate i (slot_words line p i) s) (omega arith) in
      record { found = rest.found ∙ first.found; bad = rest.bad ∙ first.bad; past = omega (arith, first.past, rest.past) }

  -- first the ones, then the others
  survey_split : (a b n i : ℕ) (s : Survey) → a + b ≡ n → survey_slots line p gate i n s ≡ survey_slots line p gate (i + a) b (survey_slots line p gate i a s)
  survey_split zero b n i s sum = ap₂ (λ (k m : ℕ). survey_slots line p gate k m s) (let e : i ≡ i + 0 = omega arith in e) (let e : n ≡ b = omega arith in e)
  survey_split (suc a) b zero i s sum = absurd (omega arith)
  survey_split (suc a) b (suc n) i s sum =
      survey_split a b n (i + 1) (survey_slot p gate i (slot_words line p i) s) (omega arith)
      ∙ ap (λ (k : ℕ). survey_slots line p gate k b (survey_slots line p gate (i + 1) a (survey_slot p gate i (slot_words line p i) s))) (let e : i + 1 + a ≡ i + suc a = omega arith in e)

-- The whole survey.

-- the entries were found, nothing is bad, and the slots past the gate are few
record IsSurveyed (p : Params) (list : List Entry) (s : Survey) : Type 0 where
  found : s.found ≡ numbered 0 list
  bad : s.bad ≡ None
  past : s.past ≤ p.slots - length list

-- so it is where slots hold the entries
is_surveyed : (line : Lines) (p : Params) (gate : ℕ) (list : List Entry) → length list ≡ gate → gate ≤ p.slots → AreSlots line p list → IsSurveyed p list (survey_slots line p gate 0 p.slots no_survey)
is_surveyed line p gate list count within slots =
    let below : survey_slots line p gate 0 (length list) no_survey ≡ surveyed (numbered 0 list) list = survey_below line p gate 0 [] [] list refl (omega arith) slots in
    let more : ℕ = p.slots - length list in
    let split : survey_slots line p gate 0 p.slots no_survey ≡ survey_slots line p gate (0 + length list) more (surveyed (numbered 0 list) list) =
    survey_split line p gate (length list) more p.slots 0 no_survey (omega arith)
    ∙ ap (survey_slots line p gate (0 + length list) more) below in
    let rest = survey_past line p gate more (0 + length list) (surveyed (numbered 0 list) list) (omega arith) in
    subst (IsSurveyed p list) (sym split) (record { found = rest.found; bad = rest.bad; past = omega (arith, rest.past) })

-- its report is sound
report_surveyed : (p : Params) (gate : ℕ) (list : List Entry) (s : Survey) → length list ≡ gate → AreApart p list → IsSurveyed p list s → IsSoundReport p list (report_by p gate s)
unfolding report_by
report_surveyed p gate list s count apart is =
    let entries : map (λ (f : ℕ × Entry). f.1) s.found ≡ list = ap (λ (fs : List (ℕ × Entry)). map (λ (f : ℕ × Entry). f.1) fs) is.found ∙ map-numbered 0 list in
    record {
      superblock = refl;
      log = ap (λ (n : ℕ). log.Sound n p.slots) (sym count);
      files = ap (λ (es : List Entry). count_by (λ e. is_file e.kind) es) entries;
      directories = ap (λ (es : List Entry). count_by (λ e. is_directory e.kind) es) entries;
      used = ap (used_count p) entries;
      free = ap (λ (es : List Entry). device_units p - used_count p es) entries;
      overlap = ap (overlap_of p.unit) is.found ∙ no_overlap p.unit list apart.once;
      bad = is.bad;
      past = is.past;
    }

-- where superblock, header and gate read, the slots are surveyed
head_surveyed : (line : Lines) (have : ℕ) (p : Params) → HasHead line have p → report_of line have ≡ report_by p (gate_in line) (survey_slots line p (gate_in line) 0 p.slots no_survey)
unfolding report_of
head_surveyed line have p head =
    let gate : gate_fault (gate_in line) p ≡ None = rw (le-ltb p.slots (gate_in line) head.gate) refl in
    ap (report_super line) head.super ∙ ap (report_log line p) head.header ∙ ap (report_below line p) gate

-- a sound image has a sound report
pub sound_reported : (line : Lines) (have : ℕ) (p : Params) (list : List Entry) → HasWords line → reading_of line have ≡ Sound p list → IsSoundReport p list (report_of line have)
sound_reported line have p list words sound =
    let holds : Holds line have p list = sound_holds line have p list words sound in
    subst (IsSoundReport p list) (sym (head_surveyed line have p holds.head))
    (report_surveyed p (gate_in line) list _ holds.count (sound_apart line have p list words sound)
    (is_surveyed line p (gate_in line) list holds.count holds.head.gate holds.slots))
