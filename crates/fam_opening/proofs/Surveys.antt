-- A survey of a log's slots, step by step.
use Rattle.std.proofs.Common.{◌≡◌, ℕ, suc, ◌+◌, ◌-◌, ◌<◌, ◌≤◌, List, sym, ap, ◌∙◌, arith}
use Rattle.fam_base.specs.declared.entry.Params.{Params}
use Rattle.fam_format.specs.Reading.{Lines, slot_words}
use Rattle.fam_fsck.specs.Scan.{Scan, with_slot}
use Rattle.fam_rules.specs.Reports.{Survey, survey_slot, survey_slots}

module _ (line : Lines) (p : Params) (gate count : ℕ) where
  -- one slot more
  pub slot_more : (i : ℕ) (first s next : Survey) → i < count → survey_slots line p gate 0 count first ≡ survey_slots line p gate i (count - i) s
      → next ≡ survey_slot p gate i (slot_words line p i) s → survey_slots line p gate 0 count first ≡ survey_slots line p gate (i + 1) (count - (i + 1)) next
  slot_more i first s next below so_far is =
      let more : count - i ≡ suc (count - (i + 1)) = omega arith in
      so_far
      ∙ ap (λ (n : ℕ). survey_slots line p gate i n s) more
      ∙ ap (survey_slots line p gate (i + 1) (count - (i + 1))) (sym is)

  -- no slot is left
  pub slots_all : (i : ℕ) (first s : Survey) → count ≤ i → survey_slots line p gate 0 count first ≡ survey_slots line p gate i (count - i) s
      → survey_slots line p gate 0 count first ≡ s
  slots_all i first s past so_far =
      let none : count - i ≡ 0 = omega arith in
      so_far ∙ ap (λ (n : ℕ). survey_slots line p gate i n s) none

-- the survey behind one slot more
pub survey_is : (s t : Scan) (p : Params) (gate i : ℕ) (words : List ℕ) → s.params ≡ p → s.gate ≡ gate → s.added ≡ i → t ≡ with_slot s words
    → t.survey ≡ survey_slot p gate i words s.survey
survey_is s t p gate i words params gates added is =
    ap (λ (x : Scan). x.survey) is
    ∙ ap (λ (q : Params). survey_slot q s.gate s.added words s.survey) params
    ∙ ap (λ (n : ℕ). survey_slot p n s.added words s.survey) gates
    ∙ ap (λ (n : ℕ). survey_slot p gate n words s.survey) added
