-- The entries of lines, taken one behind another.
use Rattle.std.proofs.Common.{◌≡◌, ℕ, zero, suc, ◌-◌, ◌<◌, List, [], ◌∷◌, ◌++◌, refl, ap, sym, subst, ◌∙◌, arith, append-nil, append_assoc}
use Rattle.fam_base.specs.declared.entry.Entry.{Entry}
use Rattle.fam_history.specs.ListedEntries.{listed_entry}
use Rattle.fam_records.specs.Lines.{Left}
use Rattle.fam_records.specs.Records.{listed_entries}
use Rattle.fam_records.specs.Taken.{Bad, TakenLines, Takes, line_taken, then_takes}

-- entries in front of others
abbrev onto : List Entry → TakenLines (List Entry) → TakenLines (List Entry)
onto entries said = then_takes said (λ more behind. Takes (entries ++ more) behind)

-- what was taken so far, of which so many are left
abbrev pub HasTaken : ℕ → Left → List Entry → ℕ → Left → Type 0
HasTaken count first entries left here = listed_entries count first ≡ onto entries (listed_entries left here)

none_before : (said : TakenLines (List Entry)) → said ≡ onto [] said
none_before (Takes entries left) = refl
none_before (Bad number column) = refl

-- before the first entry
pub none_taken : (count : ℕ) (first : Left) (entries : List Entry) → entries ≡ [] → HasTaken count first entries count first
none_taken count first entries none =
    none_before (listed_entries count first) ∙ ap (λ (es : List Entry). onto es (listed_entries count first)) (sym none)

one_more : (entries : List Entry) (entry : Entry) (said : TakenLines (List Entry))
    → onto entries (then_takes said (λ more behind. Takes (entry ∷ more) behind)) ≡ onto (entries ++ entry ∷ []) said
one_more entries entry (Takes more left) = ap (λ (es : List Entry). Takes es left) (sym (append_assoc entries (entry ∷ []) more))
one_more entries entry (Bad number column) = refl

module _ (count : ℕ) (first : Left) (entries : List Entry) where
  -- one more entry
  pub more_taken : (left : ℕ) (here behind : Left) (entry : Entry) (more : List Entry) → 0 < left → HasTaken count first entries left here
      → line_taken listed_entry here ≡ Takes entry behind → more ≡ entries ++ entry ∷ [] → HasTaken count first more (left - 1) behind
  more_taken zero here behind entry more some so_far says pushed = absurd (omega (arith, some))
  more_taken (suc n) here behind entry more some so_far says pushed =
      subst (λ (k : ℕ). HasTaken count first more k behind) (omega arith)
      (so_far
      ∙ ap (λ (t : TakenLines Entry). onto entries (then_takes t (λ entry rest. then_takes (listed_entries n rest) (λ entries behind. Takes (entry ∷ entries) behind)))) says
      ∙ one_more entries entry (listed_entries n behind)
      ∙ ap (λ (es : List Entry). onto es (listed_entries n behind)) (sym pushed))

  -- a bad line
  pub taken_bad : (left : ℕ) (here : Left) (number column : ℕ) → 0 < left → HasTaken count first entries left here
      → line_taken listed_entry here ≡ Bad number column → listed_entries count first ≡ Bad number column
  taken_bad zero here number column some so_far says = absurd (omega (arith, some))
  taken_bad (suc n) here number column some so_far says =
      so_far
      ∙ ap (λ (t : TakenLines Entry). onto entries (then_takes t (λ entry rest. then_takes (listed_entries n rest) (λ entries behind. Takes (entry ∷ entries) behind)))) says

  -- all entries
  pub all_taken : (left : ℕ) (here : Left) → left ≡ 0 → HasTaken count first entries left here → listed_entries count first ≡ Takes entries here
  all_taken left here none so_far =
      so_far ∙ ap (λ (n : ℕ). onto entries (listed_entries n here)) none ∙ ap (λ (es : List Entry). Takes es here) (append-nil entries)
