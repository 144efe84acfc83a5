-- A loop over keywords, at the keyword i.
use Rattle.std.proofs.Common.{◌≡◌, ℕ, ◌+◌, ◌<◌, ◌≤◌, Bool, true, false, cond, List, suc, ◌∷◌, length, get_or, drop, Option, Some, None, ap, sym, ◌∙◌, add-one, drop-cons}
use Rattle.std.specs.Str.{bytes_eq}
use Rattle.std.proofs.lemmas.List.{drop_all}
use Rattle.fam_history.specs.Literals.{meaning_by}

module _ {K T : Type 0} (text : K → List ℕ) (means : K → T) (word : List ℕ) where
  at_keyword : (keywords : List K) (i : ℕ) (k : K) → i < length keywords → k ≡ get_or keywords i k → drop i keywords ≡ k ∷ drop (i + 1) keywords
  at_keyword keywords i k within is = rw add-one (drop-cons keywords i k within ∙ ap (λ (x : K). x ∷ drop (suc i) keywords) (sym is))

  -- this one is tested next
  tested : (keywords : List K) (i : ℕ) (k : K) (t : Bool) → i < length keywords → k ≡ get_or keywords i k → t ≡ bytes_eq word (text k)
      → cond t (Some (means k)) (meaning_by (drop (i + 1) keywords) text means word) ≡ meaning_by (drop i keywords) text means word
  tested keywords i k t within is test =
      ap (λ (u : Bool). cond u (Some (means k)) (meaning_by (drop (i + 1) keywords) text means word)) test
      ∙ ap (λ (l : List K). meaning_by l text means word) (sym (at_keyword keywords i k within is))

  pub past : (keywords : List K) (i : ℕ) → length keywords ≤ i → None ≡ meaning_by (drop i keywords) text means word
  past keywords i all = ap (λ (l : List K). meaning_by l text means word) (sym (drop_all i keywords all))

  pub found : (keywords : List K) (i : ℕ) (k : K) → i < length keywords → k ≡ get_or keywords i k → true ≡ bytes_eq word (text k)
      → Some (means k) ≡ meaning_by (drop i keywords) text means word
  found keywords i k within is test = tested keywords i k true within is test

  pub passed : (keywords : List K) (i : ℕ) (k : K) → i < length keywords → k ≡ get_or keywords i k → false ≡ bytes_eq word (text k)
      → meaning_by (drop (i + 1) keywords) text means word ≡ meaning_by (drop i keywords) text means word
  passed keywords i k within is test = tested keywords i k false within is test
