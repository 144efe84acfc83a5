-- A host's name gives its number.
use Rattle.std.proofs.Common.{◌≡◌, ℕ, zero, suc, ◌+◌, ◌<◌, Bool, true, false, cond, List, [], ◌∷◌, length, Some, refl, ap, ◌∙◌, arith}
use Rattle.std.proofs.lemmas.Slice.Eq.{bytes_eq-Decides}
use Rattle.fam_base.specs.PathOrder.{path_eq}
use Rattle.fam_journal.specs.Members.{index_from}
use Rattle.fam_outcomes.specs.Texts.{host_name}
use Rattle.fam_history.specs.Notes.{host_number}
use Rattle.fam_history.specs.ToldNotes.{AreDistinctNames}

-- the first name that passes has this place
first_place : (test : List ℕ → Bool) (names : List (List ℕ)) (n h : ℕ) → h < length names → test (host_name names h) ≡ true
    → ((i : ℕ) → i < h → test (host_name names i) ≡ false) → index_from n test names ≡ Some (n + h)
first_place test [] n h within is others = absurd (omega (arith, within))
first_place test (name ∷ names) n zero within is others =
    let same : n ≡ n + 0 = omega arith in
    ap (λ (t : Bool). cond t (Some n) (index_from (n + 1) test names)) is ∙ ap (λ (k : ℕ). Some k) same
first_place test (name ∷ names) n (suc h) within is others =
    let same : n + 1 + h ≡ n + suc h = omega arith in
    ap (λ (t : Bool). cond t (Some n) (index_from (n + 1) test names)) (others 0 (omega arith))
    ∙ first_place test names (n + 1) h (omega (arith, within)) is (λ i less. others (suc i) (omega (arith, less)))
    ∙ ap (λ (k : ℕ). Some k) same

other_name : (a b : List ℕ) → (a ≡ b → ⊥) → path_eq a b ≡ false
other_name a b other = cases (path_eq a b) refl
  where
    cases : (t : Bool) → path_eq a b ≡ t → path_eq a b ≡ false
    cases false e = e
    cases true e = absurd (other ((bytes_eq-Decides a b).0 e))

pub number_is : (names : List (List ℕ)) (host : ℕ) → host < length names → AreDistinctNames names → host_number names (host_name names host) ≡ Some host
number_is names host within apart =
    let own : List ℕ = host_name names host in
    first_place (λ declared. path_eq declared own) names 0 host within ((bytes_eq-Decides own own).1 refl) (λ i less. other_name (host_name names i) own (apart i host less within))
    ∙ ap (λ (k : ℕ). Some k) (omega arith)
