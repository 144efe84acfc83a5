-- Extents of a word, one by one.
use Rattle.std.proofs.Common.{◌≡◌, ℕ, zero, suc, ◌-◌, ◌<◌, ◌≤◌, List, [], ◌∷◌, ◌++◌, length, Option, Some, None, refl, ap, sym, ◌∙◌, subst, arith, append-nil, append_assoc, length-append}
use Rattle.std.specs.Prelude.{option_map}
use Rattle.std.proofs.lemmas.Option.{same_Some}
use Rattle.fam_base.specs.declared.extents.Extent.{Extent}
use Rattle.fam_base.specs.ExtentLists.{extent_limit}
use Rattle.fam_tree.specs.Cuts.{front}
use Rattle.fam_tree.specs.Lines.{comma}
use Rattle.fam_history.specs.ListedEntries.{and_extents, behind_comma, extents_up_to, first_extent, listed_extent, listed_extents}

-- extents in front of extents that may be there
abbrev pub behind_extents : List Extent → Option (List Extent) → Option (List Extent)
behind_extents prefix more = option_map (λ (xs : List Extent). prefix ++ xs) more

-- the extents that are read so far, and what is left of the word
pub record ReadSoFar (word : List ℕ) (extents : List Extent) (left : Option (List ℕ)) : Type 0 where
  pub few : length extents ≤ extent_limit
  pub says : listed_extents word ≡ behind_extents extents (extents_up_to (extent_limit - length extents) left)

behind_none : (o : Option (List Extent)) → o ≡ behind_extents [] o
behind_none None = refl
behind_none (Some xs) = refl

pub none_read : (word : List ℕ) → ReadSoFar word [] (Some word)
none_read word = record { few = omega arith; says = behind_none (extents_up_to extent_limit (Some word)) }

-- one more
behind_more : (prefix : List Extent) (x : Extent) (o : Option (List Extent)) → behind_extents prefix (and_extents (Some x) o) ≡ behind_extents (prefix ++ x ∷ []) o
behind_more prefix x None = refl
behind_more prefix x (Some xs) = ap (λ (l : List Extent). Some l) (sym (append_assoc prefix (x ∷ []) xs))

not_some : {A : Type 0} (x : A) → None ≡ Some x → ⊥
not_some x e = cc

some_not : {A : Type 0} (x : A) → Some x ≡ None → ⊥
some_not x e = cc

-- an extent with what is left behind it
abbrev paired_with : Option (List ℕ) → Extent → Extent × Option (List ℕ)
paired_with rest x = (x, rest)

first_step : (n : ℕ) (text : List ℕ) (o : Option Extent) (p : Extent × Option (List ℕ)) → option_map (paired_with (behind_comma text)) o ≡ Some p
    → and_extents o (extents_up_to n (behind_comma text)) ≡ and_extents (Some p.0) (extents_up_to n p.1)
first_step n text None p e = absurd (not_some p e)
first_step n text (Some x) p e =
    ap (λ (q : Extent × Option (List ℕ)). and_extents (Some q.0) (extents_up_to n q.1)) (same_Some (paired_with (behind_comma text) x) p e)

pub one_read : (word text : List ℕ) (extents longer : List Extent) (p : Extent × Option (List ℕ)) → ReadSoFar word extents (Some text)
    → first_extent text ≡ Some p → length extents < extent_limit → longer ≡ extents ++ p.0 ∷ [] → ReadSoFar word longer p.1
one_read word text extents longer p was first room added =
    let more : length (extents ++ p.0 ∷ []) ≡ suc (length extents) = omega (arith, length-append extents (p.0 ∷ [])) in
    let one : extent_limit - length extents ≡ suc (extent_limit - length (extents ++ p.0 ∷ [])) = omega (arith, more, room) in
    subst (λ (l : List Extent). ReadSoFar word l p.1) (sym added)
    (record {
      few = omega (arith, more, room);
      says = was.says
          ∙ ap (λ (n : ℕ). behind_extents extents (extents_up_to n (Some text))) one
          ∙ ap (behind_extents extents) (first_step (extent_limit - length (extents ++ p.0 ∷ [])) text (listed_extent (front comma text)) p first)
          ∙ behind_more extents p.0 (extents_up_to (extent_limit - length (extents ++ p.0 ∷ [])) p.1);
    })

-- no more fit
pub full_read : (word text : List ℕ) (extents : List Extent) → ReadSoFar word extents (Some text) → extent_limit ≤ length extents → listed_extents word ≡ None
full_read word text extents was full =
    let none : extent_limit - length extents ≡ 0 = omega (arith, full) in
    was.says ∙ ap (λ (n : ℕ). behind_extents extents (extents_up_to n (Some text))) none

-- no extent comes first
no_first : (n : ℕ) (text : List ℕ) (o : Option Extent) → option_map (paired_with (behind_comma text)) o ≡ None → and_extents o (extents_up_to n (behind_comma text)) ≡ None
no_first n text None e = refl
no_first n text (Some x) e = absurd (some_not (paired_with (behind_comma text) x) e)

none_up_to : (n : ℕ) (text : List ℕ) → first_extent text ≡ None → extents_up_to n (Some text) ≡ None
none_up_to zero text e = refl
none_up_to (suc n) text e = no_first n text (listed_extent (front comma text)) e

pub bad_read : (word text : List ℕ) (extents : List Extent) → ReadSoFar word extents (Some text) → first_extent text ≡ None → listed_extents word ≡ None
bad_read word text extents was first = was.says ∙ ap (behind_extents extents) (none_up_to (extent_limit - length extents) text first)

-- nothing is left
pub all_read : (word : List ℕ) (extents : List Extent) → ReadSoFar word extents None → listed_extents word ≡ Some extents
all_read word extents was = was.says ∙ ap (λ (l : List Extent). Some l) (append-nil extents)
