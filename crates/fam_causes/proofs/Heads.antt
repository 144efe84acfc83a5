-- Lists with what stands in front of them, and their first members.
use Rattle.std.proofs.Common.{◌≡◌, List, [], ◌∷◌, ◌++◌, Some, sym, ap, ◌∙◌}
use Rattle.std.specs.Prelude.{slice_get}
use Rattle.std.proofs.lemmas.List.{append_assoc}
use Rattle.std.proofs.lemmas.Option.{same_Some}

-- one more member in front of the rest
pub same_more : {A : Type 0} (same : List A) (x : A) (all rest more : List A) → all ≡ same ++ rest → rest ≡ x ∷ more → all ≡ (same ++ x ∷ []) ++ more
same_more same x all rest more is begins = is ∙ ap (λ l. same ++ l) begins ∙ sym (append_assoc same (x ∷ []) more)

-- a list that doesn't begin so
pub no_head : {A : Type 0} (xs : List A) (x : A) → ((more : List A) → xs ≡ x ∷ more → ⊥) → slice_get xs 0 ≡ Some x → ⊥
no_head [] x none at = cc
no_head (y ∷ xs) x none at = none xs (ap (λ z. z ∷ xs) (same_Some y x at))
