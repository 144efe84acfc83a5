use Rattle.std.proofs.Common.{◌≡◌, ℕ, List, Option, Some, None, option_map, refl, sym}
use Rattle.std.proofs.lemmas.Bool.{true≢false}
use Rattle.uuid.specs.Text.{parsed}
use Rattle.fam_words.proofs.values.uuid_if_given.Goals as goal

not_parsed : (found : Option (List ℕ)) → (((u : List ℕ) × (found ≡ Some u)) → ⊥) → None ≡ option_map Some found
not_parsed None none_such = refl
not_parsed (Some u) none_such = absurd (none_such (u, refl))

pub returns-in-Err : goal.returns-in-Err
returns-in-Err c = rw c.in-Some.is (not_parsed (parsed c.in-Some.text.now) (λ p. true≢false (sym (c.in-Err.ensures.ok.1 p))))
