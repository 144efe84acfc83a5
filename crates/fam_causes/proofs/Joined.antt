-- Texts behind one another.
use Rattle.std.proofs.Common.{◌≡◌, ℕ, List, ◌++◌, refl, ◌∙◌}
use Rattle.std.proofs.lemmas.List.{append_assoc}

-- four texts
assoc4 : (a b c d : List ℕ) → a ++ (b ++ (c ++ d)) ≡ a ++ b ++ c ++ d
assoc4 a b c d = simp append_assoc refl

-- six texts
pub assoc6 : (a b c d e f : List ℕ) → a ++ (b ++ (c ++ (d ++ (e ++ f)))) ≡ a ++ b ++ c ++ d ++ e ++ f
assoc6 a b c d e f = assoc4 a b c (d ++ (e ++ f)) ∙ assoc4 (a ++ b ++ c) d e f
