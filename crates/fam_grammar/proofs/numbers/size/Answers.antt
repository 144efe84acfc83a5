use Rattle.std.proofs.Common.{◌≡◌, ℕ, ◌<◌, List, [], ◌∷◌, None, length, refl, arith}
use Rattle.fam_grammar.specs.Numbers.{number_of_text, size_of_text}
use Rattle.fam_grammar.proofs.numbers.size.Goals as goal

empty_is_none : (text : List ℕ) → length text < 1 → None ≡ size_of_text text
unfolding size_of_text number_of_text
empty_is_none [] short = refl
empty_is_none (b ∷ bytes) short = absurd (omega arith)

pub returns-in-empty : goal.returns-in-empty
returns-in-empty c = empty_is_none c.args.text.now c.in-empty.len_below
