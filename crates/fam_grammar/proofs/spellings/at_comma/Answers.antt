use Rattle.std.proofs.Common.{◌≡◌, ℕ, Some, None, take, drop, refl, sym, ap, ◌∙◌, arith}
use Rattle.std.specs.Prelude.{position, ◌==◌}
use Rattle.std.proofs.lemmas.List.{drop-drop, take_rest}
use Rattle.fam_grammar.proofs.SpellingLemmas.{pair_of}
use Rattle.fam_grammar.proofs.spellings.at_comma.Goals as goal

pub returns-in_err-comma : goal.returns-in_err-comma
returns-in_err-comma c =
    let none : position (λ byte. byte == 44) c.args.word.now ≡ None = sym c.comma.ensures.value ∙ c.in_err-comma.was in
    rw (c.from_residual.ensures, none) refl

pub returns : goal.returns
returns c =
    let found : position (λ byte. byte == 44) c.args.word.now ≡ Some c.in_ok-comma.comma = sym c.comma.ensures.value ∙ c.in_ok-comma.was in
    let prefix : c.split_at.result.0.now ≡ take c.in_ok-comma.comma c.args.word.now = c.split_at.ensures.front in
    let back : c.split_at.result.1.now ≡ drop c.in_ok-comma.comma c.args.word.now = c.split_at.ensures.back in
    rw found (pair_of _ _ _ _ prefix (take_rest c.split_at.result.1.now 1 ∙ ap (drop 1) back ∙ drop-drop 1 c.in_ok-comma.comma c.args.word.now ∙ ap (λ (n : ℕ). drop n c.args.word.now) (omega arith)))
