use Rattle.std.proofs.Common.{◌≡◌, ◌++◌, ◌∷◌, [], ℕ, List, sym, ap, ◌∙◌, rules}
use Rattle.fam_grammar.specs.Spellings.{unescaped}
use Rattle.fam_grammar.proofs.SpellingLemmas.{behind, read_on}
use Rattle.fam_grammar.proofs.spellings.unescaped.Goals as goal

pub loop-rest-preserved : goal.loop-rest-preserved
loop-rest-preserved c =
    let pushed : c.push.new.self.items ≡ c.loop-rest.bytes.items ++ c.in-Some.byte ∷ [] = search rules in
    read_on c.args.word.now c.loop-rest.bytes.items c.in-Some.byte (unescaped c.loop-rest.rest.now) (unescaped c.in-Some.more.now) c.loop-rest.invariant c.in-Some.ensures.cases
    ∙ ap (λ (l : List ℕ). behind l (unescaped c.in-Some.more.now)) (sym pushed)
