use Rattle.std.proofs.Common.{◌≡◌, ◌++◌, ◌∷◌, [], ℕ, List, sym, ap, ◌∙◌, rules}
use Rattle.fam_grammar.proofs.SpellingLemmas.{behind}
use Rattle.fam_history.specs.ByteWords.{paired}
use Rattle.fam_history.proofs.ByteSpellings.{pair_read}
use Rattle.fam_history.proofs.byte_words.paired.Goals as goal

pub loop-rest-preserved : goal.loop-rest-preserved
loop-rest-preserved c =
    let pushed : c.push.new.self.items ≡ c.loop-rest.bytes.items ++ c.in-Some.byte ∷ [] = search rules in
    pair_read c.args.word.now c.loop-rest.bytes.items c.in-Some.byte (paired c.loop-rest.rest.now) (paired c.in-Some.more.now) c.loop-rest.invariant c.in-Some.ensures.cases
    ∙ ap (λ (l : List ℕ). behind l (paired c.in-Some.more.now)) (sym pushed)
