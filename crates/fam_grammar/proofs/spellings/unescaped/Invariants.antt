use Rattle.std.proofs.Common.{◌≡◌, length}
use Rattle.fam_grammar.specs.Spellings.{unescaped}
use Rattle.fam_grammar.proofs.SpellingLemmas.{behind}
use Rattle.fam_grammar.proofs.spellings.unescaped.Given as goal

abbrev pub invariant-loop-rest : goal.invariant-loop-rest
invariant-loop-rest l = unescaped l.word ≡ behind l.bytes.items (unescaped l.rest)

abbrev pub decreases-loop-rest : goal.decreases-loop-rest
decreases-loop-rest l = length l.rest
