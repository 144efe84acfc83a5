use Rattle.std.proofs.Common.{◌≡◌, ◌≤◌, length, take}
use Rattle.fam_grammar.specs.Spellings.{unescaped}
use Rattle.fam_grammar.proofs.SpellingLemmas.{behind}
use Rattle.fam_grammar.proofs.spellings.path_of.Given as goal

abbrev pub invariant-loop-rest : goal.invariant-loop-rest
invariant-loop-rest l = (unescaped l.word ≡ behind (take l.count l.field) (unescaped l.rest)) × (l.count ≤ length l.field) × (length l.field ≡ 512)

abbrev pub decreases-loop-rest : goal.decreases-loop-rest
decreases-loop-rest l = length l.rest
