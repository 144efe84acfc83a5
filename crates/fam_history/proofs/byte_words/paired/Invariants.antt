use Rattle.std.proofs.Common.{◌≡◌, length}
use Rattle.fam_grammar.proofs.SpellingLemmas.{behind}
use Rattle.fam_history.specs.ByteWords.{paired}
use Rattle.fam_history.proofs.byte_words.paired.Given as goal

abbrev pub invariant-loop-rest : goal.invariant-loop-rest
invariant-loop-rest l = paired l.word ≡ behind l.bytes.items (paired l.rest)

abbrev pub decreases-loop-rest : goal.decreases-loop-rest
decreases-loop-rest l = length l.rest
