use Rattle.fam_grammar.proofs.WordLemmas.{word_prefix_at}
use Rattle.fam_grammar.proofs.cursor.first_word.Goals as goal

pub returns-clause-first : goal.returns-clause-first
returns-clause-first c = word_prefix_at _ _ _ c.requires.begins c.prefix_length-length.ensures.count
