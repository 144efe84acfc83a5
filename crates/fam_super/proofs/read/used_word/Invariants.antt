use Rattle.std.proofs.Common.{◌≡◌, drop}
use Rattle.fam_format.specs.Super as format
use Rattle.fam_super.proofs.read.used_word.Given as goal

-- the words behind the index decide
abbrev pub invariant-loop-word : goal.invariant-loop-word
invariant-loop-word l = format.used_word (drop l.word-index l.words) ≡ format.used_word l.words
