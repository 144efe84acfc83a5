use Rattle.std.proofs.Common.{◌≡◌, length}
use Rattle.fam_grammar.specs.Cursor.{words_left, IsShort}
use Rattle.fam_grammar.specs.Options.{mkfs_options, no_mkfs_options}
use Rattle.fam_grammar.proofs.events.mkfs_options.Given as goal

abbrev pub invariant-loop-word : goal.invariant-loop-word
invariant-loop-word l = (mkfs_options l.given (words_left l.words) ≡ mkfs_options no_mkfs_options (words_left l.initial.words)) × IsShort l.words

abbrev pub decreases-loop-word : goal.decreases-loop-word
decreases-loop-word l = length (words_left l.words)
