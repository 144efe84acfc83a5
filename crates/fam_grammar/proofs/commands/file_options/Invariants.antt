use Rattle.std.proofs.Common.{◌≡◌, length}
use Rattle.fam_grammar.specs.Cursor.{words_left, IsShort}
use Rattle.fam_grammar.specs.Options.{file_options, no_file_options}
use Rattle.fam_grammar.proofs.commands.file_options.Given as goal

abbrev pub invariant-loop-word : goal.invariant-loop-word
invariant-loop-word l = (file_options l.takes l.given (words_left l.words) ≡ file_options l.takes no_file_options (words_left l.initial.words)) × IsShort l.words

abbrev pub decreases-loop-word : goal.decreases-loop-word
decreases-loop-word l = length (words_left l.words)
