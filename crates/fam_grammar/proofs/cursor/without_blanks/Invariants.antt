use Rattle.std.proofs.Common.{◌≡◌, length}
use Rattle.fam_grammar.specs.Cursor.{words_left, IsShort}
use Rattle.fam_grammar.proofs.cursor.without_blanks.Given as goal

abbrev pub invariant-loop-left : goal.invariant-loop-left
invariant-loop-left l = (words_left l.left ≡ words_left l.initial.left) × IsShort l.left

abbrev pub decreases-loop-left : goal.decreases-loop-left
decreases-loop-left l = length l.left.bytes.now
