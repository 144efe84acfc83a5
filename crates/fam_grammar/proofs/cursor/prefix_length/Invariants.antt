use Rattle.std.proofs.Common.{◌≡◌, ◌+◌, length}
use Rattle.fam_grammar.specs.Cursor.{prefix_length}
use Rattle.fam_grammar.proofs.cursor.prefix_length.Given as goal

abbrev pub invariant-loop-rest : goal.invariant-loop-rest
invariant-loop-rest l = (prefix_length l.initial.rest ≡ l.count + prefix_length l.rest) × (l.count + length l.rest ≡ length l.initial.rest)

abbrev pub decreases-loop-rest : goal.decreases-loop-rest
decreases-loop-rest l = length l.rest
