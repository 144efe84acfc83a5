use Rattle.fam_tree.specs.Lines.{line_feed}
use Rattle.fam_tree.proofs.Cutting.{CutFrom}
use Rattle.fam_verdict.proofs.counting.behind.Given as goal

abbrev pub invariant-loop-i : goal.invariant-loop-i
invariant-loop-i l = CutFrom line_feed l.bytes l.i
