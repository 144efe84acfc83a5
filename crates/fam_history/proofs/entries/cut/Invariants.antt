use Rattle.fam_tree.proofs.Cutting.{CutFrom}
use Rattle.fam_history.proofs.entries.cut.Given as goal

abbrev pub invariant-loop-i : goal.invariant-loop-i
invariant-loop-i l = CutFrom l.mark l.bytes l.i
