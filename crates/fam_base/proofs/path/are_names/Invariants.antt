use Rattle.fam_base.proofs.PathTests.{Passed}
use Rattle.fam_base.proofs.path.are_names.Given as goal

abbrev pub invariant-loop-i : goal.invariant-loop-i
invariant-loop-i l = Passed l.bytes l.start l.i
