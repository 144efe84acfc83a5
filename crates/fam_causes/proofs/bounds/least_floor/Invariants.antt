use Rattle.fam_causes.specs.Bounds.{LeastOfFirst}
use Rattle.fam_causes.proofs.bounds.least_floor.Given as goal

abbrev pub invariant-candidates : goal.invariant-candidates
invariant-candidates l = LeastOfFirst l.at l.candidates.items l.i l.least
