use Rattle.fam_causes.specs.Bounds.{MostOfFirst}
use Rattle.fam_causes.proofs.bounds.most.Given as goal

abbrev pub invariant-candidates : goal.invariant-candidates
invariant-candidates l = MostOfFirst l.candidates.items l.i l.most
