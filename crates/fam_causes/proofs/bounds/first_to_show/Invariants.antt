use Rattle.fam_causes.specs.Bounds.{NoneShows}
use Rattle.fam_causes.proofs.bounds.first_to_show.Given as goal

abbrev pub invariant-candidates : goal.invariant-candidates
invariant-candidates l = NoneShows l.at l.m l.candidates.items l.i
