use Rattle.std.proofs.Common.{◌≡◌, ◌<◌, ℕ, Some}
use Rattle.std.specs.Prelude.{slice_get}
use Rattle.fam_judging.specs.declared.candidate.Candidate.{Candidate}
use Rattle.fam_causes.specs.Differing.{MayNameIn}
use Rattle.fam_causes.proofs.acknowledged.is_unnamed.Given as goal

abbrev pub invariant-candidates : goal.invariant-candidates
invariant-candidates l = (k : ℕ) (c : Candidate) → k < l.i → slice_get l.candidates.items k ≡ Some c → MayNameIn l.seen l.cmd l.at l.seq l.entry c → ⊥
