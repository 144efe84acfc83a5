use Rattle.std.proofs.Common.{◌≡◌, ◌<◌, ℕ, Some}
use Rattle.std.specs.Prelude.{slice_get}
use Rattle.fam_judging.specs.declared.candidate.Candidate.{Candidate}
use Rattle.fam_causes.specs.Differing.{IsAcknowledgedIn}
use Rattle.fam_causes.proofs.acknowledged.is_unacknowledged.Given as goal

abbrev pub invariant-candidates : goal.invariant-candidates
invariant-candidates l = (k : ℕ) (c : Candidate) → k < l.i → slice_get l.candidates.items k ≡ Some c → IsAcknowledgedIn l.seen l.cmd l.at l.seq c → ⊥
