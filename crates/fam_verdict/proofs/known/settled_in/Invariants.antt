use Rattle.std.proofs.Common.{◌≡◌, ℕ, ◌<◌, Some}
use Rattle.std.specs.Prelude.{slice_get}
use Rattle.fam_judging.specs.declared.candidate.Candidate.{Candidate}
use Rattle.fam_verdict.specs.Known.{count_in}
use Rattle.fam_verdict.proofs.known.settled_in.Given as goal

-- the candidates before the place count the same
abbrev pub invariant-counts : goal.invariant-counts
invariant-counts l = (k : ℕ) → k < l.i → (d : Candidate) → slice_get l.candidates.items k ≡ Some d → count_in d.settled ≡ l.count
