use Rattle.std.proofs.Common.{◌≡◌, ℕ, ◌<◌, Some}
use Rattle.std.specs.Prelude.{slice_get}
use Rattle.fam_judging.specs.declared.candidate.Candidate.{Candidate}
use Rattle.fam_verdict.specs.Known.{pends_in}
use Rattle.fam_verdict.proofs.known.pending_in.Given as goal

-- the candidates before the place are so, too
abbrev pub invariant-states : goal.invariant-states
invariant-states l = (k : ℕ) → k < l.i → (d : Candidate) → slice_get l.candidates.items k ≡ Some d → pends_in d.settled ≡ l.pends
