-- What all candidates agree on.
use Rattle.std.specs.Prelude.{ℕ, ◌≡◌, Bool, List, Some, slice_get}
use Rattle.fam_judging.specs.declared.candidate.Candidate.{Candidate}
use Rattle.fam_verdict.specs.Known.{count_in, pends_in}

-- so many entries are settled in each
abbrev pub AllCountIn : List Candidate → ℕ → Type 0
AllCountIn cs n = (k : ℕ) (d : Candidate) → slice_get cs k ≡ Some d → count_in d.settled ≡ n

-- in each one more pends, or in none
abbrev pub AllPendIn : List Candidate → Bool → Type 0
AllPendIn cs b = (k : ℕ) (d : Candidate) → slice_get cs k ≡ Some d → pends_in d.settled ≡ b
