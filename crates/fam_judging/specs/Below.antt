-- Candidates that allow no less than others, and candidates that are put behind those that allow more.
use Rattle.std.specs.Prelude.{ℕ, ⊤, ◌≡◌, ◌<◌, ◌⊎◌, List, length, map, slice_get, Some, true}
use Rattle.fam_judge.specs.Covering.{FloorUnder, HasBelow}
use Rattle.fam_judge.specs.Possible.{Possible}
use Rattle.fam_lines.specs.declared.host.SeenHost.{SeenHost}
use Rattle.fam_judging.specs.declared.candidate.Candidate.{Candidate}
use Rattle.fam_judging.specs.declared.candidate.Stage.{Stage}
use Rattle.fam_judging.specs.declared.candidate.Stage.TheVariants as stage
use Rattle.fam_judging.specs.declared.candidate.Track.{Track}

-- at this stage no more is asked of the first one than of the second one
abbrev pub AsksNoMore : Stage → Track → Track → Type 0
AsksNoMore stage.Begun a b = FloorUnder a.floor b.floor
AsksNoMore stage.Marked a b = FloorUnder a.floor b.floor
AsksNoMore (stage.Met n) a b = ⊤
AsksNoMore (stage.Named seq) a b = a.wrote ≡ b.wrote

-- a running command has come as far in the first one, and no more is asked of it there
pub record IsTrackBelow (a b : Track) : Type 0 where
  pub stage : a.stage ≡ b.stage
  pub asks : AsksNoMore b.stage a b

-- so of the host of this number, if it runs a command
abbrev pub IsHostBelow : List SeenHost → List Track → List Track → ℕ → Type 0
IsHostBelow seen a b k =
    (s : SeenHost) (t u : Track) → slice_get seen k ≡ Some s → s.runs ≡ true → slice_get a k ≡ Some t → slice_get b k ≡ Some u → IsTrackBelow t u

-- so of all hosts
pub record AreHostsBelow (seen : List SeenHost) (a b : List Track) : Type 0 where
  pub long : length a ≡ length b
  pub each : (k : ℕ) → k < length a → IsHostBelow seen a b k

-- Candidates that are put behind others.

-- one of these candidates
abbrev pub IsIn : List Candidate → Candidate → Type 0
IsIn cs d = (k : ℕ) × (slice_get cs k ≡ Some d)

-- the candidate is put among the others, unless one of them allows no less
pub record AddsOne (see : Candidate → Possible) (c : Candidate) (old new : List Candidate) : Type 0 where
  pub kept : (d : Candidate) → IsIn old d → IsIn new d
  pub from : (d : Candidate) → IsIn new d → IsIn old d ⊎ (d ≡ c)
  pub below : HasBelow (map see new) (see c)

-- so is each of these
pub record AddsAll (see : Candidate → Possible) (news old new : List Candidate) : Type 0 where
  pub kept : (d : Candidate) → IsIn old d → IsIn new d
  pub from : (d : Candidate) → IsIn new d → IsIn old d ⊎ IsIn news d
  pub below : (d : Candidate) → IsIn news d → HasBelow (map see new) (see d)
