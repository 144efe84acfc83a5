-- Candidates that are put behind others by loops over candidates and hosts.
use Rattle.std.specs.Prelude.{ℕ, ◌≡◌, ◌<◌, List, Some, map, slice_get, take}
use Rattle.fam_base.specs.Image.{Image}
use Rattle.fam_journal.specs.Notes.{Note}
use Rattle.fam_judge.specs.Covering.{HasBelow, LeadsStates}
use Rattle.fam_judge.specs.Possible.{Elsewhere, MayLead, Possible, StepsTo, Wrote}
use Rattle.fam_judging.specs.declared.candidate.Candidate.{Candidate}
use Rattle.fam_judging.specs.Into.{LeadsInto, PutsInto, StepsInto, WritesInto}

-- all of these candidates are fine
abbrev pub AllFine : (Candidate → Type 0) → List Candidate → Type 0
AllFine Fine cs = (k : ℕ) (d : Candidate) → slice_get cs k ≡ Some d → Fine d

-- states of which P holds are put among the others, and where those were fine so are all
pub record PutAmong (P : Possible → Type 0) (Fine : Candidate → Type 0) (see : Candidate → Possible) (old new : List Candidate) : Type 0 where
  pub puts : PutsInto P (map see old) (map see new)
  pub fine : AllFine Fine old → AllFine Fine new

-- all states to which the line leads at once are put among the others, unless others allow no less; where those were fine so are all
pub record StepsAmong (start : Image) (line : Note) (x : Possible) (Fine : Candidate → Type 0) (see : Candidate → Possible) (old new : List Candidate) : Type 0 where
  pub into : StepsInto start line x (map see old) (map see new)
  pub fine : AllFine Fine old → AllFine Fine new

-- the line leads from the state in which host k named an entry to some of these states, where it tells of the entry
abbrev pub LedBehind : Image → Note → ℕ → Possible → Possible → List Possible → Type 0
LedBehind start line k x w zs = (z : Possible) → (wrote : Wrote start k x w) → (Elsewhere k wrote.seq line → ⊥) → StepsTo start w line z → HasBelow zs z

-- where host k named an entry in the state w, those to which the line leads from there are put among the others
pub record LeadsBehind (start : Image) (line : Note) (k : ℕ) (x w : Possible) (Fine : Candidate → Type 0) (see : Candidate → Possible) (old new : List Candidate) : Type 0 where
  pub among : PutAmong (MayLead start x line) Fine see old new
  pub all : LedBehind start line k x w (map see new)

-- so it is for the first n of these candidates
pub record LeadsBehindAll (start : Image) (line : Note) (k : ℕ) (x : Possible) (at : Candidate → Possible) (ws : List Candidate) (n : ℕ)
    (Fine : Candidate → Type 0) (see : Candidate → Possible) (old new : List Candidate) : Type 0 where
  pub among : PutAmong (MayLead start x line) Fine see old new
  pub all : (i : ℕ) (d : Candidate) → i < n → slice_get ws i ≡ Some d → LedBehind start line k x (at d) (map see new)

-- those to which the line leads where host k named an entry before are put among the others; where those were fine so are all
pub record WritesAmong (start : Image) (line : Note) (k : ℕ) (x : Possible) (Fine : Candidate → Type 0) (see : Candidate → Possible) (old new : List Candidate) : Type 0 where
  pub into : WritesInto start line k x (map see old) (map see new)
  pub fine : AllFine Fine old → AllFine Fine new

-- so are all to which it leads, as far as hosts of numbers below n may have named an entry before
pub record LeadsAmong (start : Image) (line : Note) (n : ℕ) (x : Possible) (Fine : Candidate → Type 0) (see : Candidate → Possible) (old new : List Candidate) : Type 0 where
  pub into : LeadsInto start line n x (map see old) (map see new)
  pub fine : AllFine Fine old → AllFine Fine new

-- the line leads from the first n of these candidates to the others, and each of those is fine
pub record LeadsAll (start : Image) (line : Note) (at : Candidate → Possible) (cs : List Candidate) (n : ℕ) (Fine : Candidate → Type 0) (see : Candidate → Possible)
    (new : List Candidate) : Type 0 where
  pub leads : LeadsStates start line (map at (take n cs)) (map see new)
  pub fine : AllFine Fine new
