-- What a function over candidates pushes behind others.
use Rattle.std.specs.Prelude.{ℕ, ⊤, ◌≡◌, ◌≢◌, ◌++◌, List, Option, Some, None, length, slice_get}
use Rattle.fam_base.specs.declared.entry.Entry.{Entry}
use Rattle.fam_base.specs.Image.{Image}
use Rattle.fam_journal.specs.Past.{State, Bad, Sound, settled_length}
use Rattle.fam_journal.specs.Legal.{FoundAllowed}
use Rattle.fam_judge.specs.Possible.{Possible}
use Rattle.fam_lines.specs.declared.host.SeenHost.{SeenHost}
use Rattle.fam_judging.specs.declared.candidate.Candidate.{Candidate}
use Rattle.fam_judging.specs.declared.candidate.Stage.{Stage}
use Rattle.fam_judging.specs.declared.candidate.Stage.TheVariants as stage
use Rattle.fam_judging.specs.declared.given.GivenImage.{GivenImage}
use Rattle.fam_judging.specs.Going.{HasGiven, NamesByNow}

-- of these candidates one is this state
pub record HasState (see : Candidate → Possible) (candidates : List Candidate) (z : Possible) : Type 0 where
  pub place : ℕ
  pub candidate : Candidate
  pub is : slice_get candidates place ≡ Some candidate
  pub state : z ≡ see candidate

-- a candidate has its place for each of so many hosts, and where it is the image that was handed in, this is what is said of it
pub record IsFine (start : Image) (given : GivenImage) (seen : List SeenHost) (c : Candidate) : Type 0 where
  pub placed : length c.tracks.items ≡ length seen
  pub said : HasGiven start given c.settled

-- new ones stand behind the old ones: all the states of which P holds, and each of them fine
pub record Pushes (P : Possible → Type 0) (Fine : Candidate → Type 0) (see : Candidate → Possible) (old new : List Candidate) : Type 0 where
  pub news : List Candidate
  pub is : new ≡ old ++ news
  pub sound : (k : ℕ) (d : Candidate) → slice_get news k ≡ Some d → P (see d)
  pub fine : (k : ℕ) (d : Candidate) → slice_get news k ≡ Some d → Fine d
  pub complete : (z : Possible) → P z → HasState see news z

-- host h's command, which has found n entries by now, has named some entry
abbrev pub WrittenAt : Image → ℕ → ℕ → Possible → Possible → Type 0
WrittenAt start h n x z = (e : Entry) × NamesByNow start h n e x z

-- how many entries a command has found by its stage; so many are settled
abbrev pub first_count : Option Stage → ℕ → ℕ
first_count None settled = settled
first_count (Some stage.Begun) settled = settled
first_count (Some stage.Marked) settled = settled
first_count (Some (stage.Met n)) settled = n
first_count (Some (stage.Named seq)) settled = settled

-- a file system
abbrev pub IsSoundState : State → Type 0
IsSoundState (Sound p history pending) = ⊤
IsSoundState (Bad origin damage gate) = ⊥

-- a count that may be found of a file system, and isn't the settled one
pub record IsMore (m : ℕ) (s : State) : Type 0 where
  pub found : FoundAllowed m s
  pub sound : IsSoundState s
  pub other : m ≢ settled_length s
