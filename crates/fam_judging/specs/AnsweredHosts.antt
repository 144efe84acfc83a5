-- The hosts behind an answer, and a candidate that is put behind it.
use Rattle.std.specs.Prelude.{ℕ, ◌≡◌, ◌++◌, ◌∷◌, List, [], false, Option, Some, None}
use Rattle.fam_base.specs.Image.{Image}
use Rattle.fam_journal.specs.Members.{changed_at}
use Rattle.fam_journal.specs.Notes.{Answer}
use Rattle.fam_journal.specs.Shapes.{keeps_behind}
use Rattle.fam_judge.specs.Possible.{Possible}
use Rattle.fam_lines.specs.declared.host.SeenHost.{SeenHost}
use Rattle.fam_judging.specs.Candidates.{progress_list, settled_state}
use Rattle.fam_judging.specs.declared.candidate.Candidate.{Candidate}
use Rattle.fam_judging.specs.declared.hosts.Hosts.{Hosts}
use Rattle.fam_judging.specs.declared.lefts.Left.{Left}
use Rattle.fam_judging.specs.declared.lefts.Lefts.{Lefts}

-- what is seen of the hosts behind an answer of host h: it runs no more
abbrev pub answered_seen : ℕ → Answer → List SeenHost → List SeenHost
answered_seen h answer seen = changed_at h (λ s. record s { runs = false; keeps = keeps_behind answer s.keeps }) seen

-- the state that a candidate is then
abbrev pub answered_possible : Image → Hosts → ℕ → Answer → Candidate → Possible
answered_possible start hosts h answer c = record { state = settled_state start c.settled; hosts = progress_list (answered_seen h answer hosts.seen.items) hosts.commands.items c.tracks.items }

-- a candidate that keeps what is left of host h's command
pub record KeepsLeft (c : Candidate) (h : ℕ) (l : Left) (d : Candidate) : Type 0 where
  pub settled : d.settled ≡ l.settled
  pub tracks : d.tracks.items ≡ changed_at h (λ t. l.track) c.tracks.items

-- such one is put behind others
pub record IsPutBehind (c : Candidate) (h : ℕ) (l : Left) (old new : List Candidate) : Type 0 where
  pub d : Candidate
  pub behind : KeepsLeft c h l d
  pub added : new ≡ old ++ d ∷ []

-- so it is where something is left
abbrev pub ArePutBehind : Candidate → ℕ → Option Left → List Candidate → List Candidate → Type 0
ArePutBehind c h None old new = new ≡ old
ArePutBehind c h (Some l) old new = IsPutBehind c h l old new

-- so are all that keep what is left
pub record AllPut (c : Candidate) (h : ℕ) (lefts : Lefts) (old new : List Candidate) : Type 0 where
  pub mid : List Candidate
  pub first : ArePutBehind c h lefts.first old mid
  pub second : ArePutBehind c h lefts.second mid new
