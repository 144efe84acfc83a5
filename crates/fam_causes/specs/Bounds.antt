-- How many entries an answer may show.
use Rattle.std.specs.Prelude.{ℕ, ⊤, ◌≡◌, ◌<◌, ◌≤◌, min, max, List, length, slice_get, Option, Some, None}
use Rattle.fam_journal.specs.Notes.{Answer, Replied, MediaFault}
use Rattle.fam_journal.specs.Past.{reply_count}
use Rattle.fam_lines.specs.declared.answer.HostAnswer.{HostAnswer}
use Rattle.fam_lines.specs.declared.line.Line.TheVariants as line
use Rattle.fam_lines.specs.Lines.{answer_of}
use Rattle.fam_settled.specs.Settled.{SettledLog as Log, settled_and_pending}
use Rattle.fam_judging.specs.declared.candidate.Candidate.{Candidate}
use Rattle.fam_judging.specs.declared.candidate.Settled.{Settled}
use Rattle.fam_judging.specs.declared.candidate.Settled.TheVariants as settled
use Rattle.fam_judging.specs.declared.candidate.Track.{Track}
use Rattle.fam_causes.specs.Asked.{Asked}

-- of how many entries an answer is, where it tells that
abbrev pub count_in : Answer → Option ℕ
count_in (Replied given) = reply_count given
count_in (MediaFault at) = None

-- so of one in a line
abbrev pub shown_count : HostAnswer → Option ℕ
shown_count answer = count_in (answer_of answer)

-- the line is an answer of so many entries to host h
pub record ShowsSo (x : Asked) (h shown : ℕ) : Type 0 where
  pub answer : HostAnswer
  pub line_is : x.line ≡ Some (line.Answered h answer)
  pub count : shown_count answer ≡ Some shown

-- how much was settled at the mark of a host's command
abbrev pub floor_in : Option Track → Option ℕ
floor_in None = None
floor_in (Some t) = t.floor

-- so of host h in a candidate
abbrev pub floor_at : ℕ → Candidate → Option ℕ
floor_at h c = floor_in (slice_get c.tracks.items h)

-- how many entries there are, with the one that pends; none where there is no file system
abbrev pub most_in : Settled → Option ℕ
most_in (settled.Log log) = Some (length (settled_and_pending log))
most_in settled.Given = None
most_in settled.Halted = None

-- a number is told, and this one is no greater
abbrev pub IsFrom : ℕ → Option ℕ → Type 0
IsFrom floor None = ⊥
IsFrom floor (Some n) = floor ≤ n

-- a number, where one is told, is no greater than this one
abbrev pub IsUpTo : ℕ → Option ℕ → Type 0
IsUpTo most None = ⊤
IsUpTo most (Some n) = n ≤ most

-- the lesser of two numbers, or the one that there is
abbrev pub lesser : Option ℕ → ℕ → ℕ
lesser None n = n
lesser (Some m) n = min m n

-- the greater one, where there is any
abbrev pub greater : Option ℕ → Option ℕ → Option ℕ
greater None n = n
greater (Some m) None = Some m
greater (Some m) (Some n) = Some (max m n)

-- in one of the first i candidates this is the floor of host h, and in none of them it is less
pub record IsLeastFloor (h : ℕ) (cs : List Candidate) (i floor : ℕ) : Type 0 where
  pub place : ℕ
  pub within : place < i
  pub one : Candidate
  pub is : slice_get cs place ≡ Some one
  pub floor_is : floor_at h one ≡ Some floor
  pub least : (k : ℕ) (c : Candidate) → k < i → slice_get cs k ≡ Some c → IsFrom floor (floor_at h c)

-- one of the first i candidates has so many entries, and none more
pub record IsMost (cs : List Candidate) (i most : ℕ) : Type 0 where
  pub place : ℕ
  pub within : place < i
  pub one : Candidate
  pub is : slice_get cs place ≡ Some one
  pub most_is : most_in one.settled ≡ Some most
  pub greatest : (k : ℕ) (c : Candidate) → k < i → slice_get cs k ≡ Some c → IsUpTo most (most_in c.settled)

-- the least floor of the first i candidates, where there are any
abbrev pub LeastOfFirst : ℕ → List Candidate → ℕ → Option ℕ → Type 0
LeastOfFirst h cs i None = i ≡ 0
LeastOfFirst h cs i (Some floor) = IsLeastFloor h cs i floor

-- the most entries of the first i candidates, where some has a file system
abbrev pub MostOfFirst : List Candidate → ℕ → Option ℕ → Type 0
MostOfFirst cs i None = (k : ℕ) (c : Candidate) → k < i → slice_get cs k ≡ Some c → most_in c.settled ≡ None
MostOfFirst cs i (Some most) = IsMost cs i most

-- so few entries are shown: in each candidate no fewer than `floor`, which are more, were settled at the mark, which stands in this line
pub record ShowsFew (x : Asked) (shown floor mark : ℕ) : Type 0 where
  pub host : ℕ
  pub shows : ShowsSo x host shown
  pub least : IsLeastFloor host x.candidates (length x.candidates) floor
  pub few : shown < floor
  pub mark_is : slice_get x.marks host ≡ Some mark

-- so many are shown: no candidate has more entries than some number, and `most`, which is that or counts as well what running commands may
-- have appended, is less
pub record ShowsMany (x : Asked) (shown most : ℕ) : Type 0 where
  pub host : ℕ
  pub shows : ShowsSo x host shown
  pub base : ℕ
  pub greatest : IsMost x.candidates (length x.candidates) base
  pub above : base ≤ most
  pub many : most < shown

-- in a candidate so many entries may be shown to host h: no fewer than were settled at its mark, and no more than there are
pub record MayShow (h m : ℕ) (c : Candidate) : Type 0 where
  pub floor : ℕ
  pub floor_is : floor_at h c ≡ Some floor
  pub low : floor ≤ m
  pub log : Log
  pub settled_is : c.settled ≡ settled.Log log
  pub high : m ≤ length (settled_and_pending log)

-- in none of the first i candidates
abbrev pub NoneShows : ℕ → ℕ → List Candidate → ℕ → Type 0
NoneShows h m cs i = (k : ℕ) (c : Candidate) → k < i → slice_get cs k ≡ Some c → MayShow h m c → ⊥

-- this is what is settled in the first candidate in which they may
pub record IsFirstToShow (h m : ℕ) (cs : List Candidate) (log : Log) : Type 0 where
  pub place : ℕ
  pub one : Candidate
  pub is : slice_get cs place ≡ Some one
  pub may : MayShow h m one
  pub settled_is : one.settled ≡ settled.Log log
  pub before : NoneShows h m cs place
