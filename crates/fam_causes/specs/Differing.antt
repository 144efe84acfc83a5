-- What was wanted in place of an answer, an entry or a found.
use Rattle.std.specs.Prelude.{ℕ, ◌≡◌, ◌≢◌, ◌<◌, ◌⊎◌, ◌↔◌, ◌++◌, false, List, [], length, slice_get, take, Vec, Option, Some, None, Result, Ok, Err}
use Rattle.std.specs.FinMap as map
use Rattle.std.specs.Global.{Global}
use Rattle.fam_base.specs.declared.entry.Entry.{Entry}
use Rattle.fam_format.specs.Tree.{replay}
use Rattle.fam_history.specs.declared.answer.ToldAnswer.{ToldAnswer}
use Rattle.fam_history.specs.declared.answer.ToldAnswer.TheVariants as told
use Rattle.fam_history.specs.declared.command.ToldCommand.{ToldCommand}
use Rattle.fam_history.specs.ToldAnswers.{answer_told}
use Rattle.fam_journal.specs.Legal.{AppendedAllowed, FoundAllowed, FoundBad, WritesAllowed}
use Rattle.fam_journal.specs.Past as past
use Rattle.fam_journal.specs.Past.{acknowledges}
use Rattle.fam_lines.specs.declared.answer.HostAnswer.{HostAnswer}
use Rattle.fam_lines.specs.declared.answer.HostAnswer.TheVariants as given
use Rattle.fam_lines.specs.declared.host.SeenHost.{SeenHost}
use Rattle.fam_lines.specs.declared.line.Line.TheVariants as line
use Rattle.fam_lines.specs.Lines.{answer_of}
use Rattle.fam_rules.specs.declared.answers.Refused.{Refused}
use Rattle.fam_rules.specs.Asks.{entries_of}
use Rattle.fam_rules.specs.Decide.{decide}
use Rattle.fam_settled.specs.Settled.{SettledLog as Log, settled_and_pending, settled_files, settled_log_state}
use Rattle.fam_settled.specs.Told.{IsToldFit, bare_cmd}
use Rattle.fam_judging.specs.declared.candidate.Candidate.{Candidate}
use Rattle.fam_judging.specs.declared.candidate.Settled.{Settled}
use Rattle.fam_judging.specs.declared.candidate.Settled.TheVariants as settled
use Rattle.fam_judging.specs.declared.candidate.Track.{Track}
use Rattle.fam_judging.specs.declared.candidate.Wrote.{Wrote}
use Rattle.fam_judging.specs.declared.given.GivenImage.{GivenImage}
use Rattle.fam_judging.specs.Candidates.{past_damage}
use Rattle.fam_judging.specs.FoundLefts.{host_of}
use Rattle.fam_judging.specs.Going.{running}
use Rattle.fam_judging.specs.ReplyKinds.{damage_in}
use Rattle.fam_causes.specs.Asked.{Asked}
use Rattle.fam_causes.specs.Asking.{asking_of, asks_survey}
use Rattle.fam_causes.specs.Bounds.{IsFirstToShow, shown_count}

-- the line is this answer to host h, which runs this command
pub record AnswersCommand (x : Asked) (h : ℕ) (answer : HostAnswer) (cmd : ToldCommand) : Type 0 where
  pub line_is : x.line ≡ Some (line.Answered h answer)
  pub runs : running x.hosts.seen.items x.hosts.commands.items h ≡ Some cmd

-- Trees.

-- the entries of a tree of the first m entries, in the order in which a listing has them
abbrev pub tree_entries : Log → ℕ → List Entry
tree_entries log m = map.values (replay (entries_of (take m (settled_and_pending log))))

-- behind what two lists have in common the one goes on with this, and the other with that; none where it ends
pub record FirstDiffer (listed all : List Entry) (found wanted : Option Entry) : Type 0 where
  pub same : List Entry
  pub listed_rest : List Entry
  pub all_rest : List Entry
  pub listed_is : listed ≡ same ++ listed_rest
  pub all_is : all ≡ same ++ all_rest
  pub found_is : slice_get listed_rest 0 ≡ found
  pub wanted_is : slice_get all_rest 0 ≡ wanted
  pub differ : found ≢ wanted

-- so a listing first differs from the tree of as many entries, in the first candidate in which so many may be shown
pub record ListsOther (x : Asked) (found wanted : Option Entry) : Type 0 where
  pub host : ℕ
  pub m : ℕ
  pub entries : Vec Entry Global
  pub line_is : x.line ≡ Some (line.Answered host (given.Played m entries))
  pub log : Log
  pub first : IsFirstToShow host m x.candidates log
  pub differ : FirstDiffer entries.items (tree_entries log m) found wanted

-- Answers.

-- in the first candidate in which as many entries may be shown the question may be answered so, and not as it is
pub record IsOtherShown (x : Asked) (wanted : ToldAnswer) : Type 0 where
  pub host : ℕ
  pub answer : HostAnswer
  pub cmd : ToldCommand
  pub answers : AnswersCommand x host answer cmd
  pub m : ℕ
  pub count : shown_count answer ≡ Some m
  pub log : Log
  pub first : IsFirstToShow host m x.candidates log
  pub fits : IsToldFit (take m (settled_and_pending log)) (bare_cmd cmd) wanted []
  pub other : IsToldFit (take m (settled_and_pending log)) (bare_cmd cmd) (answer_told (answer_of answer)) [] → ⊥

-- what is told of a decision behind so many entries: the entry is appended, or the refusal
abbrev pub told_decision : ℕ → Option (Result Entry Refused) → Option ToldAnswer
told_decision count None = None
told_decision count (Some (Ok e)) = Some (told.Ok count)
told_decision count (Some (Err why)) = Some (told.NotAppended why)

-- an entry that a command has named, where it has
abbrev pub wrote_in : Option Track → Option Wrote
wrote_in None = None
wrote_in (Some t) = t.wrote

-- in a candidate nothing pends, host h's command has named nothing, and the entries decide so of it, where it is the host of this UUID
pub record DecidesIn (me : List ℕ) (h : ℕ) (cmd : ToldCommand) (wanted : ToldAnswer) (one : Candidate) : Type 0 where
  pub unnamed : wrote_in (slice_get one.tracks.items h) ≡ None
  pub log : Log
  pub settled_is : one.settled ≡ settled.Log log
  pub none : log.pending ≡ None
  pub decided : told_decision (length log.entries) (decide log.params me (entries_of (settled_files log)) (bare_cmd cmd)) ≡ Some wanted

-- so it is in the first candidate
pub record DecidesSo (seen : List SeenHost) (cs : List Candidate) (h : ℕ) (cmd : ToldCommand) (wanted : ToldAnswer) : Type 0 where
  pub host : SeenHost
  pub host_is : slice_get seen h ≡ Some host
  pub one : Candidate
  pub first : slice_get cs 0 ≡ Some one
  pub decides : DecidesIn host.uuid h cmd wanted one

-- so they do, and the answer is another one
pub record IsOtherDecided (x : Asked) (wanted : ToldAnswer) : Type 0 where
  pub host : ℕ
  pub answer : HostAnswer
  pub cmd : ToldCommand
  pub answers : AnswersCommand x host answer cmd
  pub decides : DecidesSo x.hosts.seen.items x.candidates host cmd wanted
  pub other : answer_told (answer_of answer) ≢ wanted

-- what is told of damage; of an image without a gate nothing is
abbrev pub told_damage : past.Damage → Option ToldAnswer
told_damage (past.FewLines lines) = None
told_damage (past.NoSuperblock fault) = Some (told.NoSuperblock fault)
told_damage (past.BadHeader fault) = Some (told.BadHeader fault)
told_damage (past.BadSlot seq reason) = Some (told.BadSlot seq reason)

-- so where there is any
abbrev pub told_of_damage : Option past.Damage → Option ToldAnswer
told_of_damage None = None
told_of_damage (Some damage) = told_damage damage

-- of which damage an answer tells
abbrev pub damage_of : HostAnswer → Option past.Damage
damage_of (given.Appended seq) = None
damage_of (given.NotAppended why) = None
damage_of (given.Played m entries) = None
damage_of (given.Mounted m) = None
damage_of (given.Same m) = None
damage_of (given.Differs m offset found wanted) = None
damage_of (given.Length m size wanted) = None
damage_of (given.Bytes m bytes) = None
damage_of (given.NotFound m) = None
damage_of (given.IsDirectory m) = None
damage_of (given.Checks m checked) = None
damage_of (given.Reports report) = None
damage_of (given.NoSuperblock fault) = Some (past.NoSuperblock fault)
damage_of (given.BadHeader fault) = Some (past.BadHeader fault)
damage_of (given.BadSlot seq reason) = Some (past.BadSlot seq reason)
damage_of (given.MediaFault at) = None

-- the first candidate is damaged so, of which the answer says nothing; and the command isn't one that checks the file system, and so
-- answers with a report of the damage
pub record IsOtherDamaged (x : Asked) (wanted : ToldAnswer) : Type 0 where
  pub host : ℕ
  pub answer : HostAnswer
  pub cmd : ToldCommand
  pub answers : AnswersCommand x host answer cmd
  pub no_survey : asks_survey (asking_of cmd) ≡ false
  pub silent : damage_of answer ≡ None
  pub one : Candidate
  pub first : slice_get x.candidates 0 ≡ Some one
  pub damaged : told_of_damage (damage_in x.given one.settled) ≡ Some wanted

-- the answer that was wanted, where it is known
pub data WantsAnswer (x : Asked) (wanted : ToldAnswer) : Type 0 where
  other_shown : IsOtherShown x wanted → WantsAnswer x wanted
  other_decided : IsOtherDecided x wanted → WantsAnswer x wanted
  other_damaged : IsOtherDamaged x wanted → WantsAnswer x wanted

-- Entries.

-- in a candidate entry seq is one that host h's command has named, and that pends or stands last
pub record IsAcknowledgedIn (seen : SeenHost) (cmd : ToldCommand) (h seq : ℕ) (c : Candidate) : Type 0 where
  pub track : Track
  pub track_is : slice_get c.tracks.items h ≡ Some track
  pub log : Log
  pub settled_is : c.settled ≡ settled.Log log
  pub allowed : AppendedAllowed seq (host_of seen cmd track) (acknowledges seq (settled_log_state log))

-- so it is in no candidate
pub record AcknowledgesOther (x : Asked) (seq : ℕ) : Type 0 where
  pub host : ℕ
  pub cmd : ToldCommand
  pub answers : AnswersCommand x host (given.Appended seq) cmd
  pub seen : SeenHost
  pub seen_is : slice_get x.hosts.seen.items host ≡ Some seen
  pub none : (k : ℕ) (c : Candidate) → k < length x.candidates → slice_get x.candidates k ≡ Some c → IsAcknowledgedIn seen cmd host seq c → ⊥

-- in a candidate nothing pends, and the entries decide on this one, of this number
pub record MayNameIn (seen : SeenHost) (cmd : ToldCommand) (h seq : ℕ) (entry : Entry) (c : Candidate) : Type 0 where
  pub track : Track
  pub track_is : slice_get c.tracks.items h ≡ Some track
  pub log : Log
  pub settled_is : c.settled ≡ settled.Log log
  pub allowed : WritesAllowed seq entry (host_of seen cmd track) (settled_log_state log)

-- so it is in no candidate
pub record NamesOther (x : Asked) : Type 0 where
  pub host : ℕ
  pub seq : ℕ
  pub entry : Entry
  pub line_is : x.line ≡ Some (line.Writes host seq entry)
  pub cmd : ToldCommand
  pub runs : running x.hosts.seen.items x.hosts.commands.items host ≡ Some cmd
  pub seen : SeenHost
  pub seen_is : slice_get x.hosts.seen.items host ≡ Some seen
  pub none : (k : ℕ) (c : Candidate) → k < length x.candidates → slice_get x.candidates k ≡ Some c → MayNameIn seen cmd host seq entry c → ⊥

-- so many entries may be found
abbrev pub MayFind : GivenImage → Settled → ℕ → Type 0
MayFind given (settled.Log log) n = FoundAllowed n (settled_log_state log)
MayFind given settled.Given n = FoundBad n (past_damage given.damage) given.gate
MayFind given settled.Halted n = ⊥

-- in the only candidate these two counts may be found, and no others; the line's is another one
pub record FindsOther (x : Asked) (found first second : ℕ) : Type 0 where
  pub host : ℕ
  pub line_is : x.line ≡ Some (line.Found host found)
  pub one : Candidate
  pub only : length x.candidates ≡ 1
  pub first_is : slice_get x.candidates 0 ≡ Some one
  pub may : (n : ℕ) → MayFind x.given one.settled n ↔ ((n ≡ first) ⊎ (n ≡ second))
  pub other : MayFind x.given one.settled found → ⊥

-- Damage.

-- no candidate is damaged as the answer tells
pub record IsOtherDamage (x : Asked) : Type 0 where
  pub host : ℕ
  pub answer : HostAnswer
  pub line_is : x.line ≡ Some (line.Answered host answer)
  pub damage : past.Damage
  pub tells : damage_of answer ≡ Some damage
  pub none : (k : ℕ) (c : Candidate) → k < length x.candidates → slice_get x.candidates k ≡ Some c → damage_in x.given c.settled ≢ Some damage
