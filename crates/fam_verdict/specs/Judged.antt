-- What the judge holds behind some notes of a history: hosts and the states in which they may be.
use Rattle.std.specs.Prelude.{Bool, true, false, ⊤, ◌≡◌, ◌++◌, ◌<◌, ◌≤◌, List, [], ◌∷◌, length, map, Option, Some, None}
use Rattle.fam_base.specs.Image.{Image}
use Rattle.fam_journal.specs.Calls.{host_limit}
use Rattle.fam_journal.specs.Notes.{Note}
use Rattle.fam_history.specs.declared.note.LineNote.{LineNote}
use Rattle.fam_history.specs.declared.note.LineNote.TheVariants as told
use Rattle.fam_history.specs.ToldNotes.{AreDistinctNames}
use Rattle.fam_judge.specs.Alike.{told_note}
use Rattle.fam_judge.specs.Untold.{untold_note}
use Rattle.fam_lines.specs.Behind.{IsEntireNote}
use Rattle.fam_lines.specs.declared.host.SeenHost.{SeenHost}
use Rattle.fam_lines.specs.declared.line.Line.{Line}
use Rattle.fam_lines.specs.Hosts.{seen_names}
use Rattle.fam_lines.specs.Lines.{note_of_line}
use Rattle.fam_records.specs.Records.{Recorded}
use Rattle.fam_judging.specs.Among.{AllFine}
use Rattle.fam_judging.specs.Candidates.{HostsFit, possible_of}
use Rattle.fam_judging.specs.declared.given.GivenImage.{GivenImage}
use Rattle.fam_judging.specs.Pushing.{IsFine}
use Rattle.fam_judging.specs.StepLines.{IsStepLine}
use Rattle.fam_judging.specs.Texts.{IsJudging, IsLegal, RecordTells}
use Rattle.fam_judging.specs.Told.{AreToldCommands}
use Rattle.fam_verdict.specs.declared.judged.Judged.{Judged}
use Rattle.fam_verdict.specs.Fills.{BeginsFilled}

-- the hosts are such as lines declare, no more than may be, each with its own name and its last command; and some state is left
pub record IsKept (j : Judged) : Type 0 where
  pub few : length j.hosts.seen.items ≤ host_limit
  pub distinct : AreDistinctNames (seen_names j.hosts.seen.items)
  pub fit : HostsFit j.hosts
  pub told : AreToldCommands j.hosts
  pub some : 0 < length j.candidates.items

-- these hosts and states are what is known behind the records, of histories from an image; and of the image that was handed in this is said
pub record IsJudged (start : Image) (given : GivenImage) (records : List Recorded) (j : Judged) : Type 0 where
  pub judging : IsJudging start records j.hosts.seen.items (map (possible_of start j.hosts) j.candidates.items)
  pub fine : AllFine (IsFine start given j.hosts.seen.items) j.candidates.items

-- the record tells the line's note, in which nothing stands that no text tells; and any whole note that it tells says the same
pub record IsLineOf (hosts : List SeenHost) (r : Recorded) (line : Line) : Type 0 where
  pub told : RecordTells (seen_names hosts) r (note_of_line line)
  pub untold : untold_note (note_of_line line) ≡ note_of_line line
  pub only : (n : Note) → IsEntireNote hosts n → RecordTells (seen_names hosts) r n → told_note (note_of_line line) ≡ told_note n

-- a line by which states can go on
pub record IsReady (line : Line) : Type 0 where
  pub step : IsStepLine line
  pub filled : BeginsFilled line
  pub untold : untold_note (note_of_line line) ≡ note_of_line line

-- so it is where there is a line
abbrev pub IsReadyIf : Option Line → Type 0
IsReadyIf None = ⊤
IsReadyIf (Some line) = IsReady line

-- the record tells the line; or, where there is none, no whole note
abbrev pub IsReadAs : List SeenHost → Recorded → Option Line → Type 0
IsReadAs hosts r None = (n : Note) → IsEntireNote hosts n → RecordTells (seen_names hosts) r n → ⊥
IsReadAs hosts r (Some line) = IsLineOf hosts r line

-- a line that tells an answer
abbrev pub tells_answer : LineNote → Bool
tells_answer (told.Host uuid) = false
tells_answer (told.Made p) = false
tells_answer (told.Cut k) = false
tells_answer (told.Start cmd) = false
tells_answer told.Mark = false
tells_answer (told.Found n) = false
tells_answer (told.Writes seq entry) = false
tells_answer (told.Answered answer) = true
tells_answer told.Stop = false
tells_answer told.Halt = false
tells_answer told.Umount = false
tells_answer (told.Refused why) = false

-- the judge goes on by one record more: to what is known behind it
abbrev pub GoesOn : Image → GivenImage → List Recorded → Recorded → Judged → Type 0
GoesOn start given records r new = IsJudged start given (records ++ r ∷ []) new

-- or with it no history is explained
abbrev pub Stops : Image → List Recorded → Recorded → Type 0
Stops start records r = IsLegal start (records ++ r ∷ []) → ⊥
