-- What a verdict says of a history's text.
use Rattle.std.specs.Prelude.{ℕ, ◌≡◌, ◌++◌, List, [], ◌∷◌, length, map, Some, None}
use Rattle.fam_base.specs.Image.{Image}
use Rattle.fam_tree.specs.Listings.{text_lines}
use Rattle.fam_causes.specs.Asked.{Asked}
use Rattle.fam_causes.specs.Causes.{IsCause}
use Rattle.fam_causes.specs.declared.kinds.Cause.{Cause}
use Rattle.fam_judging.specs.Among.{AllFine}
use Rattle.fam_judging.specs.Candidates.{possible_of}
use Rattle.fam_judging.specs.Pushing.{IsFine}
use Rattle.fam_judging.specs.Texts.{IsJudging, IsLegal}
use Rattle.fam_records.specs.Histories.{history_in}
use Rattle.fam_records.specs.Records.{Recorded}
use Rattle.fam_verdict.specs.declared.verdict.Known.{Known}
use Rattle.fam_verdict.specs.declared.verdict.Verdict.{Verdict}
use Rattle.fam_verdict.specs.declared.verdict.Verdict.TheVariants as verdict
use Rattle.fam_verdict.specs.Judged.{IsReadAs, tells_answer}
use Rattle.fam_verdict.specs.Known.{IsKnown}

-- why: what the cause says is so of the hosts and the states that are known behind the records before, and of the line that the record
-- tells; or it tells no whole note
pub record IsBecause (start : Image) (before : List Recorded) (first : Recorded) (cause : Cause) : Type 0 where
  pub asked : Asked
  pub judging : IsJudging start before asked.hosts.seen.items (map (possible_of start asked.hosts) asked.candidates)
  pub fine : AllFine (IsFine start asked.given asked.hosts.seen.items) asked.candidates
  pub read : IsReadAs asked.hosts.seen.items first asked.line
  pub name : asked.name ≡ first.told.name
  pub answers : asked.answers ≡ tells_answer first.told.note
  pub is : IsCause asked cause

-- no history that the records tell, up to the one whose first line has this number, is explained from the image; those before it tell
-- one that is
pub record IsIllegalAt (start : Image) (records : List Recorded) (number : ℕ) (cause : Cause) : Type 0 where
  pub before : List Recorded
  pub first : Recorded
  pub behind : List Recorded
  pub whole : records ≡ before ++ first ∷ behind
  pub number_is : first.line ≡ number
  pub legal : IsLegal start before
  pub illegal : IsLegal start (before ++ first ∷ []) → ⊥
  pub because : IsBecause start before first cause

-- each line of the text is one of a note, and what the notes tell is explained from the image; this is known behind them
pub record IsLegalWith (start : Image) (text : List ℕ) (known : Known) : Type 0 where
  pub whole : (history_in text).bad ≡ None
  pub legal : IsLegal start (history_in text).records
  pub behind : IsKnown start (history_in text).records known
  pub lines : known.lines ≡ length (text_lines text)

-- a line of this number is none of a note, from this column on, and what the notes before it tell is explained
pub record IsBadAt (start : Image) (text : List ℕ) (number column : ℕ) : Type 0 where
  pub bad : (history_in text).bad ≡ Some (number, column)
  pub legal : IsLegal start (history_in text).records

-- what the verdict says of a text, on an image
abbrev pub Says : Image → List ℕ → Verdict → Type 0
Says start text (verdict.Legal known) = IsLegalWith start text known
Says start text (verdict.Illegal number cause) = IsIllegalAt start (history_in text).records number cause
Says start text (verdict.BadLine number column) = IsBadAt start text number column
