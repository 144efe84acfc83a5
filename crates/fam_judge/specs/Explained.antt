-- Which histories hosts that keep the promise could have had.
use Rattle.std.specs.Prelude.{⊤, List, [], ◌∷◌, ◌++◌, length}
use Rattle.fam_base.specs.Image.{Image}
use Rattle.fam_journal.specs.Legal.{Allowed}
use Rattle.fam_journal.specs.Notes.{Note}
use Rattle.fam_journal.specs.Past.{past_of}
use Rattle.fam_judge.specs.Alike.{AreAlikeNotes}
use Rattle.fam_judge.specs.Formed.{AreFormed, AreSoundNotes}
use Rattle.fam_judge.specs.Shows.{ShowsJournal}

-- Bytes of sources.

-- the note is allowed behind some notes that tell the same as those before it, and whose commands are sound
pub record IsAllowedForSome (start : Image) (before : List Note) (note : Note) : Type 0 where
  pub chosen : List Note
  pub alike : AreAlikeNotes before chosen
  pub sound : AreSoundNotes chosen
  pub allowed : Allowed (past_of start chosen) note

-- so is each of these notes, for bytes and listings that are chosen for each anew
abbrev pub AreAllowedForSome : Image → List Note → List Note → Type 0
AreAllowedForSome start before [] = ⊤
AreAllowedForSome start before (note ∷ notes) = IsAllowedForSome start before note × AreAllowedForSome start (before ++ note ∷ []) notes

-- Histories.

-- this journal explains the history, from an image
pub record IsExplainedBy (start : Image) (history journal : List Note) : Type 0 where
  pub shown : ShowsJournal history journal
  pub formed : AreFormed (length start) [] journal
  pub allowed : AreAllowedForSome start [] journal

-- some journal explains it
abbrev pub IsExplained : Image → List Note → Type 0
IsExplained start history = (journal : List Note) × IsExplainedBy start history journal
