-- The script of a file: its events, or why they aren't run.
use Rattle.std.specs.Prelude.{ℕ, ⊤, ◌≡◌, ◌⊎◌, ◌<◌, ◌≤◌, List, length, Some, None, Ok, Err}
use Rattle.std.specs.FinMap as map
use Rattle.fam_media.specs.Outside.{IfModelled}
use Rattle.fam_media.specs.States.{ShelfChange, SinkChange}
use Rattle.fam_sources.specs.declared.sourced.SourceEnd.{SourceEnd}
use Rattle.fam_sources.specs.declared.sourced.SourceEnd.TheVariants as end
use Rattle.fam_sources.specs.Sourced.{HasEndCause, end_of}
use Rattle.fam_sources.specs.Whole.{FilesHold}
use Rattle.fam_journal.specs.declared.event.Event.{Event}
use Rattle.fam_outcomes.specs.declared.status.Status.{Status}
use Rattle.fam_outcomes.specs.declared.status.Status.TheVariants as status
use Rattle.fam_outcomes.specs.Programs.{Early, EarlyOutOfMemory, LongScript, NoScript, ScriptFails, early_status, early_text, memory_line, script_limit}
use Rattle.fam_outcomes.specs.Programs as program
use Rattle.fam_grammar.specs.Scripts.{script_events}
use Rattle.fam_program.specs.declared.fault.ScriptFault.{ScriptFault}
use Rattle.fam_program.specs.declared.fault.ScriptFault.TheVariants.{BadLine, Ended, NoFile, OutOfMemory, TooLong}
use Rattle.fam_program.specs.Puts.{Put}

-- the script of this name is so many bytes, which are these where the files are modelled
abbrev pub HoldsScript : ShelfChange → List ℕ → List ℕ → Type 0
HoldsScript change name bytes = (length bytes ≤ script_limit) × IfModelled change.old.files (λ files. map.get files name ≡ Some bytes)

-- and it has these events
pub record HoldsEvents (change : ShelfChange) (name : List ℕ) (events : List Event) : Type 0 where
  pub bytes : List ℕ
  pub holds : HoldsScript change name bytes
  pub reads : script_events bytes ≡ Ok events

-- or a line that is bad
pub record HoldsBadLine (change : ShelfChange) (name : List ℕ) (line column : ℕ) : Type 0 where
  pub bytes : List ℕ
  pub holds : HoldsScript change name bytes
  pub bad : script_events bytes ≡ Err (line, column)

-- a script that is short is no longer than a script may be
abbrev pub IsShortScript : ShelfChange → List ℕ → SourceEnd → Type 0
IsShortScript change name end.Faulted = ⊤
IsShortScript change name (end.Short size got) = (size ≤ script_limit) × FilesHold change.old.files name (λ bytes. size ≡ length bytes)

-- each fault has its cause
abbrev pub IsUnread : ShelfChange → List ℕ → ScriptFault → Type 0
IsUnread change name NoFile = IfModelled change.old.files (λ files. map.get files name ≡ None)
IsUnread change name (TooLong size) = (script_limit < size) × FilesHold change.old.files name (λ bytes. size ≡ length bytes)
IsUnread change name (Ended end) = HasEndCause change end × IsShortScript change name end
IsUnread change name (BadLine line column) = HoldsBadLine change name line column
IsUnread change name OutOfMemory = ⊤

-- a fault of the file itself, whatever its lines are
abbrev pub IsOfFile : ScriptFault → Type 0
IsOfFile NoFile = ⊤
IsOfFile (TooLong size) = ⊤
IsOfFile (Ended end) = ⊤
IsOfFile (BadLine line column) = ⊥
IsOfFile OutOfMemory = ⊤

-- a fault as the journal's definitions speak of it
abbrev pub early_of : List ℕ → ScriptFault → Early
early_of name NoFile = NoScript name
early_of name (TooLong size) = LongScript size
early_of name (Ended end) = ScriptFails (end_of end)
early_of name (BadLine line column) = program.BadLine line column
early_of name OutOfMemory = EarlyOutOfMemory

-- its line is put, or that no memory is left
abbrev pub PutsEarly : Early → SinkChange → Status → Type 0
PutsEarly early s given = Put (early_status early) (early_text early) s given ⊎ Put status.OutOfMemory memory_line s given
