-- What is put behind what was put before.
use Rattle.std.specs.Prelude.{ℕ, ◌≡◌, ◌⊎◌, ◌++◌, List, option_map, take}
use Rattle.fam_media.specs.Causes.{Rose}
use Rattle.fam_media.specs.Outside.{IsPartlyPut, with_piece}
use Rattle.fam_media.specs.States.{SinkChange}
use Rattle.fam_outcomes.specs.declared.status.Status.{Status}
use Rattle.fam_outcomes.specs.declared.status.Status.TheVariants as status
use Rattle.fam_journal.specs.Notes.{Note}
use Rattle.fam_outcomes.specs.Programs.{memory_line, source_line}
use Rattle.fam_outcomes.specs.Texts.{render_behind}
use Rattle.fam_sources.specs.declared.sourced.SourceEnd.{SourceEnd}
use Rattle.fam_sources.specs.Sourced.{end_of}
use Rattle.fam_events.specs.declared.fault.EventFault.{EventFault}
use Rattle.fam_events.specs.declared.fault.EventFault.TheVariants as fault

-- a text was put whole
abbrev pub PutWhole : List ℕ → SinkChange → Type 0
PutWhole text s = s.new.bytes ≡ option_map (with_piece text) s.old.bytes

-- or a part of it, where the sink failed
pub record PutPart (text : List ℕ) (s : SinkChange) : Type 0 where
  pub part : IsPartlyPut s.old.bytes s.new.bytes text
  pub rose : Rose s.old.faults s.new.faults

-- with its own status, or with that of a sink that failed
abbrev pub Put : Status → List ℕ → SinkChange → Status → Type 0
Put own text s given = ((given ≡ own) × PutWhole text s) ⊎ ((given ≡ status.SinkFault) × PutPart text s)

-- of these notes the text of some first ones was put
abbrev pub PutSome : List (List ℕ) → List Note → SinkChange → Type 0
PutSome names notes s = (count : ℕ) × PutWhole (render_behind names (take count notes)) s

-- no memory was left: behind the text of some first ones of these notes a line says so
abbrev pub PutShort : List (List ℕ) → List Note → SinkChange → Status → Type 0
PutShort names notes s given = (count : ℕ) × Put status.OutOfMemory (render_behind names (take count notes) ++ memory_line) s given

-- how the reading of a source ended early is said, or that no memory is left
abbrev pub EndSays : SourceEnd → SinkChange → Status → Type 0
EndSays end s given = Put status.SourceFault (source_line (end_of end)) s given ⊎ Put status.OutOfMemory memory_line s given

-- What is put where an event ends the run: its notes, which stand behind hosts of these names. A mkfs in which the media failed says
-- no more. Of an event that came to its source there are none, and how that ended is said. Where no memory was left for the event or
-- for what is put of it, that is said behind as many of its notes as could be put.
abbrev pub StopSays : EventFault → List (List ℕ) → List Note → SinkChange → Status → Type 0
StopSays fault.MkfsFailed names notes s given = Put status.MediaFault (render_behind names notes) s given ⊎ PutShort names notes s given
StopSays (fault.SourceEnded end) names notes s given = EndSays end s given
StopSays fault.OutOfMemory names notes s given = PutShort names notes s given
