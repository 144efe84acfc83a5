-- How a run has ended, whatever is put of it.
use Rattle.std.specs.Prelude.{ℕ, List, []}
use Rattle.fam_media.specs.Outside.{IfModelled}
use Rattle.fam_media.specs.States.{change, MediaState, ShelfChange, SinkChange}
use Rattle.fam_journal.specs.declared.event.Event.{Event}
use Rattle.fam_journal.specs.Ends.{Ending, EndsOutOfMemory, HasCounted, MkfsFails, SourceFails}
use Rattle.fam_journal.specs.EventShapes.{EndsShape}
use Rattle.fam_journal.specs.Names.{NameDeclared}
use Rattle.fam_journal.specs.Notes.{Note}
use Rattle.fam_outcomes.specs.Runs.{IsCaused, Outside, RunsOn}
use Rattle.fam_events.specs.declared.fault.EventFault.{EventFault}
use Rattle.fam_events.specs.declared.fault.EventFault.TheVariants as fault
use Rattle.fam_sources.specs.Sourced.{end_of}

-- the ending that an event's result makes
abbrev pub ending_of : EventFault → Ending
ending_of fault.MkfsFailed = MkfsFails
ending_of (fault.SourceEnded end) = SourceFails (end_of end)
ending_of fault.OutOfMemory = EndsOutOfMemory

-- all that a run promises of its journal
pub record HasEnded (ending : Ending) (out : Outside) (events : List Event) (journal : List Note) : Type 0 where
  pub named : NameDeclared 0 journal
  pub shape : EndsShape ending out.lines events [] journal
  pub counted : HasCounted out.media.old.faults out.media.new.faults journal
  pub caused : IsCaused ending events journal out
  pub told : IfModelled out.media.old.image (λ start. IfModelled out.shelf.old.files (λ files. RunsOn ending files events start out.media.new.image journal))

-- what media, shelf and sink tell before and after
abbrev pub outside_of : {M : Type 0} → (M → ℕ) → (M → MediaState) → M → M → ShelfChange → SinkChange → Outside
outside_of size state before behind shelf sink = record { lines = size before; media = change state before behind; shelf = shelf; sink = sink }
