-- What comes of an event, on every media and shelf, by how it ends.
use Rattle.std.specs.Prelude.{ℕ, ◌≡◌, ◌⊎◌, false, List, [], Some, None, Result, Ok, Err}
use Rattle.fam_media.specs.Files.{Files}
use Rattle.fam_media.specs.States.{ShelfChange}
use Rattle.fam_sources.specs.declared.sourced.SourceEnd.{SourceEnd}
use Rattle.fam_sources.specs.Sourced.{HasEndCause, end_of}
use Rattle.fam_journal.specs.declared.event.Event.{Event}
use Rattle.fam_journal.specs.Calls.{may_begin}
use Rattle.fam_journal.specs.Ends.{CutEventReads}
use Rattle.fam_journal.specs.EventShapes.{EventBreaksShape, EventShape, EventPartShape}
use Rattle.fam_journal.specs.Events.{BreaksEvent, DoesEvent, PartOf, Session, event_source}
use Rattle.fam_journal.specs.Follows.{ReadsSource}
use Rattle.fam_journal.specs.Shapes.{HostShape, shown_shapes}
use Rattle.fam_journal.specs.Notes.{Note}
use Rattle.fam_events.specs.WorldChange.{WorldChange, AddsShape, ComesBroken, ComesHeld, Told}
use Rattle.fam_events.specs.declared.fault.EventFault.{EventFault}
use Rattle.fam_events.specs.declared.fault.EventFault.TheVariants as fault

-- the event is done, and so many bytes of sources were read then
abbrev pub IsDoneBy : Event → ℕ → Files → Session → List Note → Session → Type 0
IsDoneBy e copied files old notes new = DoesEvent files e old notes new × (new.copied ≡ copied)

-- an event is done, and the run may go on
pub record EventDone (e : Event) (a : WorldChange) : Type 0 where
  pub adds : AddsShape (EventShape e) a
  pub keeps : Told (λ files start. ComesHeld (IsDoneBy e a.copied_now files) start) a

-- it was a mkfs in which the media failed
pub record EventBroken (e : Event) (a : WorldChange) : Type 0 where
  pub adds : AddsShape (EventBreaksShape e) a
  pub keeps : Told (λ files start. ComesBroken (BreaksEvent e) (CutEventReads e) start) a

-- it came to its source, of which the reading ended early, and is no mount: nothing is noted
pub record SourceShape (e : Event) (lines : ℕ) (hosts : List HostShape) (notes : List Note) : Type 0 where
  pub none : notes ≡ []
  pub host : List ℕ
  pub source : List ℕ
  pub reads : event_source e ≡ Some (host, source)
  pub free : may_begin host false (shown_shapes lines hosts) ≡ None

-- an event came to its source, which failed so
abbrev pub IsToSource : Event → SourceEnd → Files → Session → List Note → Session → Type 0
IsToSource e end files old notes new = ReadsSource files e (end_of end) old × (notes ≡ []) × (new ≡ old)

-- an event ended at its source: nothing was done
pub record EventEnded (e : Event) (end : SourceEnd) (a : WorldChange) : Type 0 where
  pub adds : AddsShape (SourceShape e) a
  pub keeps : Told (λ files start. ComesHeld (IsToSource e end files) start) a

-- no memory was left: nothing was done of it, or a part
abbrev pub ShapeOfPart : Event → ℕ → List HostShape → List Note → Type 0
ShapeOfPart e lines hosts notes = (notes ≡ []) ⊎ EventPartShape e lines hosts notes

-- some of an event's operations are done
abbrev pub IsPart : Event → Files → Session → List Note → Session → Type 0
IsPart e files old notes new = ((notes ≡ []) × (new ≡ old)) ⊎ PartOf files e old notes new

-- no memory was left in an event: some of its operations may be done
pub record EventPart (e : Event) (a : WorldChange) : Type 0 where
  pub adds : AddsShape (ShapeOfPart e) a
  pub keeps : Told (λ files start. ComesHeld (IsPart e files) start) a

-- an end of a source has its cause: a count of the shelf that rose
abbrev pub EventSays : Event → ShelfChange → WorldChange → Result (Unit {0}) EventFault → Type 0
EventSays e shelf a (Ok x) = EventDone e a
EventSays e shelf a (Err fault.MkfsFailed) = EventBroken e a
EventSays e shelf a (Err (fault.SourceEnded end)) = EventEnded e end a × HasEndCause shelf end
EventSays e shelf a (Err fault.OutOfMemory) = EventPart e a
