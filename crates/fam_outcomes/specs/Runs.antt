-- What a run of events promises: its journal, what it leaves, what is put of it, and which counts rose. One record for a
-- script, a command on its own and a storm: which texts are right, and which status they have, is the caller's.
use Rattle.std.specs.Prelude.{ℕ, ⊤, ◌≡◌, ◌⊎◌, ◌+◌, ◌-◌, ◌^◌, min, ◌<◌, ◌≤◌, List, [], ◌∷◌, ◌++◌, slice_get, Option, Some, option_map}
use Rattle.fam_base.specs.declared.line.LineNo.{LineNo}
use Rattle.fam_base.specs.Image.{Image}
use Rattle.fam_media.specs.Files.{Files}
use Rattle.fam_media.specs.Outside.{IfModelled, IsPartlyPut, with_piece}
use Rattle.fam_media.specs.States.{MediaChange, ShelfChange, SinkChange}
use Rattle.fam_journal.specs.declared.event.Event.{Event}
use Rattle.fam_journal.specs.declared.event.Event.TheVariants as event
use Rattle.fam_journal.specs.declared.refusal.Refusal.TheVariants as why
use Rattle.fam_outcomes.specs.declared.status.Status.{Status}
use Rattle.fam_outcomes.specs.declared.status.Status.TheVariants as status
use Rattle.fam_journal.specs.Ends.{AllDone, Ending, EventsDone, HasCounted, MkfsFails, EndsOutOfMemory, EndsOutOfMemoryBroken, ReadsAfter, SinkFails, SourceFails}
use Rattle.fam_journal.specs.EventShapes.{EndsShape}
use Rattle.fam_journal.specs.Events.{Session, first_session}
use Rattle.fam_journal.specs.Follows.{Faulted, Short, SourceEnd}
use Rattle.fam_journal.specs.Legal.{Legal}
use Rattle.fam_journal.specs.Names.{NameDeclared}
use Rattle.fam_journal.specs.Notes.{Note, Refused}
use Rattle.fam_journal.specs.Past.{past_of}

-- a count of 64 bits rose, or stands at its last value
abbrev pub HasRisen : ℕ → ℕ → Type 0
HasRisen before now = min (before + 1) (2 ^ 64 - 1) ≤ now

-- what media, shelf and sink tell before and after a call of the program
pub record Outside : Type 0 where
  pub lines : ℕ
  pub media : MediaChange
  pub shelf : ShelfChange
  pub sink : SinkChange

-- counts never fall
pub record NoneFalls (out : Outside) : Type 0 where
  pub media : out.media.old.faults ≤ out.media.new.faults
  pub shelf : out.shelf.old.faults ≤ out.shelf.new.faults
  pub shorts : out.shelf.old.shorts ≤ out.shelf.new.shorts
  pub sink : out.sink.old.faults ≤ out.sink.new.faults

-- none of them rose, and none stands at its last value
pub record NoneRose (out : Outside) : Type 0 where
  pub media : HasRisen out.media.old.faults out.media.new.faults → ⊥
  pub shelf : HasRisen out.shelf.old.faults out.shelf.new.faults → ⊥
  pub shorts : HasRisen out.shelf.old.shorts out.shelf.new.shorts → ⊥
  pub sink : HasRisen out.sink.old.faults out.sink.new.faults → ⊥

-- Why a run ended early, on every media, shelf and sink.

-- a mkfs for the host of this name
abbrev pub IsMkfsOf : List ℕ → Event → Type 0
IsMkfsOf own (event.Host name uuid) = ⊥
IsMkfsOf own (event.Mkfs name request) = name ≡ own
IsMkfsOf own (event.Begin name what) = ⊥
IsMkfsOf own (event.Run name what) = ⊥
IsMkfsOf own (event.Step name count) = ⊥
IsMkfsOf own (event.Finish name) = ⊥
IsMkfsOf own (event.Stop name) = ⊥
IsMkfsOf own (event.Halt name) = ⊥
IsMkfsOf own (event.Umount name) = ⊥
IsMkfsOf own (event.Evict name line) = ⊥
IsMkfsOf own (event.Leak name line mask) = ⊥
IsMkfsOf own (event.Fetch name line mask) = ⊥

-- the last note tells that the media failed in one of the events, a mkfs
pub record EndsBroken (events : List Event) (journal : List Note) : Type 0 where
  pub count : ℕ
  pub event : Event
  pub event_is : slice_get events count ≡ Some event
  pub prefix : List Note
  pub name : List ℕ
  pub line : LineNo
  pub of_mkfs : IsMkfsOf name event
  pub is : journal ≡ prefix ++ Refused name (why.MediaFault line) ∷ []

-- the shelf failed; or a source was short, so that fewer bytes came
abbrev pub SourceCaused : SourceEnd → Outside → Type 0
SourceCaused Faulted out = HasRisen out.shelf.old.faults out.shelf.new.faults
SourceCaused (Short size got) out = HasRisen out.shelf.old.shorts out.shelf.new.shorts × (got < size)

-- an early end has its cause: a note, or a count that rose. Memory may run out at any time
abbrev pub IsCaused : Ending → List Event → List Note → Outside → Type 0
IsCaused AllDone events journal out = ⊤
IsCaused MkfsFails events journal out = EndsBroken events journal
IsCaused (SourceFails end) events journal out = SourceCaused end out
IsCaused EndsOutOfMemory events journal out = ⊤
IsCaused EndsOutOfMemoryBroken events journal out = EndsBroken events journal
IsCaused SinkFails events journal out = HasRisen out.sink.old.faults out.sink.new.faults

-- The run.

-- on an image and files that are modelled: the journal is legal and follows the events, the media has the last image, and that
-- reads as the journal settles, or behind a mkfs that a media fault cut as that mkfs leaves it
pub record RunsOn (ending : Ending) (files : Files) (events : List Event) (start : Image) (now : Option Image) (journal : List Note) : Type 0 where
  pub last : Session
  pub legal : Legal start journal
  pub follows : EventsDone ending files events (first_session start) journal last
  pub left : now ≡ Some last.machines.memory
  pub reads : ReadsAfter ending files events (first_session start) journal last follows (past_of start journal).state last.machines.memory

-- events ran: one journal, whose notes name hosts declared before them and which has the shape of the events, the text that is
-- to be put of it, and its status. the media's count rose by at least as many faults as the journal tells
pub record HasRun (puts : Ending → List Note → List ℕ → Type 0) (gives : Ending → List Note → Status) (ending : Ending) (out : Outside) (events : List Event) (text : List ℕ) (own : Status) : Type 0 where
  pub journal : List Note
  pub named : NameDeclared 0 journal
  pub shape : EndsShape ending out.lines events [] journal
  pub counted : HasCounted out.media.old.faults out.media.new.faults journal
  pub caused : IsCaused ending events journal out
  pub text_is : puts ending journal text
  pub status_is : own ≡ gives ending journal
  pub told : IfModelled out.media.old.image (λ start. IfModelled out.shelf.old.files (λ files. RunsOn ending files events start out.media.new.image journal))

-- What is put.

-- the text is put whole, and the status is its own; or the sink failed, its count rose, and a prefix of the text is put
pub record IsPut (own given : Status) (text : List ℕ) (out : Outside) : Type 0 where
  pub outcome : ((given ≡ own) × (out.sink.new.bytes ≡ option_map (with_piece text) out.sink.old.bytes)) ⊎ ((given ≡ status.SinkFault) × IsPartlyPut out.sink.old.bytes out.sink.new.bytes text)
  pub rose : given ≡ status.SinkFault → HasRisen out.sink.old.faults out.sink.new.faults
