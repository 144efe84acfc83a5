-- What comes of telling a host to begin what it is asked for.
use Rattle.std.specs.Prelude.{ℕ, ◌≡◌, List, [], length, None, Result, Ok, Err}
use Rattle.fam_media.specs.Files.{Files}
use Rattle.fam_media.specs.States.{ShelfChange}
use Rattle.fam_sources.specs.Sourced.{HasEndCause}
use Rattle.fam_journal.specs.declared.event.Ask.{Ask}
use Rattle.fam_journal.specs.declared.event.Event.TheVariants.{Begin}
use Rattle.fam_journal.specs.Calls.{may_begin}
use Rattle.fam_journal.specs.EventShapes.{NoMore, StartShape, UnfitNotes}
use Rattle.fam_journal.specs.Events.{CommandBegins, RefusesEvent, Session, mounts}
use Rattle.fam_journal.specs.Shapes.{ShapeByRefusal, HostShape, shown_shapes}
use Rattle.fam_journal.specs.Notes.{Note}
use Rattle.fam_journal.specs.ByWorld.{number_in, refusal_in}
use Rattle.fam_journal.specs.Calls as call
use Rattle.fam_events.specs.declared.asks.Asked.{Asked}
use Rattle.fam_events.specs.declared.asks.Asked.TheVariants.{Begun, Refused}
use Rattle.fam_events.specs.declared.fault.EventFault.{EventFault}
use Rattle.fam_events.specs.declared.fault.EventFault.TheVariants as fault
use Rattle.fam_events.specs.WorldChange.{AddsShape, WorldChange, ComesHeld, Told}
use Rattle.fam_events.specs.Happens.{EventEnded}

-- nothing may begin there, or the source is none
abbrev pub RefusedShape : List ℕ → Ask → ℕ → List HostShape → List Note → Type 0
RefusedShape name what lines hosts notes = ShapeByRefusal name (may_begin name (mounts what) (shown_shapes lines hosts)) notes (UnfitNotes name what notes)

-- an ask is refused, and its media isn't touched
abbrev pub Refuses : List ℕ → Ask → ℕ → Files → Session → List Note → Session → Type 0
Refuses name what copied files old notes new = RefusesEvent files name what old notes new × (new.copied ≡ copied)

-- an ask was refused: its note, and what stays
pub record AskRefused (name : List ℕ) (what : Ask) (a : WorldChange) : Type 0 where
  pub adds : AddsShape (RefusedShape name what) a
  pub keeps : Told (λ files start. ComesHeld (Refuses name what a.copied_now files) start) a

-- the command begins: nothing stood against it, and now it runs
pub record BegunShape (name : List ℕ) (what : Ask) (lines : ℕ) (hosts : List HostShape) (notes : List Note) : Type 0 where
  pub free : may_begin name (mounts what) (shown_shapes lines hosts) ≡ None
  pub starts : StartShape NoMore name what lines hosts notes

-- a host begins what it is asked for
abbrev pub AskStarts : List ℕ → Ask → ℕ → Files → Session → List Note → Session → Type 0
AskStarts name what copied files old notes new = CommandBegins files name what old notes new × (new.copied ≡ copied)

-- a host began what it is asked for: its note, and what stays
pub record AskBegun (name : List ℕ) (what : Ask) (a : WorldChange) : Type 0 where
  pub adds : AddsShape (BegunShape name what) a
  pub keeps : Told (λ files start. ComesHeld (AskStarts name what a.copied_now files) start) a
  pub number : number_in name a.new ≡ number_in name a.old
  pub count_is : length a.new.hosts ≡ length a.old.hosts
  pub runs : refusal_in (call.Finishes name) a.new a.lines ≡ None

-- nothing was done
abbrev pub Nothing : Session → List Note → Session → Type 0
Nothing old notes new = (notes ≡ []) × (new ≡ old)

-- no memory was found: all is as it was
pub record AskUndone (a : WorldChange) : Type 0 where
  pub adds : AddsShape (λ lines hosts notes. notes ≡ []) a
  pub keeps : Told (λ files start. ComesHeld Nothing start) a

-- what is promised of an ask, by how it came out
abbrev pub AskSays : List ℕ → Ask → ShelfChange → WorldChange → Result Asked EventFault → Type 0
AskSays name what shelf a (Ok Begun) = AskBegun name what a
AskSays name what shelf a (Ok Refused) = AskRefused name what a
AskSays name what shelf a (Err fault.MkfsFailed) = ⊥
AskSays name what shelf a (Err (fault.SourceEnded end)) = EventEnded (Begin name what) end a × HasEndCause shelf end
AskSays name what shelf a (Err fault.OutOfMemory) = AskUndone a
