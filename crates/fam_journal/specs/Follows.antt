-- Events, one after another, each with its notes; and how a run of events ends. docs/MODEL.md, "The journal".
use Rattle.std.specs.Prelude.{ℕ, ⊤, ◌≡◌, ◌+◌, ◌<◌, ◌≤◌, false, List, [], ◌∷◌, ◌++◌, length, take, slice_get, Some, None}
use Rattle.fam_base.specs.Image.{Image}
use Rattle.fam_media.specs.Files.{Files}
use Rattle.std.specs.FinMap as map
use Rattle.fam_journal.specs.declared.event.Event.{Event}
use Rattle.fam_journal.specs.Events.{Session, DoesEvent, BreaksEvent, PartOf, copy_limit, event_source, first_session}
use Rattle.fam_journal.specs.Calls.{may_begin}
use Rattle.fam_journal.specs.Notes.{Note}

-- these events lead from one state to another, with just these notes
abbrev pub Follows : Files → List Event → Session → List Note → Session → Type 0
Follows files [] old journal new = (journal ≡ []) × (new ≡ old)
Follows files (event ∷ events) old journal new =
    (mid : Session) × (first : List Note) × (rest : List Note) × DoesEvent files event old first mid × Follows files events mid rest new × (journal ≡ first ++ rest)

-- from an image and no hosts, to this image
pub record FollowsFrom (files : Files) (events : List Event) (image : Image) (journal : List Note) (after : Image) : Type 0 where
  pub last : Session
  pub follows : Follows files events (first_session image) journal last
  pub after_is : after ≡ last.machines.memory

-- the events before one of them are done, and then something of this one
pub record FollowsUpTo (P : Event → Session → List Note → Session → Type 0) (files : Files) (events : List Event) (old : Session) (journal : List Note) (new : Session) : Type 0 where
  pub count : ℕ
  pub event : Event
  pub is : slice_get events count ≡ Some event
  pub mid : Session
  pub whole_notes : List Note
  pub part_notes : List Note
  pub whole : Follows files (take count events) old whole_notes mid
  pub part : P event mid part_notes new
  pub joined : journal ≡ whole_notes ++ part_notes

-- the last event is a mkfs in which the media failed
abbrev pub FollowsBroken : Files → List Event → Session → List Note → Session → Type 0
FollowsBroken files events old journal new = FollowsUpTo BreaksEvent files events old journal new

-- no memory was left for an operation of an event
abbrev pub FollowsCut : Files → List Event → Session → List Note → Session → Type 0
FollowsCut files events old journal new = FollowsUpTo (PartOf files) files events old journal new

-- some first ones are done, the last of them this one
abbrev pub FollowsLast : Files → List Event → Session → List Note → Session → Type 0
FollowsLast files events old journal new = FollowsUpTo (DoesEvent files) files events old journal new

-- some first ones are done
pub record FollowsPrefix (files : Files) (events : List Event) (old : Session) (journal : List Note) (new : Session) : Type 0 where
  pub count : ℕ
  pub follows : Follows files (take count events) old journal new

-- how the reading of a source ends early
pub data SourceEnd : Type 0 where
  -- the shelf failed
  Faulted : SourceEnd
  -- of `size` bytes only `got` came
  Short : (size got : ℕ) → SourceEnd

-- a short source is one that is there, has more bytes, and is within the limit: a longer one is refused before it is read
abbrev pub IsShortOf : Files → List ℕ → ℕ → SourceEnd → Type 0
IsShortOf files name copied Faulted = ⊤
IsShortOf files name copied (Short size got) =
    (bytes : List ℕ) × (map.get files name ≡ Some bytes) × (size ≡ length bytes) × (got < size) × (copied + size ≤ copy_limit)

-- an event that comes to its source, which is no mount: the host may begin
pub record ReadsSource (files : Files) (event : Event) (end : SourceEnd) (state : Session) : Type 0 where
  pub host : List ℕ
  pub source : List ℕ
  pub reads : event_source event ≡ Some (host, source)
  pub free : may_begin host false state.machines ≡ None
  pub ends : IsShortOf files source state.copied end

-- the events before one whose source fails are done
pub record FollowsToSource (end : SourceEnd) (files : Files) (events : List Event) (old : Session) (journal : List Note) (new : Session) : Type 0 where
  pub count : ℕ
  pub event : Event
  pub is : slice_get events count ≡ Some event
  pub reads : ReadsSource files event end new
  pub follows : Follows files (take count events) old journal new
