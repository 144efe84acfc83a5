-- The shape of a whole run's journal: which notes each event may add whatever the media holds, and how the run may end.
use Rattle.std.specs.Prelude.{ℕ, ⊤, ◌≡◌, ◌⊎◌, ◌≤◌, false, List, [], ◌∷◌, ◌++◌, length, take, slice_get, Some, None}
use Rattle.fam_base.specs.declared.cmd.Cmd.{Cmd}
use Rattle.fam_base.specs.declared.cmd.Cmd.TheVariants as cmd
use Rattle.fam_base.specs.declared.cmd.Content.TheVariants as content
use Rattle.fam_base.specs.declared.entry.Entry.{Entry}
use Rattle.fam_machine.specs.HostMoves.{Evict, Leak, Fetch}
use Rattle.fam_journal.specs.declared.event.Ask.{Ask}
use Rattle.fam_journal.specs.declared.event.Ask.TheVariants as ask
use Rattle.fam_journal.specs.declared.event.Event.{Event}
use Rattle.fam_journal.specs.declared.event.Event.TheVariants as event
use Rattle.fam_journal.specs.declared.refusal.Refusal.{Refusal}
use Rattle.fam_journal.specs.declared.refusal.Refusal.TheVariants as why
use Rattle.fam_journal.specs.Calls as call
use Rattle.fam_journal.specs.Calls.{idle_refusal, may_begin, number_of, on_host}
use Rattle.fam_journal.specs.Ends.{AllDone, Ending, MkfsFails, EndsOutOfMemory, EndsOutOfMemoryBroken, SinkFails, SourceFails}
use Rattle.fam_journal.specs.Events.{event_source, mounts, source_of}
use Rattle.fam_journal.specs.Shapes.{BreaksShape, CompletesShape, DoesShape, ShapeByRefusal, HostShape, OperationsShape, SomeShape, UnfinishedShape, shapes_after, shapes_behind, shown_shapes}
use Rattle.fam_journal.specs.Notes.{Note, Start, Refused}

-- Asks.

-- the command that an ask comes to: what stands in it, and of its source some bytes or some entries
abbrev pub AskShape : Ask → Cmd → Type 0
AskShape (ask.Plain own) c = c ≡ own
AskShape (ask.Cp source path attr stripe) c = (bytes : List ℕ) × (c ≡ cmd.Cp path attr stripe bytes)
AskShape (ask.VerifySource path source) c = (bytes : List ℕ) × (c ≡ cmd.Verify path (content.Bytes bytes))
AskShape (ask.Check source) c = (entries : List Entry) × (c ≡ cmd.Check entries)

-- an ask that compares the tree with a source's listing
abbrev pub IsListingAsk : Ask → Type 0
IsListingAsk (ask.Plain own) = ⊥
IsListingAsk (ask.Cp source path attr stripe) = ⊥
IsListingAsk (ask.VerifySource path source) = ⊥
IsListingAsk (ask.Check source) = ⊤

-- why an ask's source makes no command: there is none of its name, it is too long, or it is no listing
abbrev pub UnfitShape : Ask → Refusal → Type 0
UnfitShape what why.NoHost = ⊥
UnfitShape what (why.SameHost host) = ⊥
UnfitShape what why.TooManyHosts = ⊥
UnfitShape what (why.BadGeometry unit log) = ⊥
UnfitShape what (why.TooSmall need have) = ⊥
UnfitShape what (why.ImageSmall lines) = ⊥
UnfitShape what (why.Busy host) = ⊥
UnfitShape what (why.Dirty host) = ⊥
UnfitShape what (why.HasSuper uuid) = ⊥
UnfitShape what why.Idle = ⊥
UnfitShape what why.Mounted = ⊥
UnfitShape what why.NotMounted = ⊥
UnfitShape what (why.NoLine at lines) = ⊥
UnfitShape what (why.NoFile name) = source_of what ≡ Some name
UnfitShape what (why.CopyLimit sum) = (name : List ℕ) × (source_of what ≡ Some name)
UnfitShape what (why.BadListing at) = IsListingAsk what
UnfitShape what (why.MediaFault at) = ⊥

-- Events.

-- the source is none
pub record UnfitNotes (name : List ℕ) (what : Ask) (notes : List Note) : Type 0 where
  pub why : Refusal
  pub unfit : UnfitShape what why
  pub notes_are : notes ≡ Refused name why ∷ []

-- the command of an ask begins, and these notes of it follow
pub record StartShape (Q : ℕ → List HostShape → List Note → Type 0) (name : List ℕ) (what : Ask) (lines : ℕ) (hosts : List HostShape) (notes : List Note) : Type 0 where
  pub host : ℕ
  pub number : number_of name (shown_shapes lines hosts) ≡ Some host
  pub cmd : Cmd
  pub asked : AskShape what cmd
  pub rest : List Note
  pub notes_are : notes ≡ Start host cmd ∷ rest
  pub follow : Q host (shapes_after hosts (Start host cmd)) rest

-- it may not begin there; or the source is none; or a command begins
abbrev pub BeginForm : (ℕ → List HostShape → List Note → Type 0) → List ℕ → Ask → ℕ → List HostShape → List Note → Type 0
BeginForm Q name what lines hosts notes =
    ShapeByRefusal name (may_begin name (mounts what) (shown_shapes lines hosts)) notes (UnfitNotes name what notes ⊎ StartShape Q name what lines hosts notes)

-- no note more
abbrev pub NoMore : ℕ → List HostShape → List Note → Type 0
NoMore h hosts notes = notes ≡ []

-- notes of a host's running command, for at most so many operations
pub record StepsShape (count : ℕ) (name : List ℕ) (lines : ℕ) (hosts : List HostShape) (notes : List Note) : Type 0 where
  pub host : ℕ
  pub number : number_of name (shown_shapes lines hosts) ≡ Some host
  pub operations : OperationsShape host hosts notes
  pub within : length notes ≤ count

-- the host isn't declared, or idle; or does operations
abbrev pub StepShape : ℕ → List ℕ → ℕ → List HostShape → List Note → Type 0
StepShape count name lines hosts notes =
    ShapeByRefusal name (on_host (number_of name (shown_shapes lines hosts)) (λ h. idle_refusal h (shown_shapes lines hosts))) notes (StepsShape count name lines hosts notes)

-- what an event adds after which the run goes on
abbrev pub EventShape : Event → ℕ → List HostShape → List Note → Type 0
EventShape (event.Host name uuid) lines hosts notes = DoesShape (call.Declares name uuid) lines hosts notes
EventShape (event.Mkfs name request) lines hosts notes = DoesShape (call.Makes name request) lines hosts notes
EventShape (event.Begin name what) lines hosts notes = BeginForm NoMore name what lines hosts notes
EventShape (event.Run name what) lines hosts notes = BeginForm CompletesShape name what lines hosts notes
EventShape (event.Step name count) lines hosts notes = StepShape count name lines hosts notes
EventShape (event.Finish name) lines hosts notes = DoesShape (call.Finishes name) lines hosts notes
EventShape (event.Stop name) lines hosts notes = DoesShape (call.Stops name) lines hosts notes
EventShape (event.Halt name) lines hosts notes = DoesShape (call.Halts name) lines hosts notes
EventShape (event.Umount name) lines hosts notes = DoesShape (call.Umounts name) lines hosts notes
EventShape (event.Evict name line) lines hosts notes = DoesShape (call.Moves name line.0 Evict) lines hosts notes
EventShape (event.Leak name line mask) lines hosts notes = DoesShape (call.Moves name line.0 (Leak mask.0)) lines hosts notes
EventShape (event.Fetch name line mask) lines hosts notes = DoesShape (call.Moves name line.0 (Fetch mask.0)) lines hosts notes

-- a media fault cuts an event behind which nothing goes on
abbrev pub EventBreaksShape : Event → ℕ → List HostShape → List Note → Type 0
EventBreaksShape (event.Host name uuid) lines hosts notes = ⊥
EventBreaksShape (event.Mkfs name request) lines hosts notes = BreaksShape (call.Makes name request) lines hosts notes
EventBreaksShape (event.Begin name what) lines hosts notes = ⊥
EventBreaksShape (event.Run name what) lines hosts notes = ⊥
EventBreaksShape (event.Step name count) lines hosts notes = ⊥
EventBreaksShape (event.Finish name) lines hosts notes = ⊥
EventBreaksShape (event.Stop name) lines hosts notes = ⊥
EventBreaksShape (event.Halt name) lines hosts notes = ⊥
EventBreaksShape (event.Umount name) lines hosts notes = ⊥
EventBreaksShape (event.Evict name line) lines hosts notes = ⊥
EventBreaksShape (event.Leak name line mask) lines hosts notes = ⊥
EventBreaksShape (event.Fetch name line mask) lines hosts notes = ⊥

-- no memory was left for an operation of an event: of its operations some were done, and its command has not answered
abbrev pub EventPartShape : Event → ℕ → List HostShape → List Note → Type 0
EventPartShape (event.Host name uuid) lines hosts notes = ⊥
EventPartShape (event.Mkfs name request) lines hosts notes = ⊥
EventPartShape (event.Begin name what) lines hosts notes = ⊥
EventPartShape (event.Run name what) lines hosts notes = StartShape UnfinishedShape name what lines hosts notes
EventPartShape (event.Step name count) lines hosts notes = SomeShape name lines hosts notes × (length notes ≤ count)
EventPartShape (event.Finish name) lines hosts notes = SomeShape name lines hosts notes
EventPartShape (event.Stop name) lines hosts notes = ⊥
EventPartShape (event.Halt name) lines hosts notes = ⊥
EventPartShape (event.Umount name) lines hosts notes = ⊥
EventPartShape (event.Evict name line) lines hosts notes = ⊥
EventPartShape (event.Leak name line mask) lines hosts notes = ⊥
EventPartShape (event.Fetch name line mask) lines hosts notes = ⊥

-- Runs, on a media of so many lines.

-- the events in order, each with its own notes
abbrev pub FollowsShape : ℕ → List Event → List HostShape → List Note → Type 0
FollowsShape lines [] hosts journal = journal ≡ []
FollowsShape lines (event ∷ events) hosts journal =
    (first : List Note) × (rest : List Note) × EventShape event lines hosts first × FollowsShape lines events (shapes_behind hosts first) rest × (journal ≡ first ++ rest)

-- the events before one of them, and then something of this one
pub record ShapeUpTo (P : Event → ℕ → List HostShape → List Note → Type 0) (lines : ℕ) (events : List Event) (hosts : List HostShape) (journal : List Note) : Type 0 where
  pub count : ℕ
  pub event : Event
  pub is : slice_get events count ≡ Some event
  pub whole_notes : List Note
  pub part_notes : List Note
  pub whole : FollowsShape lines (take count events) hosts whole_notes
  pub part : P event lines (shapes_behind hosts whole_notes) part_notes
  pub joined : journal ≡ whole_notes ++ part_notes

-- some first ones
pub record ShapePrefix (lines : ℕ) (events : List Event) (hosts : List HostShape) (journal : List Note) : Type 0 where
  pub count : ℕ
  pub follows : FollowsShape lines (take count events) hosts journal

-- those before one that comes to its source
pub record ShapeToSource (lines : ℕ) (events : List Event) (hosts : List HostShape) (journal : List Note) : Type 0 where
  pub count : ℕ
  pub event : Event
  pub is : slice_get events count ≡ Some event
  pub host : List ℕ
  pub source : List ℕ
  pub reads : event_source event ≡ Some (host, source)
  pub free : may_begin host false (shown_shapes lines (shapes_behind hosts journal)) ≡ None
  pub follows : FollowsShape lines (take count events) hosts journal

-- by how the run ends
abbrev pub EndsShape : Ending → ℕ → List Event → List HostShape → List Note → Type 0
EndsShape AllDone lines events hosts journal = FollowsShape lines events hosts journal
EndsShape MkfsFails lines events hosts journal = ShapeUpTo EventBreaksShape lines events hosts journal
EndsShape (SourceFails end) lines events hosts journal = ShapeToSource lines events hosts journal
EndsShape EndsOutOfMemory lines events hosts journal = ShapePrefix lines events hosts journal ⊎ ShapeUpTo EventPartShape lines events hosts journal
EndsShape EndsOutOfMemoryBroken lines events hosts journal = ShapeUpTo EventBreaksShape lines events hosts journal
EndsShape SinkFails lines events hosts journal = ShapeUpTo EventShape lines events hosts journal
