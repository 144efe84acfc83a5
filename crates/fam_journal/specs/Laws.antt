-- What laws say of journals.
use Rattle.std.specs.Prelude.{ℕ, ⊤, ◌≡◌, ◌*◌, ◌≤◌, false, List, [], ◌∷◌, ◌++◌, length, map, slice_get, take, Option, Some, None, Result}
use Rattle.fam_base.specs.declared.entry.Entry.{Entry}
use Rattle.fam_journal.specs.Events.{Session, first_session}
use Rattle.fam_tree.specs.Listings.{ListingSays}
use Rattle.fam_base.specs.Image.{Image, eight}
use Rattle.fam_media.specs.Files.{Files}
use Rattle.fam_commands.specs.Kept.{IsKept, Kept}
use Rattle.fam_commands.specs.Stands.{StandsFor, turn_given}
use Rattle.fam_commands.specs.Task.{Task}
use Rattle.fam_commands.specs.Turns.{Turn}
use Rattle.fam_protocol.specs.SharedState.{SharedState}
use Rattle.fam_protocol.specs.Steps.{TurnSays}
use Rattle.fam_protocol.specs.Invariant.{Hosts, InvariantBy}
use Rattle.fam_journal.specs.Kept.{IfHalted, TaskTold, protocol_run, settled_of}
use Rattle.fam_format.specs.Layout.{device_limit}
use Rattle.fam_format.specs.Params.{IsUuid}
use Rattle.fam_format.specs.Reading.{Lines}
use Rattle.fam_rules.specs.Place.{line_bytes}
use Rattle.fam_journal.specs.declared.event.Event.{Event}
use Rattle.fam_journal.specs.declared.event.Event.TheVariants as event
use Rattle.fam_journal.specs.Ends.{Ending, AllDone, MkfsFails, SourceFails, EndsOutOfMemory, EndsOutOfMemoryBroken, SinkFails, EventsDone, ReadsAfter, ends_history}
use Rattle.fam_rules.specs.Asks.{File}
use Rattle.fam_rules.specs.Reply.{Reply}
use Rattle.fam_journal.specs.Calls.{IsSoundRequest}
use Rattle.fam_journal.specs.Legal.{Legal}
use Rattle.fam_journal.specs.Notes.{Note, Answered, Replied}
use Rattle.fam_journal.specs.Past.{Damage, Given, HostPast, Past, State, Bad, Sound, reply_count, first_state, past_of, with_pending}

-- the entries that an answer may be of: the history, and the pending entry behind it
abbrev pub answerable_entries : State → List File
answerable_entries (Bad origin damage gate) = []
answerable_entries (Sound p history pending) = with_pending history pending

-- no note ends the history before it
abbrev pub NoneEnds : List Note → Type 0
NoneEnds [] = ⊤
NoneEnds (note ∷ notes) = (ends_history note ≡ false) × NoneEnds notes

-- no media fault cut a mkfs of the run that ended so
abbrev pub IsUncut : Ending → Type 0
IsUncut AllDone = ⊤
IsUncut MkfsFails = ⊥
IsUncut (SourceFails end) = ⊤
IsUncut EndsOutOfMemory = ⊤
IsUncut EndsOutOfMemoryBroken = ⊥
IsUncut SinkFails = ⊤

-- the entries that are settled
abbrev pub history_at : State → List File
history_at (Bad origin damage gate) = []
history_at (Sound p history pending) = history

-- the one stands in front of the other
pub record IsPrefix (first all : List File) : Type 0 where
  pub rest : List File
  pub is : all ≡ first ++ rest

-- nothing is pending, and so many entries are settled
abbrev pub NonePending : ℕ → State → Type 0
NonePending seq (Bad origin damage gate) = ⊥
NonePending seq (Sound p history pending) = (pending ≡ None) × (seq ≡ length history)

-- two answers of entries in one legal journal, with no note between them that ends a history
pub record TwoAnswers (start : Image) : Type 0 where
  pub before : List Note
  pub between : List Note
  pub first_host : ℕ
  pub second_host : ℕ
  pub first : Reply
  pub second : Reply
  pub legal : Legal start (before ++ (Answered first_host (Replied first) ∷ (between ++ Answered second_host (Replied second) ∷ [])))
  pub none : NoneEnds between
  pub m : ℕ
  pub n : ℕ
  pub first_count : reply_count first ≡ Some m
  pub second_count : reply_count second ≡ Some n

-- the entries of each answer
abbrev pub first_entries : {start : Image} → TwoAnswers start → List File
first_entries {start} two = take two.m (answerable_entries (past_of start two.before).state)

-- the entries of the second answer
abbrev pub second_entries : {start : Image} → TwoAnswers start → List File
second_entries {start} two =
    take two.n (answerable_entries (past_of start (two.before ++ Answered two.first_host (Replied two.first) ∷ two.between)).state)

-- bytes are one listing, or one first bad line
abbrev pub OneListing : Type 0
OneListing = (bytes : List ℕ) (a b : Result (List Entry) ℕ) → ListingSays bytes a → ListingSays bytes b → a ≡ b

-- the same notes, and the same state behind them
pub record AreSame (notes other : List Note) (state left : Session) : Type 0 where
  pub notes_are : notes ≡ other
  pub states_are : state ≡ left

-- an event's UUIDs are such, and its format is one
abbrev pub IsValidEvent : Event → Type 0
IsValidEvent (event.Host name uuid) = IsUuid uuid
IsValidEvent (event.Mkfs name request) = IsSoundRequest request
IsValidEvent (event.Begin name what) = ⊤
IsValidEvent (event.Run name what) = ⊤
IsValidEvent (event.Step name count) = ⊤
IsValidEvent (event.Finish name) = ⊤
IsValidEvent (event.Stop name) = ⊤
IsValidEvent (event.Halt name) = ⊤
IsValidEvent (event.Umount name) = ⊤
IsValidEvent (event.Evict name line) = ⊤
IsValidEvent (event.Leak name line mask) = ⊤
IsValidEvent (event.Fetch name line mask) = ⊤

-- each event is within its limits
abbrev pub AreSound : List Event → Type 0
AreSound [] = ⊤
AreSound (e ∷ events) = IsValidEvent e × AreSound events

-- an image that a run may begin with
pub record IsImage (image : Image) : Type 0 where
  pub limit : line_bytes * length image ≤ device_limit
  pub normal : map eight image ≡ image

-- the journal of a run that ended so is legal, and the image that is left reads as it settles; behind a mkfs in which the media
-- failed as before it, as no superblock, or as the new file system
pub record IsSettled (ending : Ending) (start : Image) (files : Files) (events : List Event) (journal : List Note) (last : Session) (done : EventsDone ending files events (first_session start) journal last) : Type 0 where
  pub legal : Legal start journal
  pub reads : ReadsAfter ending files events (first_session start) journal last done (past_of start journal).state last.machines.memory

-- a task of a host at a moment of a run: what its journal tells, and the turn that comes of its operation
pub record TaskAt : Type 0 where
  pub past : Past
  pub host : ℕ
  pub told : HostPast
  pub is : slice_get past.hosts host ≡ Some told
  pub task : Task
  pub words : List ℕ
  pub made : ℕ
  pub word : ℕ
  pub kept : Option Kept
  pub joined : IsKept kept
  pub standing : StandsFor kept task.cmd task.me (length past.start) task words made
  pub was : TaskTold task told
  pub me : told.uuid ≡ task.me

-- the turn
abbrev pub task_turn : TaskAt → Turn
task_turn at = turn_given at.task at.word

-- a damaged state of an image that was handed in is what that reads as, and it has so many lines
pub record IsOwnDamage (lines : ℕ) (image : Image) (damage : Damage) (gate : ℕ) : Type 0 where
  pub reads : first_state image ≡ Bad (Given image) damage gate
  pub lines_are : length image ≡ lines

-- the protocol lets it say so, while what it keeps holds of a memory of these lines
pub record MaySayNext (at : TaskAt) : Type 0 where
  pub now : Lines
  pub hosts : Hosts
  pub shared : SharedState
  pub bad : (image : Image) (damage : Damage) (gate : ℕ) → at.past.state ≡ Bad (Given image) damage gate → IsOwnDamage (length at.past.start) image damage gate
  pub halted : IfHalted at.past.state now
  pub stage : InvariantBy (settled_of at.past.state now) (length at.past.start) hosts shared
  pub says : TurnSays (task_turn at) (protocol_run at.task at.told) (settled_of at.past.state now) (length at.past.start) hosts
