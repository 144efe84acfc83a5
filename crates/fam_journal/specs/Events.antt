-- What each event of a script does, and what a list of events does. A command with a source holds the source's bytes.
use Rattle.std.specs.Prelude.{ℕ, ◌≡◌, ◌⊎◌, ◌+◌, ◌-◌, ◌^◌, ◌≤◌, nat_le, min, Bool, true, false, List, [], ◌∷◌, ◌++◌, length, Option, Some, None, Ok, Err}
use Rattle.std.specs.FinMap as map
use Rattle.fam_base.specs.declared.cmd.Cmd.{Cmd}
use Rattle.fam_base.specs.declared.cmd.Cmd.TheVariants as cmd
use Rattle.fam_base.specs.declared.cmd.Content.TheVariants as content
use Rattle.fam_base.specs.declared.entry.Entry.{Entry}
use Rattle.fam_base.specs.Image.{Image}
use Rattle.fam_commands.specs.Classes.{is_mount}
use Rattle.fam_media.specs.Files.{Files}
use Rattle.fam_protocol.specs.Tasks.{IsCommand}
use Rattle.fam_journal.specs.declared.event.Ask.{Ask}
use Rattle.fam_journal.specs.declared.event.Ask.TheVariants as ask
use Rattle.fam_journal.specs.declared.event.Event.{Event}
use Rattle.fam_journal.specs.declared.event.Event.TheVariants as event
use Rattle.fam_journal.specs.declared.refusal.Refusal.{Refusal}
use Rattle.fam_journal.specs.declared.refusal.Refusal.TheVariants as why
use Rattle.fam_journal.specs.Calls as call
use Rattle.fam_journal.specs.Calls.{Call, Begins, Refuses, Does, CutCall, DoesOperations, Completes, Unfinished, idle_refusal, may_begin, number_of, on_host}
use Rattle.fam_tree.specs.Listings.{ListingSays}
use Rattle.fam_machine.specs.HostMoves.{Evict, Leak, Fetch}
use Rattle.fam_journal.specs.Machines.{Machines, unused}
use Rattle.fam_journal.specs.Notes.{Note, Refused}

-- the machine of all hosts, and how many bytes of sources were read so far
pub record Session : Type 0 where
  pub machines : Machines
  pub copied : ℕ

-- before the first event
abbrev pub first_session : Image → Session
first_session image = record { machines = unused image; copied = 0 }

-- Sources.

-- the most bytes that are read of sources in one run
abbrev pub copy_limit : ℕ
copy_limit = 268435456

-- the command of an ask, or why there is none; and the bytes read so far, its own source's with them where it was read
pub data Sourced : Type 0 where
  Ready : (cmd : Cmd) (copied : ℕ) → Sourced
  Unfit : (cause : Refusal) (copied : ℕ) → Sourced

-- a source that is within the limit is read
abbrev pub WithinSays : Bool → List ℕ → ℕ → (List ℕ → ℕ → Sourced → Type 0) → Sourced → Type 0
WithinSays true bytes copied reads said = reads bytes (copied + length bytes) said
WithinSays false bytes copied reads said = said ≡ Unfit (why.CopyLimit (min (copied + length bytes) (2 ^ 64 - 1))) copied

-- a source that is there
abbrev pub BytesSay : List ℕ → Option (List ℕ) → ℕ → (List ℕ → ℕ → Sourced → Type 0) → Sourced → Type 0
BytesSay name None copied reads said = said ≡ Unfit (why.NoFile name) copied
BytesSay name (Some bytes) copied reads said = WithinSays (nat_le (copied + length bytes) copy_limit) bytes copied reads said

-- bytes are a listing, or not
abbrev pub ListingIs : List ℕ → ℕ → Sourced → Type 0
ListingIs bytes copied said =
    ((entries : List Entry) × ListingSays bytes (Ok entries) × (said ≡ Ready (cmd.Check entries) copied)) ⊎ ((line : ℕ) × ListingSays bytes (Err line) × (said ≡ Unfit (why.BadListing line) copied))

-- what an ask comes to, by the files of the shelf and the bytes read so far
abbrev pub SourceSays : Files → ℕ → Ask → Sourced → Type 0
SourceSays files copied (ask.Plain c) said = said ≡ Ready c copied
SourceSays files copied (ask.Cp source path attr stripe) said =
    BytesSay source (map.get files source) copied (λ bytes copied said. said ≡ Ready (cmd.Cp path attr stripe bytes) copied) said
SourceSays files copied (ask.VerifySource path source) said =
    BytesSay source (map.get files source) copied (λ bytes copied said. said ≡ Ready (cmd.Verify path (content.Bytes bytes)) copied) said
SourceSays files copied (ask.Check source) said = BytesSay source (map.get files source) copied ListingIs said

-- the source of an ask
abbrev pub source_of : Ask → Option (List ℕ)
source_of (ask.Plain c) = None
source_of (ask.Cp source path attr stripe) = Some source
source_of (ask.VerifySource path source) = Some source
source_of (ask.Check source) = Some source

-- an ask of a mount
abbrev pub mounts : Ask → Bool
mounts (ask.Plain c) = is_mount c
mounts (ask.Cp source path attr stripe) = false
mounts (ask.VerifySource path source) = false
mounts (ask.Check source) = false

-- Events.

-- a call, which reads no source
abbrev pub Calls : Call → Session → List Note → Session → Type 0
Calls c old notes new = Does c old.machines notes new.machines × (new.copied ≡ old.copied)

-- what is asked for may not begin there
pub record MayNot (name : List ℕ) (what : Ask) (old : Session) (notes : List Note) (new : Session) : Type 0 where
  pub cause : Refusal
  pub first : may_begin name (mounts what) old.machines ≡ Some cause
  pub notes_are : notes ≡ Refused name cause ∷ []
  pub same : new ≡ old

-- a host that may begin is refused what it is asked for, since its source doesn't fit; what was read of it counts
pub record HasNoSource (files : Files) (name : List ℕ) (what : Ask) (old : Session) (notes : List Note) (new : Session) : Type 0 where
  pub free : may_begin name (mounts what) old.machines ≡ None
  pub cause : Refusal
  pub copied : ℕ
  pub says : SourceSays files old.copied what (Unfit cause copied)
  pub does : Does (Refuses name cause) old.machines notes new.machines
  pub copied_is : new.copied ≡ copied

-- an ask is refused: its host may not begin, or its source doesn't fit
abbrev pub RefusesEvent : Files → List ℕ → Ask → Session → List Note → Session → Type 0
RefusesEvent files name what old notes new = MayNot name what old notes new ⊎ HasNoSource files name what old notes new

-- a command begins. Its path, numbers and bytes fit: those of a source are bytes, since it was read
pub record CommandBegins (files : Files) (name : List ℕ) (what : Ask) (old : Session) (notes : List Note) (new : Session) : Type 0 where
  pub free : may_begin name (mounts what) old.machines ≡ None
  pub cmd : Cmd
  pub copied : ℕ
  pub says : SourceSays files old.copied what (Ready cmd copied)
  pub fits : IsCommand cmd
  pub does : Does (Begins name cmd) old.machines notes new.machines
  pub copied_is : new.copied ≡ copied

-- and does operations: by a relation of a host's number, machines and notes
pub record Continues (P : ℕ → Machines → List Note → Machines → Type 0) (files : Files) (name : List ℕ) (what : Ask) (old : Session) (notes : List Note) (new : Session) : Type 0 where
  pub mid : Session
  pub first : List Note
  pub rest : List Note
  pub begun : CommandBegins files name what old first mid
  pub host : ℕ
  pub number : number_of name mid.machines ≡ Some host
  pub does : P host mid.machines rest new.machines
  pub copied : new.copied ≡ mid.copied
  pub joined : notes ≡ first ++ rest

-- so many operations of a host that has a task
pub record StepsBy (P : ℕ → Machines → List Note → Machines → Type 0) (name : List ℕ) (old : Session) (notes : List Note) (new : Session) : Type 0 where
  pub host : ℕ
  pub number : number_of name old.machines ≡ Some host
  pub busy : idle_refusal host old.machines ≡ None
  pub does : P host old.machines notes new.machines
  pub copied : new.copied ≡ old.copied

-- the host isn't declared, or idle
pub record MayNotStep (name : List ℕ) (old : Session) (notes : List Note) (new : Session) : Type 0 where
  pub cause : Refusal
  pub first : on_host (number_of name old.machines) (λ h. idle_refusal h old.machines) ≡ Some cause
  pub notes_are : notes ≡ Refused name cause ∷ []
  pub same : new ≡ old

-- what an event does after which the run goes on
abbrev pub DoesEvent : Files → Event → Session → List Note → Session → Type 0
DoesEvent files (event.Host name uuid) old notes new = Calls (call.Declares name uuid) old notes new
DoesEvent files (event.Mkfs name request) old notes new = Calls (call.Makes name request) old notes new
DoesEvent files (event.Begin name what) old notes new = CommandBegins files name what old notes new ⊎ RefusesEvent files name what old notes new
DoesEvent files (event.Run name what) old notes new = Continues Completes files name what old notes new ⊎ RefusesEvent files name what old notes new
DoesEvent files (event.Step name count) old notes new = StepsBy (λ h. DoesOperations h count) name old notes new ⊎ MayNotStep name old notes new
DoesEvent files (event.Finish name) old notes new = Calls (call.Finishes name) old notes new
DoesEvent files (event.Stop name) old notes new = Calls (call.Stops name) old notes new
DoesEvent files (event.Halt name) old notes new = Calls (call.Halts name) old notes new
DoesEvent files (event.Umount name) old notes new = Calls (call.Umounts name) old notes new
DoesEvent files (event.Evict name line) old notes new = Calls (call.Moves name line.0 Evict) old notes new
DoesEvent files (event.Leak name line mask) old notes new = Calls (call.Moves name line.0 (Leak mask.0)) old notes new
DoesEvent files (event.Fetch name line mask) old notes new = Calls (call.Moves name line.0 (Fetch mask.0)) old notes new

-- a media fault cuts an event behind which nothing goes on: making a file system
abbrev pub BreaksEvent : Event → Session → List Note → Session → Type 0
BreaksEvent (event.Host name uuid) old notes new = ⊥
BreaksEvent (event.Mkfs name request) old notes new =
    CutCall (call.Makes name request) old.machines notes new.machines × (new.copied ≡ old.copied)
BreaksEvent (event.Begin name what) old notes new = ⊥
BreaksEvent (event.Run name what) old notes new = ⊥
BreaksEvent (event.Step name count) old notes new = ⊥
BreaksEvent (event.Finish name) old notes new = ⊥
BreaksEvent (event.Stop name) old notes new = ⊥
BreaksEvent (event.Halt name) old notes new = ⊥
BreaksEvent (event.Umount name) old notes new = ⊥
BreaksEvent (event.Evict name line) old notes new = ⊥
BreaksEvent (event.Leak name line mask) old notes new = ⊥
BreaksEvent (event.Fetch name line mask) old notes new = ⊥

-- at most so many operations, behind which the task runs on
pub record AtMost (limit h : ℕ) (old : Machines) (notes : List Note) (new : Machines) : Type 0 where
  pub does : Unfinished h old notes new
  pub within : does.count ≤ limit

-- no memory was left for an operation of an event: of its operations some were done, and its command has not answered.
-- Making a file system takes all its room first, and other events are done whole
abbrev pub PartOf : Files → Event → Session → List Note → Session → Type 0
PartOf files (event.Host name uuid) old notes new = ⊥
PartOf files (event.Mkfs name request) old notes new = ⊥
PartOf files (event.Begin name what) old notes new = ⊥
PartOf files (event.Run name what) old notes new = Continues Unfinished files name what old notes new
PartOf files (event.Step name count) old notes new = StepsBy (AtMost count) name old notes new
PartOf files (event.Finish name) old notes new = StepsBy Unfinished name old notes new
PartOf files (event.Stop name) old notes new = ⊥
PartOf files (event.Halt name) old notes new = ⊥
PartOf files (event.Umount name) old notes new = ⊥
PartOf files (event.Evict name line) old notes new = ⊥
PartOf files (event.Leak name line mask) old notes new = ⊥
PartOf files (event.Fetch name line mask) old notes new = ⊥

-- which host of an event reads which source
abbrev pub named_source : List ℕ → Option (List ℕ) → Option (List ℕ × List ℕ)
named_source name None = None
named_source name (Some source) = Some (name, source)

-- the host and the source of an event that reads one
abbrev pub event_source : Event → Option (List ℕ × List ℕ)
event_source (event.Host name uuid) = None
event_source (event.Mkfs name request) = None
event_source (event.Begin name what) = named_source name (source_of what)
event_source (event.Run name what) = named_source name (source_of what)
event_source (event.Step name count) = None
event_source (event.Finish name) = None
event_source (event.Stop name) = None
event_source (event.Halt name) = None
event_source (event.Umount name) = None
event_source (event.Evict name line) = None
event_source (event.Leak name line mask) = None
event_source (event.Fetch name line mask) = None
