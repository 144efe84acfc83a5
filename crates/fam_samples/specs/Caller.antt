-- A caller of the world that knows of its calls nothing but what they promise: one run of seven calls, one that a media fault cuts,
-- and one that lacks memory.
use Rattle.std.specs.Prelude.{ℕ, ◌≡◌, false, List, [], ◌∷◌, length, Option, Some, None}
use Rattle.fam_base.specs.declared.cmd.Cmd.{Cmd}
use Rattle.fam_base.specs.declared.line.LineNo.{LineNo}
use Rattle.fam_base.specs.Image.{Image}
use Rattle.fam_machine.specs.MkfsRequest.{mkfs_request}
use Rattle.fam_format.specs.Params.{IsUuid}
use Rattle.fam_media.specs.Files.{Files}
use Rattle.fam_media.specs.States.{media_change}
use Rattle.fam_protocol.specs.Tasks.{IsCommand}
use Rattle.fam_journal.specs.declared.event.Ask.TheVariants as ask
use Rattle.fam_journal.specs.declared.event.Event.{Event}
use Rattle.fam_journal.specs.declared.event.Event.TheVariants as event
use Rattle.fam_journal.specs.declared.refusal.Refusal.TheVariants as why
use Rattle.fam_journal.specs.Calls.{Begins, Declares, Finishes, Halts, Makes, Moves}
use Rattle.fam_journal.specs.CallRecords.{FinishOutOfMemory, MakeCall, MediaCall, StepCall, WorldCall}
use Rattle.fam_journal.specs.Ends.{Ending, EventsDone, ReadsAfter}
use Rattle.fam_journal.specs.Events.{Session, first_session}
use Rattle.fam_journal.specs.Kept.{Held}
use Rattle.fam_journal.specs.Legal.{Legal}
use Rattle.fam_journal.specs.Past.{past_of}
use Rattle.fam_machine.specs.HostMoves.{Evict}
use Rattle.fam_journal.specs.View.{WorldView, empty_world}

-- who calls for what: a host's name and UUID, a file system's UUID, a command, and a line
pub record Wishes : Type 0 where
  pub name : List ℕ
  pub uuid : List ℕ
  pub fs : List ℕ
  pub cmd : Cmd
  pub line : LineNo
  pub is_uuid : IsUuid uuid
  pub is_fs : IsUuid fs
  pub fits : IsCommand cmd

-- what a caller holds between two calls: the world, the media's image where it is modelled, and its count of faults
pub record Moment : Type 0 where
  pub world : WorldView
  pub told : Option Image
  pub faults : ℕ

-- seven calls, one behind another, each of which isn't refused: host, mkfs, begin, step, finish, evict, halt
pub record Trace (start : Image) (w : Wishes) : Type 0 where
  pub first : ℕ
  pub declared : WorldView
  pub made : Moment
  pub begun : WorldView
  pub stepped : Moment
  pub finished : Moment
  pub evicted : Moment
  pub halted : WorldView
  pub host : WorldCall (Declares w.name w.uuid) (length start) None empty_world declared
  pub mkfs : MakeCall (Makes w.name (mkfs_request w.fs 4096 65536 1 false None)) (length start) None (media_change (Some start) first made.told made.faults) declared made.world
  pub begin : WorldCall (Begins w.name w.cmd) (length start) None made.world begun
  pub step : StepCall w.name (length start) None false (media_change made.told made.faults stepped.told stepped.faults) begun stepped.world
  pub finish : MediaCall (Finishes w.name) (length start) None (media_change stepped.told stepped.faults finished.told finished.faults) stepped.world finished.world
  pub evict : MediaCall (Moves w.name w.line.0 Evict) (length start) None (media_change finished.told finished.faults evicted.told evicted.faults) finished.world evicted.world
  pub halt : WorldCall (Halts w.name) (length start) None evicted.world halted

-- the events of a script that these calls run
abbrev pub events : Wishes → List Event
events w =
    event.Host w.name w.uuid ∷ event.Mkfs w.name (mkfs_request w.fs 4096 65536 1 false None) ∷ event.Begin w.name (ask.Plain w.cmd) ∷ event.Step w.name 1 ∷ event.Finish w.name ∷ event.Evict w.name w.line ∷ event.Halt w.name ∷ []

-- a world that is held, at the last state of events with this ending, whose notes are its journal; and the media has its image
pub record ComesTo (start : Image) (ending : Ending) (files : Files) (events : List Event) (world : WorldView) (told : Option Image) : Type 0 where
  pub last : Session
  pub follows : EventsDone ending files events (first_session start) world.journal last
  pub left : told ≡ Some last.machines.memory
  pub held : Held start last.machines world last.machines.memory

-- a media fault cuts the mkfs at a line: the caller ends there
pub record CutTrace (start : Image) (w : Wishes) : Type 0 where
  pub first : ℕ
  pub declared : WorldView
  pub cut : Moment
  pub line : LineNo
  pub host : WorldCall (Declares w.name w.uuid) (length start) None empty_world declared
  pub mkfs : MakeCall (Makes w.name (mkfs_request w.fs 4096 65536 1 false None)) (length start) (Some (why.MediaFault line)) (media_change (Some start) first cut.told cut.faults) declared cut.world

-- the journal is legal and follows, up to the mkfs, and the image reads as that mkfs leaves it
pub record ComesToCut (start : Image) (ending : Ending) (files : Files) (events : List Event) (world : WorldView) (told : Option Image) : Type 0 where
  pub last : Session
  pub follows : EventsDone ending files events (first_session start) world.journal last
  pub left : told ≡ Some last.machines.memory
  pub legal : Legal start world.journal
  pub reads : ReadsAfter ending files events (first_session start) world.journal last follows (past_of start world.journal).state last.machines.memory

-- a finish of a declared host finds no memory, not even for its note
pub record OutOfMemoryTrace (start : Image) (w : Wishes) : Type 0 where
  pub first : ℕ
  pub declared : WorldView
  pub wanting : Moment
  pub host : WorldCall (Declares w.name w.uuid) (length start) None empty_world declared
  pub finish : FinishOutOfMemory w.name (length start) (media_change (Some start) first wanting.told wanting.faults) declared wanting.world
