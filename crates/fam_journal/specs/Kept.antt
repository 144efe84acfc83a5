-- What a world keeps: it stands for a state of the machine, its journal is legal, and what the protocol keeps holds.
use Rattle.std.specs.Prelude.{ℕ, ⊤, ◌≡◌, ◌*◌, ◌≤◌, List, length, map, slice_get, slice_index, Option, Some, None}
use Rattle.fam_base.specs.Image.{Image, eight, line_at}
use Rattle.fam_format.specs.declared.faults.SuperFault.TheVariants as super
use Rattle.fam_format.specs.Layout.{device_limit}
use Rattle.fam_format.specs.Reading.{Lines}
use Rattle.fam_machine.specs.declared.cell.Cell.{Cell}
use Rattle.fam_machine.specs.declared.cell.Cell.TheVariants.{Absent}
use Rattle.fam_machine.specs.Caches.{cell_at}
use Rattle.fam_commands.specs.Kept.{Kept}
use Rattle.fam_commands.specs.Task.{Task}
use Rattle.fam_rules.specs.Place.{line_bytes}
use Rattle.fam_protocol.specs.After.{Run}
use Rattle.fam_protocol.specs.SharedState.{SharedState}
use Rattle.fam_protocol.specs.Invariant.{Hosts, Settled, Small, Damaged, Known, Invariant}
use Rattle.fam_format.specs.Params.{IsUuid}
use Rattle.fam_journal.specs.Legal.{Legal}
use Rattle.fam_journal.specs.Machines.{HostState, Machines}
use Rattle.fam_journal.specs.Notes.{Note}
use Rattle.fam_journal.specs.Past.{Damage, FewLines, NoSuperblock, BadHeader, BadSlot, Origin, Given, Halted, State, Bad, Sound, HostPast, past_of, with_pending}
use Rattle.fam_journal.specs.View.{HostView, WorldView, HostStandsAt, WorldStands}

-- The world and its journal agree.

-- what the journal has of a host's task: its command
pub record TaskTold (t : Task) (told : HostPast) : Type 0 where
  pub cmd : told.cmd ≡ Some t.cmd

-- where a host has a task, the journal tells of it
abbrev pub IfRuns : Option Task → HostPast → Type 0
IfRuns None told = ⊤
IfRuns (Some t) told = TaskTold t told

-- a host is as the journal tells it
pub record HostTold (view : HostView) (told : HostPast) : Type 0 where
  pub name : told.name ≡ view.name
  pub uuid : told.uuid ≡ view.uuid
  pub task : IfRuns view.task told

-- at one number: a host as the journal tells it, or neither has one
abbrev pub ToldAt : Option HostView → Option HostPast → Type 0
ToldAt None None = ⊤
ToldAt (Some view) (Some told) = HostTold view told
ToldAt None (Some told) = ⊥
ToldAt (Some view) None = ⊥

-- The world as the protocol sees it.

-- what is settled: by the protocol an image without history is small or damaged
abbrev pub settled_bad : Lines → Damage → Settled
settled_bad image (FewLines lines) = Small image
settled_bad image (NoSuperblock fault) = Damaged image
settled_bad image (BadHeader fault) = Damaged image
settled_bad image (BadSlot i reason) = Damaged image

-- the lines of a damaged image: those that were handed in; or behind a mkfs whose maker halted memory's own, which nobody
-- changes while it is damaged
abbrev pub origin_lines : Origin → Lines → Lines
origin_lines (Given image) now = line_at image
origin_lines Halted now = now

-- what the protocol has settled, as a journal's state tells it, over a memory of these lines
abbrev pub settled_of : State → Lines → Settled
settled_of (Bad origin damage gate) now = settled_bad (origin_lines origin now) damage
settled_of (Sound p history pending) now = Known p (with_pending history pending) (length history)

-- there is no superblock, since word 0 of line 0 is zero
pub record IsCleared (damage : Damage) (now : Lines) : Type 0 where
  pub damage_is : damage ≡ NoSuperblock (super.NoSuper 0)
  pub word : slice_index (now 0) 0 ≡ 0

-- so it is of damage that comes from a mkfs whose maker halted
abbrev pub IsClearedFrom : Origin → Damage → Lines → Type 0
IsClearedFrom (Given image) damage now = ⊤
IsClearedFrom Halted damage now = IsCleared damage now

-- so it is in a state
abbrev pub IfHalted : State → Lines → Type 0
IfHalted (Bad origin damage gate) now = IsClearedFrom origin damage now
IfHalted (Sound p history pending) now = ⊤

-- a task as a run of the protocol: with the floor that the journal tells, and the entry that it named
abbrev pub protocol_run : Task → HostPast → Run
protocol_run t told = record { task = t; floor = told.floor; named = told.wrote }

-- the run of a host that has a task
abbrev pub run_with : Option Task → Option HostPast → Option Run
run_with None told = None
run_with (Some t) None = None
run_with (Some t) (Some told) = Some (protocol_run t told)

-- the run of the host at one number, or none
abbrev pub run_at : Option HostView → Option HostPast → Option Run
run_at None told = None
run_at (Some view) told = run_with view.task told

-- the UUID of the host at one number, or none
abbrev pub uuid_at : Option HostView → Option (List ℕ)
uuid_at None = None
uuid_at (Some view) = Some view.uuid

-- the copy that the host at one number has of a line
abbrev pub copy_at : Option HostView → ℕ → Cell
copy_at None l = Absent
copy_at (Some view) l = cell_at view.cache l

-- what the host at one number keeps, or nothing
abbrev pub kept_at : Option HostView → Option Kept
kept_at None = None
kept_at (Some view) = view.kept

-- hosts as the protocol has them, by their numbers
abbrev pub hosts_of : List HostView → List HostPast → Hosts
hosts_of views told =
    record { uuid = λ h. uuid_at (slice_get views h); run = λ h. run_at (slice_get views h) (slice_get told h); kept = λ h. kept_at (slice_get views h) }

-- memory and copies as the protocol has them
abbrev pub shared_of : Image → List HostView → SharedState
shared_of image views = record { memory = line_at image; copy = λ h l. copy_at (slice_get views h) l }

-- What is kept, from the image that was handed in.

-- tasks stand for those of the state, whose memory is the image; the journal agrees with them and is legal; where a mkfs's maker
-- halted there is no superblock; and what the protocol keeps holds of them
pub record Agrees (start : Image) (state : Machines) (world : WorldView) (image : Image) : Type 0 where
  pub memory : state.memory ≡ image
  pub lines : length image ≡ length start
  pub normal : map eight image ≡ image
  pub first : map eight start ≡ start
  pub limit : line_bytes * length start ≤ device_limit
  pub stands : (h : ℕ) → HostStandsAt (length start) (slice_get state.hosts h) (slice_get world.hosts h)
  pub told : (h : ℕ) → ToldAt (slice_get world.hosts h) (slice_get (past_of start world.journal).hosts h)
  pub legal : Legal start world.journal
  pub halted : IfHalted (past_of start world.journal).state (line_at image)
  pub invariant : Invariant (settled_of (past_of start world.journal).state (line_at image)) (length start) (hosts_of world.hosts (past_of start world.journal).hosts) (shared_of image world.hosts)

-- of some tasks: those that stand for the state's
pub record Reached (start : Image) (state : Machines) (journal : List Note) : Type 0 where
  pub views : List HostView
  pub held : Agrees start state (record { hosts = views; journal = journal }) state.memory
  pub uuids : (k : ℕ) (host : HostState) → slice_get state.hosts k ≡ Some host → IsUuid host.uuid

-- a world is held, at a state of the machine whose memory is the image: it stands for the state; its journal is legal; and
-- what the protocol keeps holds. A mkfs that a media fault cut is not said to leave it so
pub record Held (start : Image) (state : Machines) (world : WorldView) (image : Image) : Type 0 where
  pub memory : state.memory ≡ image
  pub stands : WorldStands (length start) state world
  pub kept : Reached start state world.journal
