-- A world as it is seen: its hosts, each with its cache, the task that it runs and what it keeps of the log, and its journal.
-- Which states of the machine it stands for.
use Rattle.std.specs.Prelude.{ℕ, ⊤, ◌≡◌, List, [], slice_get, Option, Some, None}
use Rattle.fam_machine.specs.Caches.{Cache}
use Rattle.fam_commands.specs.Kept.{IsKept, Kept}
use Rattle.fam_commands.specs.Stands.{StandsFor}
use Rattle.fam_commands.specs.Task.{Task}
use Rattle.fam_journal.specs.Machines.{HostState, Machines, TaskState}
use Rattle.fam_journal.specs.Notes.{Note}

-- a host of the world: its task is the one that the code runs
pub record HostView : Type 0 where
  pub name : List ℕ
  pub uuid : List ℕ
  pub cache : Cache
  pub task : Option Task
  pub kept : Option Kept

-- a world: its hosts in the order in which they were declared, and its journal
pub record WorldView : Type 0 where
  pub hosts : List HostView
  pub journal : List Note

-- no host, and no note
abbrev pub empty_world : WorldView
empty_world = record { hosts = []; journal = [] }

-- The world stands for a state of the machine.

-- a task stands for a command on its way, on a host that kept a history when it began: it is the command's after the words
-- that the loads gave and the operations that were made
pub record StandsAs (lines : ℕ) (s : TaskState) (t : Task) : Type 0 where
  pub joined : IsKept s.kept
  pub stands : StandsFor s.kept s.cmd s.me lines t s.words s.made

-- both have a task that stands so, or neither has one
abbrev pub TaskStands : ℕ → Option TaskState → Option Task → Type 0
TaskStands lines None None = ⊤
TaskStands lines (Some s) (Some t) = StandsAs lines s t
TaskStands lines None (Some t) = ⊥
TaskStands lines (Some s) None = ⊥

-- a world's host stands for one of the machine
pub record HostStands (lines : ℕ) (state : HostState) (view : HostView) : Type 0 where
  pub name : state.name ≡ view.name
  pub uuid : state.uuid ≡ view.uuid
  pub cache : state.cache ≡ view.cache
  pub task : TaskStands lines state.task view.task
  pub kept : state.kept ≡ view.kept
  pub joined : IsKept view.kept

-- both are declared, or neither is
abbrev pub HostStandsAt : ℕ → Option HostState → Option HostView → Type 0
HostStandsAt lines None None = ⊤
HostStandsAt lines (Some state) (Some view) = HostStands lines state view
HostStandsAt lines None (Some view) = ⊥
HostStandsAt lines (Some state) None = ⊥

-- the world's own hosts, caches and tasks stand for those of the state
abbrev pub WorldStands : ℕ → Machines → WorldView → Type 0
WorldStands lines state world = (h : ℕ) → HostStandsAt lines (slice_get state.hosts h) (slice_get world.hosts h)
