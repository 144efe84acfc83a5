-- The machine of all hosts: one memory, and of each declared host a cache, what it keeps of the log, and at most one task.
-- What an operation of a task makes of it, where the media fails or doesn't.
use Rattle.std.specs.Prelude.{ℕ, ◌≡◌, ◌+◌, List, [], ◌∷◌, length, slice_get, Option, Some, None, option_map}
use Rattle.fam_base.specs.declared.cmd.Cmd.{Cmd}
use Rattle.fam_base.specs.Image.{Image}
use Rattle.fam_machine.specs.declared.op.Op.{Op}
use Rattle.fam_machine.specs.Caches.{Cache}
use Rattle.fam_machine.specs.Operations.{Breaking, Failure, Machine, failed, given, operated}
use Rattle.fam_commands.specs.Keeping.{kept_behind, read_told}
use Rattle.fam_commands.specs.Kept.{Kept}
use Rattle.fam_commands.specs.Stands.{with_given}
use Rattle.fam_commands.specs.Table as row
use Rattle.fam_commands.specs.Table.{Row, table}
use Rattle.fam_journal.specs.Members.{changed_at}
use Rattle.fam_journal.specs.Notes.{Note, Mark, Found, Writes, Answered, Replied, MediaFault}

-- a command on its way: the UUID of its host, what its host kept when it began, the words that its loads gave, and how many
-- operations it made
pub record TaskState : Type 0 where
  pub cmd : Cmd
  pub me : List ℕ
  pub kept : Option Kept
  pub words : List ℕ
  pub made : ℕ

-- a declared host: its name, its UUID, its cache, the command that it runs, and what it keeps of the log
pub record HostState : Type 0 where
  pub name : List ℕ
  pub uuid : List ℕ
  pub cache : Cache
  pub task : Option TaskState
  pub kept : Option Kept

-- memory, and the hosts in the order in which they were declared
pub record Machines : Type 0 where
  pub memory : Image
  pub hosts : List HostState

-- an image, and nobody declared
abbrev pub unused : Image → Machines
unused image = record { memory = image; hosts = [] }

-- a command before its first operation, on a host that keeps this
abbrev pub task_begun : Option Kept → Cmd → List ℕ → TaskState
task_begun kept cmd me = record { cmd = cmd; me = me; kept = kept; words = []; made = 0 }

-- memory, and the cache of one host
abbrev pub machine_of : Machines → HostState → Machine
machine_of m host = record { image = m.memory; cache = host.cache }

-- a host's machine, and its task, are these now
abbrev pub with_machine : ℕ → Machine → Option TaskState → Machines → Machines
with_machine h x task m =
    record { memory = x.image; hosts = changed_at h (λ host. record host { cache = x.cache; task = task }) m.hosts }

-- a host's machine, its task and what it keeps are these now
abbrev pub with_parts : ℕ → Machine → Option TaskState → Option Kept → Machines → Machines
with_parts h x task kept m =
    record { memory = x.image; hosts = changed_at h (λ host. record host { cache = x.cache; task = task; kept = kept }) m.hosts }

-- the media failed, and has this image now; the caches are as before
abbrev pub with_memory : Image → Machines → Machines
with_memory image m = record m { memory = image }

-- a host keeps this now
abbrev pub with_kept : ℕ → Option Kept → Machines → Machines
with_kept h kept m = record m { hosts = changed_at h (λ host. record host { kept = kept }) m.hosts }

-- a host's task is this one now
abbrev pub with_task : ℕ → Option TaskState → Machines → Machines
with_task h task m = record m { hosts = changed_at h (λ host. record host { task = task }) m.hosts }

-- How an operation comes out.

-- the media serves it; or fails, so
pub data Outcome : Type 0 where
  Passes : Outcome
  Fails : (through : Breaking) → Outcome

-- what is noted, and what is left
pub record Done : Type 0 where
  pub notes : List Note
  pub left : Machines

-- One operation of a host's task, by the table of operations.

-- the operation that comes next, on an image of so many lines
abbrev pub next_op : TaskState → ℕ → Option Op
next_op t lines = option_map (λ (r : Row). r.op) (slice_get (table t.kept t.cmd t.me lines t.words) t.made)

-- what comes with it: the table is made of the words that the loads gave, this one's with them
abbrev pub next_note : TaskState → ℕ → Option ℕ → Option row.RowNote
next_note t lines word = option_map (λ (r : Row). r.note) (slice_get (table t.kept t.cmd t.me lines (with_given t.words word)) t.made)

-- the task, one operation on
abbrev pub task_on : TaskState → Option ℕ → TaskState
task_on t word = record t { words = with_given t.words word; made = t.made + 1 }

-- the task after what comes with the operation: an answer ends it
abbrev pub task_behind : row.RowNote → TaskState → Option TaskState
task_behind row.Quiet t = Some t
task_behind row.Mark t = Some t
task_behind (row.Found n) t = Some t
task_behind (row.Writing seq e) t = Some t
task_behind (row.Answer reply) t = None

-- what the host of a task keeps then, of the log that the task has read: the words tell it
abbrev pub host_keeps : row.RowNote → TaskState → ℕ → Option Kept → Option Kept
host_keeps note t lines kept = kept_behind note (read_told t.kept t.cmd t.words lines) kept

-- what the journal has of it
abbrev pub notes_of : ℕ → row.RowNote → List Note
notes_of h row.Quiet = []
notes_of h row.Mark = Mark h ∷ []
notes_of h (row.Found n) = Found h n ∷ []
notes_of h (row.Writing seq e) = Writes h seq e ∷ []
notes_of h (row.Answer reply) = Answered h (Replied reply) ∷ []

-- the media served the operation
abbrev pub served : ℕ → Machines → HostState → TaskState → Op → Option row.RowNote → Option Done
served h m host t op None = None
served h m host t op (Some note) =
    let on = task_on t (given op (machine_of m host)) in
    Some (record { notes = notes_of h note; left = with_parts h (operated op (machine_of m host)) (task_behind note on) (host_keeps note on (length m.memory) host.kept) m })

-- the media failed in it, and left this: the task is gone. None: it asks nothing of memory
abbrev pub cut_task : ℕ → Machines → Option Failure → Option Done
cut_task h m None = None
cut_task h m (Some failure) =
    Some (record { notes = Answered h (MediaFault failure.line.0) ∷ []; left = with_machine h failure.left None m })

-- the operation that a task does next comes out so, where there is one
abbrev pub op_done : Outcome → ℕ → Machines → HostState → TaskState → Option Op → Option Done
op_done outcome h m host t None = None
op_done Passes h m host t (Some op) = served h m host t op (next_note t (length m.memory) (given op (machine_of m host)))
op_done (Fails through) h m host t (Some op) = cut_task h m (failed through op (machine_of m host))

-- a host's task does its next operation, where it has one
abbrev pub task_done : Outcome → ℕ → Machines → HostState → Option TaskState → Option Done
task_done outcome h m host None = None
task_done outcome h m host (Some t) = op_done outcome h m host t (next_op t (length m.memory))

-- a declared host does the next operation of its task
abbrev pub host_done : Outcome → ℕ → Machines → Option HostState → Option Done
host_done outcome h m None = None
host_done outcome h m (Some host) = task_done outcome h m host host.task

-- one operation of host h, with this outcome. None: the host has no task, or the operation can't come out so
unfoldable pub operation : Outcome → ℕ → Machines → Option Done
operation outcome h m = host_done outcome h m (slice_get m.hosts h)

-- an operation, with some outcome
pub record Operation (h : ℕ) (old : Machines) (notes : List Note) (new : Machines) : Type 0 where
  pub outcome : Outcome
  pub is : operation outcome h old ≡ Some (record { notes = notes; left = new })
