-- A small scene for samples: host 0, `m`, is the master of a file system that it made, and host 1, `c`, is a client.
use Rattle.std.specs.Prelude.{ℕ, false, List, [], ◌∷◌, ◌++◌, codes, replicate, Option, Some, None}
use Rattle.std.specs.FinMap as finmap
use Rattle.fam_base.specs.declared.cmd.Cmd.{Cmd}
use Rattle.fam_base.specs.declared.cmd.Cmd.TheVariants.{Mkdir}
use Rattle.fam_base.specs.declared.entry.Entry.{Entry}
use Rattle.fam_base.specs.declared.entry.Kind.TheVariants.{Directory}
use Rattle.fam_base.specs.declared.entry.MapKind.TheVariants.{Empty}
use Rattle.fam_base.specs.declared.entry.Params.{Params}
use Rattle.fam_base.specs.Image.{Image}
use Rattle.fam_format.specs.Tree.{Tree, replay}
use Rattle.fam_rules.specs.declared.answers.LogState.{LogState}
use Rattle.fam_rules.specs.declared.answers.Report.{Report}
use Rattle.fam_rules.specs.declared.answers.SuperState.TheVariants as superblock
use Rattle.fam_rules.specs.Asks.{File}
use Rattle.fam_rules.specs.Reply.{Reply}
use Rattle.fam_journal.specs.declared.event.Ask.TheVariants as ask
use Rattle.fam_journal.specs.declared.event.Event.{Event}
use Rattle.fam_journal.specs.declared.event.Event.TheVariants as event
use Rattle.fam_journal.specs.declared.refusal.Refusal.TheVariants as why
use Rattle.fam_journal.specs.Events.{Session}
use Rattle.fam_journal.specs.Shapes.{HostShape, shapes_after}
use Rattle.fam_journal.specs.Machines.{HostState, Machines, TaskState, task_begun}
use Rattle.fam_journal.specs.Notes.{Note, Host, Made, Cut, Start, Mark, Found, Writes, Answered, Halt, Refused, Replied}
use Rattle.fam_journal.specs.Past.{Bad, Damage, Given, Past, State, new_host, past_of}
use Rattle.fam_machine.specs.MkfsRequest.{mkfs_request}

-- a UUID of zeros and this last byte
abbrev pub uuid : ℕ → List ℕ
uuid n = 0 ∷ 0 ∷ 0 ∷ 0 ∷ 0 ∷ 0 ∷ 0 ∷ 0 ∷ 0 ∷ 0 ∷ 0 ∷ 0 ∷ 0 ∷ 0 ∷ 0 ∷ n ∷ []

-- the UUID of the host that may append
abbrev pub master : List ℕ
master = uuid 1

-- the UUID of another host
abbrev pub client_uuid : List ℕ
client_uuid = uuid 2

-- units of 4 KiB and a log of 64 KiB on 4 MiB: 127 slots
abbrev pub params : Params
params = record { format = 1; log_length = 65536; slots = 127; unit = 4096; device = 4194304; fs = uuid 255; master = master }

-- a directory of this name is to be made
abbrev pub mkdir : List ℕ → Cmd
mkdir path = Mkdir path (record { mode = 493; uid = 0; gid = 0 })

-- its entry, which has no bytes
abbrev pub folder : List ℕ → Entry
folder path = record { kind = Directory; path = path; size = 0; mode = 493; uid = 0; gid = 0; map = Empty; extents = [] }

-- a file that holds no bytes, under a path
abbrev pub held : List ℕ → File
held path = record { entry = folder path; bytes = [] }

-- the path x
abbrev pub x : List ℕ
x = codes "x"

-- the path y
abbrev pub y : List ℕ
y = codes "y"

-- a path of so many bytes
unfoldable pub long : ℕ → List ℕ
long n = replicate n 97

-- a tree of one directory, and one of none
abbrev pub small_tree : List ℕ → Tree
small_tree path = replay (folder path ∷ [])

-- a tree with no entry
abbrev pub no_tree : Tree
no_tree = finmap.empty

-- Journals. The image that was handed in has no line, so that nothing but notes tells what is settled.

-- two hosts, and a new file system
abbrev pub made : List Note
made = Host (codes "m") master ∷ Host (codes "c") client_uuid ∷ Made 0 params ∷ []

-- two hosts, and a new file system of the second format
abbrev pub made_second : List Note
made_second = Host (codes "m") master ∷ Host (codes "c") client_uuid ∷ Made 0 (record params { format = 2; slots = 63 }) ∷ []

-- the master has found no entry, and is about to decide
abbrev pub found : List Note
found = made ++ Start 0 (mkdir x) ∷ Mark 0 ∷ Found 0 0 ∷ []

-- its entry is pending
abbrev pub writing : List Note
writing = found ++ Writes 0 0 (folder x) ∷ []

-- its entry is acknowledged
abbrev pub done : List Note
done = writing ++ Answered 0 (Replied (Rattle.fam_rules.specs.Reply.Appended 0)) ∷ []

-- what some notes tell, from an image without lines
abbrev pub notes_tell : List Note → Past
notes_tell journal = past_of [] journal

-- the state that they tell
abbrev pub state_behind : List Note → State
state_behind journal = (notes_tell journal).state

-- an image without history, of two hosts
abbrev pub damaged : Damage → ℕ → Past
damaged damage gate =
    record { start = []; state = Bad (Given []) damage gate; hosts = new_host (codes "m") master ∷ new_host (codes "c") client_uuid ∷ [] }

-- an image on which the maker of a file system halted after so many operations
abbrev pub cut_off : ℕ → Past
cut_off k = notes_tell (writing ++ Halt 0 ∷ Cut 0 k ∷ [])

-- A report.

-- a report of this log, all else sound and empty
abbrev pub report_of_log : LogState → Report
report_of_log log = record {
  superblock = superblock.Sound;
  log = log;
  files = 0;
  directories = 1;
  used = 528;
  free = 496;
  overlap = None;
  bad = None;
  past = 126;
}

-- Machines.

-- a declared host with an empty cache, and this task
abbrev pub host_m : Option TaskState → HostState
host_m task = record { name = codes "m"; uuid = master; cache = finmap.empty; task = task; kept = None }

-- host `m` alone, without a task, which has mounted an empty log
abbrev pub mounted_host : Image → Machines
mounted_host image = record { memory = image; hosts = record (host_m None) { kept = Some (record { params = params; entries = [] }) } ∷ [] }

-- an image of one line of zeros
abbrev pub one_line : Image
one_line = (0 ∷ 0 ∷ 0 ∷ 0 ∷ 0 ∷ 0 ∷ 0 ∷ 0 ∷ []) ∷ []

-- host `m` alone
abbrev pub one_host : Image → Option TaskState → Machines
one_host image task = record { memory = image; hosts = host_m task ∷ [] }

-- it is to make a directory, and has done nothing yet
abbrev pub beginning : TaskState
beginning = task_begun None (mkdir x) master

-- a machine, of whose sources nothing was read
abbrev pub unread_session : Machines → Session
unread_session machines = record { machines = machines; copied = 0 }

-- A script of ten events on an image without lines, and its notes.

-- ten events of two hosts
abbrev pub ten_events : List Event
ten_events =
    event.Run (codes "q") (ask.Cp (codes "s") (codes "t") (record { mode = 420; uid = 0; gid = 0 }) None)
    ∷ event.Host (codes "m") master
    ∷ event.Host (codes "q") master
    ∷ event.Run (codes "m") (ask.Cp (codes "s") (codes "t") (record { mode = 420; uid = 0; gid = 0 }) None)
    ∷ event.Step (codes "m") 5
    ∷ event.Finish (codes "m")
    ∷ event.Evict (codes "m") (record { 0 = 0 })
    ∷ event.Halt (codes "m")
    ∷ event.Mkfs (codes "m") (mkfs_request (uuid 255) 5000 8388608 1 false None)
    ∷ event.Mkfs (codes "m") (mkfs_request (uuid 255) 4096 65536 1 false None) ∷ []

-- the notes that they come to
abbrev pub ten_notes : List Note
ten_notes =
    Refused (codes "q") why.NoHost
    ∷ Host (codes "m") master
    ∷ Refused (codes "q") (why.SameHost (record { 0 = 0 }))
    ∷ Refused (codes "m") (why.ImageSmall 0)
    ∷ Refused (codes "m") why.Idle
    ∷ Refused (codes "m") why.Idle
    ∷ Refused (codes "m") (why.NoLine 0 0)
    ∷ Halt 0
    ∷ Refused (codes "m") (why.BadGeometry 5000 8388608)
    ∷ Refused (codes "m") (why.TooSmall 2166784 0) ∷ []

-- What notes tell of host m alone: it is idle; or has begun a command.

-- host m, idle
abbrev pub shape_m : HostShape
shape_m = record { name = codes "m"; uuid = master; task = None; keeps = false }

-- host m alone, idle
abbrev pub idle_m : List HostShape
idle_m = shape_m ∷ []

-- host m alone, with a command that has just begun
abbrev pub running_m : Cmd → List HostShape
running_m cmd = shapes_after idle_m (Start 0 cmd)
