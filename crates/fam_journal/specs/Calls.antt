-- The calls of the world, and what each of them does on the machine of all hosts: a row for each, by the first refusal.
use Prim.Native.Nat.{zero, suc}
use Rattle.std.specs.Prelude.{ℕ, ⊤, ◌≡◌, ◌⊎◌, ◌+◌, ◌*◌, ◌==◌, ◌&&◌, ◌||◌, not, nat_le, nat_lt, if◌then◌else◌, Bool, true, false, List, [], ◌∷◌, ◌++◌, length, slice_get, Option, Some, None, IsTrue, is_some, option_map, Ok}
use Rattle.std.specs.FinMap as map
use Rattle.fam_base.specs.declared.cmd.Cmd.{Cmd}
use Rattle.fam_base.specs.declared.entry.Params.{Params}
use Rattle.fam_base.specs.PathOrder.{path_eq}
use Rattle.fam_commands.specs.Classes.{is_mount}
use Rattle.fam_format.specs.Layout.{least_lines}
use Rattle.fam_format.specs.Params.{IsUuid, is_format}
use Rattle.fam_format.specs.Stop.{or_else}
use Rattle.fam_base.specs.declared.line.LineNo.{LineNo}
use Rattle.fam_machine.specs.declared.request.MkfsRequest.{MkfsRequest}
use Rattle.fam_machine.specs.Caches.{dirty_count}
use Rattle.fam_machine.specs.Operations.{Machine, machine, operated_all}
use Rattle.fam_rules.specs.Place.{line_bytes}
use Rattle.fam_journal.specs.declared.refusal.Refusal.{Refusal}
use Rattle.fam_journal.specs.declared.refusal.Refusal.TheVariants as why
use Rattle.fam_machine.specs.HostMoves.{Move, move_failed, moved}
use Rattle.fam_machine.specs.Cuts.{Cuts}
use Rattle.fam_journal.specs.Machines.{HostState, Machines, Operation, machine_of, task_begun, with_kept, with_parts, with_machine, with_memory, with_task}
use Rattle.fam_journal.specs.Members.{index_of}
use Rattle.fam_machine.specs.Mkfs as early
use Rattle.fam_machine.specs.Mkfs.{EarlyRefusal, asked, expected_ops, early_refusal, superblock_found, goes_on, halted_ops, mkfs_ops, read_ops}
use Rattle.fam_journal.specs.Notes.{Note, Host, Made, Cut, Start, Stop, Halt, Umount, Refused}
use Rattle.fam_journal.specs.RefusalClasses.{RefusalClass, refusal_class, AtOnce, ByHost, ByImage, BySource, ByFault}

-- what the world is asked for, of the host of a name
pub data Call : Type 0 where
  Declares : (name uuid : List ℕ) → Call
  Makes : (name : List ℕ) (request : MkfsRequest) → Call
  Begins : (name : List ℕ) (cmd : Cmd) → Call
  Steps : (name : List ℕ) → Call
  Finishes : (name : List ℕ) → Call
  Stops : (name : List ℕ) → Call
  Halts : (name : List ℕ) → Call
  Umounts : (name : List ℕ) → Call
  Moves : (name : List ℕ) (line : ℕ) (move : Move) → Call
  Refuses : (name : List ℕ) (cause : Refusal) → Call

-- a mkfs is asked for a UUID, and for a format that there is
pub record IsSoundRequest (request : MkfsRequest) : Type 0 where
  pub fs : IsUuid request.fs
  pub format : IsTrue (is_format request.format)

-- the host that is asked
abbrev pub asked_name : Call → List ℕ
asked_name (Declares name uuid) = name
asked_name (Makes name request) = name
asked_name (Begins name cmd) = name
asked_name (Steps name) = name
asked_name (Finishes name) = name
asked_name (Stops name) = name
asked_name (Halts name) = name
asked_name (Umounts name) = name
asked_name (Moves name line move) = name
asked_name (Refuses name cause) = name

-- Refusals, in the order in which they are tried.

-- a name is told by its bytes, and so is a UUID
abbrev pub has_name : List ℕ → HostState → Bool
has_name name host = path_eq host.name name

-- the number of the host of a name
abbrev pub number_of : List ℕ → Machines → Option ℕ
number_of name m = index_of (has_name name) m.hosts

-- the host has a task
abbrev pub is_busy : HostState → Bool
is_busy host = is_some host.task

-- the host has a task or keeps something of the log: no file system is made meanwhile
abbrev pub is_engaged : HostState → Bool
is_engaged host = is_some host.task || is_some host.kept

-- host h is declared and has a task
abbrev pub is_busy_host : Option HostState → Bool
is_busy_host None = false
is_busy_host (Some host) = is_busy host

-- host h is declared and has a task, as a test
abbrev pub busy_at : ℕ → Machines → Bool
busy_at h m = is_busy_host (slice_get m.hosts h)

-- host h is declared and keeps something of the log
abbrev pub is_kept_host : Option HostState → Bool
is_kept_host None = false
is_kept_host (Some host) = is_some host.kept

-- host h is declared and keeps something of the log, as a test
abbrev pub keeps_at : ℕ → Machines → Bool
keeps_at h m = is_kept_host (slice_get m.hosts h)

-- the most hosts of a run
abbrev pub host_limit : ℕ
host_limit = 64

-- an earlier host of this name or this UUID
abbrev pub is_same : List ℕ → List ℕ → HostState → Bool
is_same name uuid host = path_eq host.name name || path_eq host.uuid uuid

-- an earlier host has the name or the UUID
abbrev pub same_refusal : Option ℕ → Option Refusal
same_refusal None = None
same_refusal (Some h) = Some (why.SameHost (record { 0 = h }))

-- this host has a task, or where a file system is to be made keeps something
abbrev pub busy_refusal : Option ℕ → Option Refusal
busy_refusal None = None
busy_refusal (Some h) = Some (why.Busy (record { 0 = h }))

-- this host has a line that memory may lack
abbrev pub dirty_refusal : Option ℕ → Option Refusal
dirty_refusal None = None
dirty_refusal (Some h) = Some (why.Dirty (record { 0 = h }))

-- a cause where a test passes
abbrev pub when : Bool → Refusal → Option Refusal
when true cause = Some cause
when false cause = None

-- the first host other than the maker that has a dirty line; hosts are counted from i
abbrev pub dirty_from : ℕ → ℕ → List HostState → Option ℕ
dirty_from maker i [] = None
dirty_from maker i (host ∷ hosts) =
    if not (i == maker) && nat_lt 0 (dirty_count host.cache) then Some i else dirty_from maker (i + 1) hosts

-- what is refused of the numbers, as a cause
abbrev pub cause_of : EarlyRefusal → Refusal
cause_of (early.BadGeometry unit log) = why.BadGeometry unit log
cause_of (early.TooSmall needed have) = why.TooSmall needed have

-- before any operation of making a file system, for the maker's number: the numbers, and then the hosts
abbrev pub makes_refusal : ℕ → ℕ → ℕ → Machines → Option Refusal
makes_refusal unit log h m =
    or_else (option_map cause_of (early_refusal unit log (line_bytes * length m.memory)))
    (or_else (busy_refusal (index_of is_engaged m.hosts)) (dirty_refusal (dirty_from h 0 m.hosts)))

-- what may be asked of a declared host
abbrev pub on_host : Option ℕ → (ℕ → Option Refusal) → Option Refusal
on_host None next = Some why.NoHost
on_host (Some h) next = next h

-- a command may begin, a mount or another one: the image has a gate, and the host no task; and where a mount begins the
-- host keeps nothing of the log
abbrev pub begins_refusal : ℕ → Bool → Machines → Option Refusal
begins_refusal h mount m =
    or_else (when (nat_lt (length m.memory) least_lines) (why.ImageSmall (length m.memory)))
    (or_else (when (busy_at h m) (why.Busy (record { 0 = h }))) (when (mount && keeps_at h m) why.Mounted))

-- by a host's name: why a mount, or another command, may not begin there
abbrev pub may_begin : List ℕ → Bool → Machines → Option Refusal
may_begin name mount m = on_host (number_of name m) (λ h. begins_refusal h mount m)

-- the host has no task
abbrev pub idle_refusal : ℕ → Machines → Option Refusal
idle_refusal h m = when (not (busy_at h m)) why.Idle

-- the host has a task, or keeps nothing that it could forget
abbrev pub umounts_refusal : ℕ → Machines → Option Refusal
umounts_refusal h m = or_else (when (busy_at h m) (why.Busy (record { 0 = h }))) (when (not (keeps_at h m)) why.NotMounted)

-- the image has no such line
abbrev pub line_refusal : ℕ → Machines → Option Refusal
line_refusal line m = when (nat_le (length m.memory) line) (why.NoLine line (length m.memory))

-- the first refusal of a call, or none
unfoldable pub refusal_of : Call → Machines → Option Refusal
refusal_of (Declares name uuid) m =
    or_else (same_refusal (index_of (is_same name uuid) m.hosts)) (when (nat_le host_limit (length m.hosts)) why.TooManyHosts)
refusal_of (Makes name request) m = on_host (number_of name m) (λ h. makes_refusal request.unit request.log h m)
refusal_of (Begins name cmd) m = on_host (number_of name m) (λ h. begins_refusal h (is_mount cmd) m)
refusal_of (Steps name) m = on_host (number_of name m) (λ h. idle_refusal h m)
refusal_of (Finishes name) m = on_host (number_of name m) (λ h. idle_refusal h m)
refusal_of (Stops name) m = on_host (number_of name m) (λ h. idle_refusal h m)
refusal_of (Halts name) m = on_host (number_of name m) (λ h. None)
refusal_of (Umounts name) m = on_host (number_of name m) (λ h. umounts_refusal h m)
refusal_of (Moves name line move) m = on_host (number_of name m) (λ h. line_refusal line m)
refusal_of (Refuses name cause) m = None

-- Causes that are handed in: what an ask's source comes to, or that nothing may begin.

-- a cause that a source has: there is none of this name, it is too long, or no listing; by the class of the refusal
abbrev pub IsOfSourceIn : RefusalClass → Type 0
IsOfSourceIn AtOnce = ⊥
IsOfSourceIn (ByHost host) = ⊥
IsOfSourceIn ByImage = ⊥
IsOfSourceIn BySource = ⊤
IsOfSourceIn (ByFault at) = ⊥

-- so of a refusal, by its class
abbrev pub IsOfSource : Refusal → Type 0
IsOfSource cause = IsOfSourceIn (refusal_class cause)

-- a refusal that may be handed in: a source's, or that of a host that may not begin a mount or another command
abbrev pub MayBeRefused : List ℕ → Refusal → Machines → Type 0
MayBeRefused name cause m = IsOfSource cause ⊎ ((mount : Bool) × (may_begin name mount m ≡ Some cause))

-- Rows.

-- so many operations of host h, fewer where its task answers
abbrev pub DoesOperations : ℕ → ℕ → Machines → List Note → Machines → Type 0
DoesOperations h zero old notes new = (notes ≡ []) × (new ≡ old)
DoesOperations h (suc n) old notes new =
    ((busy_at h old ≡ false) × (notes ≡ []) × (new ≡ old)) ⊎ ((busy_at h old ≡ true) × (mid : Machines) × (first : List Note) × (rest : List Note) × Operation h old first mid × DoesOperations h n mid rest new × (notes ≡ first ++ rest))

-- operations up to the answer
pub record Completes (h : ℕ) (old : Machines) (notes : List Note) (new : Machines) : Type 0 where
  pub count : ℕ
  pub does : DoesOperations h count old notes new
  pub done : busy_at h new ≡ false

-- some operations, of which none is the answer: the task runs on
pub record Unfinished (h : ℕ) (old : Machines) (notes : List Note) (new : Machines) : Type 0 where
  pub count : ℕ
  pub does : DoesOperations h count old notes new
  pub runs : busy_at h new ≡ true

-- of a declared host
abbrev pub OnHost : Option HostState → (HostState → Type 0) → Type 0
OnHost None P = ⊥
OnHost (Some host) P = P host

-- so it is of host h, which is declared
abbrev pub AtHost : ℕ → Machines → (HostState → Type 0) → Type 0
AtHost h m P = OnHost (slice_get m.hosts h) P

-- a file system is made, by all 81 operations
pub record MakesFileSystem (h : ℕ) (p : Params) (force : Bool) (host : HostState) (old : Machines) (notes : List Note) (new : Machines) : Type 0 where
  pub free : goes_on force (superblock_found p (machine_of old host)) ≡ true
  pub notes_are : notes ≡ Made h p ∷ []
  pub left : new ≡ with_machine h (operated_all (mkfs_ops p) (machine_of old host)) host.task old

-- the maker halts after so many operations: what these leave in memory stays, and its cache is lost
pub record HaltsMaking (h : ℕ) (p : Params) (force : Bool) (k : ℕ) (host : HostState) (old : Machines) (notes : List Note) (new : Machines) : Type 0 where
  pub free : goes_on force (superblock_found p (machine_of old host)) ≡ true
  pub notes_are : notes ≡ Cut h k ∷ []
  pub left : new ≡ with_machine h (machine (operated_all (halted_ops k p) (machine_of old host)).image map.empty) host.task old

-- by after how many operations the maker halts. None: it does all
abbrev pub MakesOrHalts : Option ℕ → ℕ → Params → Bool → HostState → Machines → List Note → Machines → Type 0
MakesOrHalts None h p force host old notes new = MakesFileSystem h p force host old notes new
MakesOrHalts (Some k) h p force host old notes new = HaltsMaking h p force k host old notes new

-- a mkfs that isn't forced meets a superblock, and is refused: the 27 operations that read were done
pub record Meets (h : ℕ) (p : Params) (force : Bool) (name : List ℕ) (host : HostState) (old : Machines) (notes : List Note) (new : Machines) : Type 0 where
  pub unforced : force ≡ false
  pub other : Params
  pub stands : superblock_found p (machine_of old host) ≡ Ok other
  pub notes_are : notes ≡ Refused name (why.HasSuper other.fs) ∷ []
  pub left : new ≡ with_machine h (operated_all read_ops (machine_of old host)) host.task old

-- the media failed in one of the operations that are expected
pub record MakesCut (h : ℕ) (p : Params) (force : Bool) (halt : Option ℕ) (name : List ℕ) (host : HostState) (old : Machines) (notes : List Note) (new : Machines) : Type 0 where
  pub line : LineNo
  pub left : Machine
  pub cuts : Cuts (expected_ops force halt p (machine_of old host)) (machine_of old host) line left
  pub notes_are : notes ≡ Refused name (why.MediaFault line) ∷ []
  pub left_is : new ≡ with_machine h left host.task old

-- a cache moved; or the media failed in it
pub record Moved (h line : ℕ) (move : Move) (host : HostState) (old : Machines) (notes : List Note) (new : Machines) : Type 0 where
  pub notes_are : notes ≡ []
  pub left : new ≡ with_machine h (moved move line (machine_of old host)) host.task old

-- the media failed in a cache's move, after some of its words were sent
pub record MoveFails (h line : ℕ) (move : Move) (name : List ℕ) (host : HostState) (old : Machines) (notes : List Note) (new : Machines) : Type 0 where
  pub through : ℕ
  pub image : Rattle.fam_base.specs.Image.Image
  pub fails : move_failed move line through (machine_of old host) ≡ Some image
  pub notes_are : notes ≡ Refused name (why.MediaFault (record { 0 = line })) ∷ []
  pub left : new ≡ with_memory image old

-- what a call does that isn't refused, and after which the run goes on
abbrev pub ActsAt : Call → ℕ → HostState → Machines → List Note → Machines → Type 0
ActsAt (Declares name uuid) h host old notes new = ⊥
ActsAt (Makes name request) h host old notes new =
    MakesOrHalts request.halt h (asked request host.uuid (length old.memory)) request.force host old notes new ⊎ Meets h (asked request host.uuid (length old.memory)) request.force name host old notes new
ActsAt (Begins name cmd) h host old notes new =
    (notes ≡ Start h cmd ∷ []) × (new ≡ with_task h (Some (task_begun host.kept cmd host.uuid)) old)
ActsAt (Steps name) h host old notes new = Operation h old notes new
ActsAt (Finishes name) h host old notes new = Completes h old notes new
ActsAt (Stops name) h host old notes new = (notes ≡ Stop h ∷ []) × (new ≡ with_task h None old)
ActsAt (Halts name) h host old notes new =
    (notes ≡ Halt h ∷ []) × (new ≡ with_parts h (record { image = old.memory; cache = map.empty }) None None old)
ActsAt (Umounts name) h host old notes new = (notes ≡ Umount h ∷ []) × (new ≡ with_kept h None old)
ActsAt (Moves name line move) h host old notes new = Moved h line move host old notes new ⊎ MoveFails h line move name host old notes new
ActsAt (Refuses name cause) h host old notes new = ⊥

-- of the host of this number
abbrev pub AtNumber : Option ℕ → Machines → (ℕ → HostState → Type 0) → Type 0
AtNumber None m P = ⊥
AtNumber (Some h) m P = AtHost h m (P h)

-- what a call does of the host that it names
abbrev pub ActsOf : Call → Machines → List Note → Machines → Type 0
ActsOf call old notes new = AtNumber (number_of (asked_name call) old) old (λ h host. ActsAt call h host old notes new)

-- what a call does that isn't refused, and after which the run goes on; a host is declared behind the others
abbrev pub Acts : Call → Machines → List Note → Machines → Type 0
Acts (Declares name uuid) old notes new =
    (notes ≡ Host name uuid ∷ []) × (new ≡ record old { hosts = old.hosts ++ record { name = name; uuid = uuid; cache = map.empty; task = None; kept = None } ∷ [] })
Acts (Refuses name cause) old notes new = (notes ≡ Refused name cause ∷ []) × (new ≡ old) × MayBeRefused name cause old
Acts (Makes name request) old notes new = ActsOf (Makes name request) old notes new
Acts (Begins name cmd) old notes new = ActsOf (Begins name cmd) old notes new
Acts (Steps name) old notes new = ActsOf (Steps name) old notes new
Acts (Finishes name) old notes new = ActsOf (Finishes name) old notes new
Acts (Stops name) old notes new = ActsOf (Stops name) old notes new
Acts (Halts name) old notes new = ActsOf (Halts name) old notes new
Acts (Umounts name) old notes new = ActsOf (Umounts name) old notes new
Acts (Moves name line move) old notes new = ActsOf (Moves name line move) old notes new

-- a refused call leaves its note, and nothing else
abbrev pub ByRefusal : List ℕ → Option Refusal → List Note → Machines → Machines → Type 0 → Type 0
ByRefusal name (Some cause) notes old new acts = (notes ≡ Refused name cause ∷ []) × (new ≡ old)
ByRefusal name None notes old new acts = acts

-- what a call does after which the run goes on
abbrev pub Does : Call → Machines → List Note → Machines → Type 0
Does call old notes new = ByRefusal (asked_name call) (refusal_of call old) notes old new (Acts call old notes new)

-- making a file system is cut by a media fault: nothing goes on behind it
abbrev pub CutsAt : Call → ℕ → HostState → Machines → List Note → Machines → Type 0
CutsAt (Makes name request) h host old notes new = MakesCut h (asked request host.uuid (length old.memory)) request.force request.halt name host old notes new
CutsAt (Declares name uuid) h host old notes new = ⊥
CutsAt (Begins name cmd) h host old notes new = ⊥
CutsAt (Steps name) h host old notes new = ⊥
CutsAt (Finishes name) h host old notes new = ⊥
CutsAt (Stops name) h host old notes new = ⊥
CutsAt (Halts name) h host old notes new = ⊥
CutsAt (Umounts name) h host old notes new = ⊥
CutsAt (Moves name line move) h host old notes new = ⊥
CutsAt (Refuses name cause) h host old notes new = ⊥

-- a call that isn't refused at once is cut by a media fault, behind which nothing goes on
abbrev pub CutCall : Call → Machines → List Note → Machines → Type 0
CutCall call old notes new =
    (refusal_of call old ≡ None) × AtNumber (number_of (asked_name call) old) old (λ h host. CutsAt call h host old notes new)
