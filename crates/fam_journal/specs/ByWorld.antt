-- What a world tells by itself: the first refusal of a call, and all that a call makes of it that takes no media.
use Rattle.std.specs.Prelude.{replicate, ℕ, ⊤, ◌≡◌, ◌⊎◌, Bool, List, [], ◌∷◌, ◌++◌, map, Option, Some, None}
use Rattle.std.specs.FinMap as map_of_lines
use Rattle.fam_commands.specs.Task.{Task, mounted}
use Rattle.fam_journal.specs.Calls as call
use Rattle.fam_base.specs.declared.cmd.Cmd.{Cmd}
use Rattle.fam_base.specs.declared.cmd.Cmd.TheVariants.{Logplay}
use Rattle.fam_journal.specs.declared.refusal.Refusal.{Refusal}
use Rattle.fam_journal.specs.Calls.{refusal_of, Call, Does, IsOfSource, busy_at, asked_name, number_of}
use Rattle.fam_journal.specs.Machines.{task_begun, HostState, Machines, TaskState}
use Rattle.fam_journal.specs.Members.{changed_at}
use Rattle.fam_journal.specs.Notes.{Note, Host, Start, Stop, Halt, Umount, Refused}
use Rattle.fam_journal.specs.View.{HostView, WorldView, WorldStands}

-- What a world's own hosts show of a refusal: names, UUIDs, caches, and who has a task. On an image of so many lines.

-- a task that runs shows that it runs, and nothing more
abbrev pub shown_task : Option Task → Option TaskState
shown_task None = None
shown_task (Some t) = Some (task_begun None Logplay [])

-- a host as refusals see it: whose it is, its cache, whether it has a task, and what it keeps
abbrev pub shown_host : HostView → HostState
shown_host view = record { name = view.name; uuid = view.uuid; cache = view.cache; task = shown_task view.task; kept = view.kept }

-- a world as refusals see it, over a memory of so many lines
abbrev pub shown_state : WorldView → ℕ → Machines
shown_state world lines = record { memory = replicate lines []; hosts = map shown_host world.hosts }

-- the first refusal of a call, as the world alone has it: modelled or not, the media's number of lines is enough
abbrev pub refusal_in : Call → WorldView → ℕ → Option Refusal
refusal_in c world lines = refusal_of c (shown_state world lines)

-- Calls that take no media: what they make of the world is told by the world alone.

-- the number of the host of this name, or none
abbrev pub number_in : List ℕ → WorldView → Option ℕ
number_in name world = number_of name (shown_state world 0)

-- whether the host of a number has a task
abbrev pub busy_in : ℕ → WorldView → Bool
busy_in h world = busy_at h (shown_state world 0)

-- a world with these notes behind its own
abbrev pub with_notes : List Note → WorldView → WorldView
with_notes notes world = record world { journal = world.journal ++ notes }

-- one host changes, and this is noted
abbrev pub with_host : Option ℕ → (HostView → HostView) → (ℕ → Note) → WorldView → WorldView
with_host None change note world = world
with_host (Some h) change note world = record { hosts = changed_at h change world.hosts; journal = world.journal ++ note h ∷ [] }

-- the world behind a call that isn't refused and takes no media
abbrev pub acted : Call → ℕ → WorldView → WorldView
acted (call.Declares name uuid) lines world =
    record { hosts = world.hosts ++ record { name = name; uuid = uuid; cache = map_of_lines.empty; task = None; kept = None } ∷ []; journal = world.journal ++ Host name uuid ∷ [] }
acted (call.Makes name request) lines world = world
acted (call.Begins name cmd) lines world =
    with_host (number_in name world) (λ v. record v { task = Some (mounted v.kept cmd v.uuid lines) }) (λ h. Start h cmd) world
acted (call.Steps name) lines world = world
acted (call.Finishes name) lines world = world
acted (call.Stops name) lines world = with_host (number_in name world) (λ v. record v { task = None }) Stop world
acted (call.Halts name) lines world = with_host (number_in name world) (λ v. record v { cache = map_of_lines.empty; task = None; kept = None }) Halt world
acted (call.Umounts name) lines world = with_host (number_in name world) (λ v. record v { kept = None }) Umount world
acted (call.Moves name line move) lines world = world
acted (call.Refuses name cause) lines world = with_notes (Refused name cause ∷ []) world

-- the world behind a call that takes no media: with its refusal noted, or with what it does
abbrev pub acted_by : Option Refusal → Call → ℕ → WorldView → WorldView
acted_by (Some cause) c lines world = with_notes (Refused (asked_name c) cause ∷ []) world
acted_by None c lines world = acted c lines world

-- the world after such a call, on an image of so many lines
abbrev pub world_after : Call → ℕ → WorldView → WorldView
world_after c lines world = acted_by (refusal_in c world lines) c lines world

-- these calls take none; a cause that is handed in is one of a source, or what keeps some command from beginning
abbrev pub TakesNoMedia : Call → ℕ → WorldView → Type 0
TakesNoMedia (call.Declares name uuid) lines world = ⊤
TakesNoMedia (call.Makes name request) lines world = ⊥
TakesNoMedia (call.Begins name cmd) lines world = ⊤
TakesNoMedia (call.Steps name) lines world = ⊥
TakesNoMedia (call.Finishes name) lines world = ⊥
TakesNoMedia (call.Stops name) lines world = ⊤
TakesNoMedia (call.Halts name) lines world = ⊤
TakesNoMedia (call.Umounts name) lines world = ⊤
TakesNoMedia (call.Moves name line move) lines world = ⊥
TakesNoMedia (call.Refuses name cause) lines world =
    IsOfSource cause ⊎ ((cmd : Cmd) × (refusal_in (call.Begins name cmd) world lines ≡ Some cause))

-- so it is what the call's row says, of the state that the world stands for
pub record IsCallRow (c : Call) (lines : ℕ) (state : Machines) (old new : WorldView) : Type 0 where
  pub left : Machines
  pub notes : List Note
  pub row : Does c state notes left
  pub memory : left.memory ≡ state.memory
  pub stands : WorldStands lines left new
  pub joined : new.journal ≡ old.journal ++ notes
