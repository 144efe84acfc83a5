-- The whole of what holds after every step, of memory, any number of hosts and their tasks. docs/MODEL.md, "The protocol".
use Rattle.std.specs.Prelude.{ℕ, ◌≡◌, ◌*◌, ◌<◌, ◌≤◌, nat_lt, if◌then◌else◌, List, length, map, Option, Some, None}
use Rattle.fam_base.specs.declared.entry.Params.{Params}
use Rattle.fam_base.specs.Image.{Image, line_at}
use Rattle.fam_format.specs.Layout.{least_lines}
use Rattle.fam_format.specs.Reading.{Lines, Reading, NoSuperblock, BadHeader, BadSlot, Sound, reading_of}
use Rattle.fam_machine.specs.declared.cell.Cell.{Cell}
use Rattle.fam_machine.specs.declared.cell.Cell.TheVariants.{Absent}
use Rattle.fam_machine.specs.Caches.{IsCleanCell}
use Rattle.fam_machine.specs.OneLine.{IsDirty}
use Rattle.fam_rules.specs.Asks.{File}
pub use Rattle.fam_rules.specs.Solo.{held_file}
use Rattle.fam_rules.specs.Place.{line_bytes}
use Rattle.fam_protocol.specs.SharedState.{SharedState}
use Rattle.fam_protocol.specs.Core.{Core, IsWide}
use Rattle.fam_protocol.specs.Tasks.{KeepsPrefix, TaskHolds}
use Rattle.fam_commands.specs.Kept.{Kept}
use Rattle.fam_protocol.specs.After.{Run, HasMarked, HasNamed, HoldsNamed, IsMarked}
use Rattle.fam_protocol.specs.Bad.{Still, BadTaskHolds}

-- the declared hosts: their UUIDs, their tasks and what they keep
pub record Hosts : Type 0 where
  pub uuid : ℕ → Option (List ℕ)
  pub run : ℕ → Option Run
  pub kept : ℕ → Option Kept

-- what the journal settles: nothing of an image that is too small or damaged; or the file system, the history with
-- the pending entry, and the history's length
pub data Settled : Type 0 where
  Small : (image : Lines) → Settled
  Damaged : (image : Lines) → Settled
  Known : (params : Params) (all : List File) (settled : ℕ) → Settled

-- hosts have UUIDs of their own, and one that isn't declared has no cache and no task
pub record AreHosts (hosts : Hosts) (s : SharedState) : Type 0 where
  pub apart : (h k : ℕ) (id : List ℕ) → hosts.uuid h ≡ Some id → hosts.uuid k ≡ Some id → h ≡ k
  pub absent : (h l : ℕ) → hosts.uuid h ≡ None → s.copy h l ≡ Absent
  pub idle : (h : ℕ) → hosts.uuid h ≡ None → hosts.run h ≡ None
  pub bare : (h : ℕ) → hosts.uuid h ≡ None → hosts.kept h ≡ None

-- an image of too few lines for a gate: no task begins, and nobody stores
pub record IsSmall (image : Lines) (lines : ℕ) (hosts : Hosts) (s : SharedState) : Type 0 where
  pub memory : (l : ℕ) → s.memory l ≡ image l
  pub few : lines < least_lines
  pub idle : (h : ℕ) → hosts.run h ≡ None
  pub bare : (h : ℕ) → hosts.kept h ≡ None
  pub clean : (h l : ℕ) → IsDirty (s.copy h l) → ⊥

-- a damaged image, and tasks on it
pub record IsDamaged (image : Lines) (lines : ℕ) (hosts : Hosts) (s : SharedState) : Type 0 where
  pub enough : least_lines ≤ lines
  pub still : Still image (line_bytes * lines) s
  -- nobody has listed a tree
  pub bare : (h : ℕ) → hosts.kept h ≡ None
  pub tasks : (h : ℕ) (r : Run) → hosts.run h ≡ Some r → BadTaskHolds image (line_bytes * lines) hosts.uuid h r.task s

-- a sound file system, and tasks on it
pub record IsKnown (p : Params) (all : List File) (settled lines : ℕ) (hosts : Hosts) (s : SharedState) : Type 0 where
  pub enough : least_lines ≤ lines
  -- what a cache has to send are lines of the image
  pub inside : (h l : ℕ) → IsDirty (s.copy h l) → l < lines
  pub master : Option ℕ
  pub core : Core (record { params = p; have = line_bytes * lines; uuid = hosts.uuid; master = master }) s all settled
  pub tasks : (h : ℕ) (r : Run) → hosts.run h ≡ Some r → TaskHolds (record { params = p; have = line_bytes * lines; uuid = hosts.uuid; master = master }) h r.floor r.task s all settled
  -- what is kept is the history's front
  pub kept : (h : ℕ) → KeepsPrefix p all settled (hosts.kept h)

-- by what is settled of the image
abbrev pub InvariantBy : Settled → ℕ → Hosts → SharedState → Type 0
InvariantBy (Small image) lines hosts s = IsSmall image lines hosts s
InvariantBy (Damaged image) lines hosts s = IsDamaged image lines hosts s
InvariantBy (Known p all settled) lines hosts s = IsKnown p all settled lines hosts s

-- an image of so many lines
pub record Invariant (settled : Settled) (lines : ℕ) (hosts : Hosts) (s : SharedState) : Type 0 where
  pub declared : AreHosts hosts s
  -- a task behind its mark has what was settled then
  pub marked : (h : ℕ) (r : Run) → hosts.run h ≡ Some r → HasMarked r.task.phase → IsMarked r.floor
  -- a task that writes holds what it named
  pub named : (h : ℕ) (r : Run) → hosts.run h ≡ Some r → HasNamed r.task.phase → HoldsNamed r.task r.named
  -- a task has what its host keeps
  pub keeps : (h : ℕ) (r : Run) → hosts.run h ≡ Some r → r.task.kept ≡ hosts.kept h
  pub wide : IsWide s
  pub stage : InvariantBy settled lines hosts s

-- How it begins.

-- nobody is declared
abbrev pub no_hosts : Hosts
no_hosts = record { uuid = λ h. None; run = λ h. None; kept = λ h. None }

-- an image, and no cache
abbrev pub solo : Image → SharedState
solo image = record { memory = line_at image; copy = λ h l. Absent }

-- what an image settles, by its reading
abbrev pub settled_by : Lines → Reading → Settled
settled_by image (NoSuperblock fault) = Damaged image
settled_by image (BadHeader fault) = Damaged image
settled_by image (BadSlot i reason) = Damaged image
settled_by image (Sound p entries) = Known p (map (held_file image) entries) (length entries)

-- what an image settles: too few lines have no reading
abbrev pub settled_at_first : Image → Settled
settled_at_first image = if nat_lt (length image) least_lines then Small (line_at image) else settled_by (line_at image) (reading_of (line_at image) (line_bytes * length image))

-- Between commands.

-- which declared host has a UUID, or none
pub record Owner (hosts : Hosts) (id : List ℕ) : Type 0 where
  pub host : Option ℕ
  pub is : (h : ℕ) → host ≡ Some h → hosts.uuid h ≡ Some id
  pub only : (h : ℕ) → hosts.uuid h ≡ Some id → host ≡ Some h

-- an image, and these caches
abbrev pub shared_with : Image → (ℕ → ℕ → Cell) → SharedState
shared_with image copy = record { memory = line_at image; copy = copy }

-- no host has a task, and no cache has anything to send: what copies there are may be stale
pub record Rests (hosts : Hosts) (s : SharedState) : Type 0 where
  pub declared : AreHosts hosts s
  pub owner : (id : List ℕ) → Owner hosts id
  pub idle : (h : ℕ) → hosts.run h ≡ None
  pub clean : (h l : ℕ) → IsCleanCell (s.copy h l)

-- a host keeps a front of the history, or nothing; and of an image without history nothing
abbrev pub KeepsFront : Settled → Option Kept → Type 0
KeepsFront (Small image) kept = kept ≡ None
KeepsFront (Damaged image) kept = kept ≡ None
KeepsFront (Known p all settled) kept = KeepsPrefix p all settled kept

-- so does every host
abbrev pub KeepFronts : Settled → Hosts → Type 0
KeepFronts settled hosts = (h : ℕ) → KeepsFront settled (hosts.kept h)
