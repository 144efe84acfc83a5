-- What a task has loaded of a sound file system, and what it says of it, as the laws tell it. docs/MODEL.md,
-- "The protocol".
use Rattle.std.specs.Prelude.{ℕ, ⊤, ◌≡◌, ◌⊎◌, ◌+◌, ◌*◌, ◌<◌, ◌≤◌, List, length, take, slice_get, slice_index, Some, Ok, Option}
use Rattle.fam_base.specs.declared.entry.Params.{Params}
use Rattle.fam_base.specs.Image.{byte_of}
use Rattle.fam_format.specs.Layout.{geometry}
use Rattle.fam_format.specs.Reading.{Lines}
use Rattle.fam_format.specs.ReadingLaws.{HasWords}
use Rattle.fam_format.specs.Slot.{entry_of, spelling}
use Rattle.fam_commands.specs.declared.phase.Phase.{Phase}
use Rattle.fam_commands.specs.declared.phase.Phase.TheVariants as at
use Rattle.fam_commands.specs.Task.{Task, first_line}
use Rattle.fam_rules.specs.declared.answers.Refused.{Refused}
use Rattle.fam_rules.specs.declared.answers.Refused.TheVariants.{NotMaster, LongPath, BadStripe, Exists, NoParent, ParentIsFile, LogFull, NoSpace}
use Rattle.fam_rules.specs.Asks.{File, file_at}
use Rattle.fam_rules.specs.Place.{line_bytes}
use Rattle.fam_rules.specs.Reply.{Reply}
use Rattle.fam_protocol.specs.SharedState.{SharedState}
use Rattle.fam_protocol.specs.Lines.{IsAtLeast}
use Rattle.fam_protocol.specs.Tasks.{HasRead, wanted_path}
use Rattle.fam_protocol.specs.After.{IsPastGate, Run}
use Rattle.fam_protocol.specs.Invariant.{Hosts, Known, Damaged, Invariant}
use Rattle.fam_protocol.specs.Steps.{Steps}
use Rattle.fam_commands.specs.ReplyClasses.{ReplyClass, reply_class, Appending, Declining, Showing, Reporting, Faulty}

-- Moments of a run.

-- a host's task on a sound file system
pub record SoundTask (p : Params) (all : List File) (settled : ℕ) : Type 0 where
  pub lines : ℕ
  pub hosts : Hosts
  pub shared : SharedState
  pub invariant : Invariant (Known p all settled) lines hosts shared
  pub host : ℕ
  pub run : Run
  pub runs : hosts.run host ≡ Some run

-- and its step: memory, caches and tasks before and after it, and the word that its operation gave, if it is a load
pub record SoundStep (p : Params) (all : List File) (settled : ℕ) : Type 0 where
  pub lines : ℕ
  pub old : Hosts
  pub new : Hosts
  pub before : SharedState
  pub after : SharedState
  pub invariant : Invariant (Known p all settled) lines old before
  pub host : ℕ
  pub word : ℕ
  pub run : Run
  pub steps : Steps host word (Known p all settled) run old new before after

-- a step of a task on a damaged image of so many lines
pub record DamagedStep (image : Lines) (lines : ℕ) : Type 0 where
  pub old : Hosts
  pub new : Hosts
  pub before : SharedState
  pub after : SharedState
  pub invariant : Invariant (Damaged image) lines old before
  pub host : ℕ
  pub word : ℕ
  pub run : Run
  pub steps : Steps host word (Damaged image) run old new before after

-- Places.

-- the task has loaded the gate, and reads or decides
abbrev pub HasLoadedGate : Phase → Type 0
HasLoadedGate (at.Drop part j) = IsPastGate part
HasLoadedGate (at.Word part j k) = IsPastGate part
HasLoadedGate (at.Check i) = ⊤
HasLoadedGate at.Decide = ⊤
HasLoadedGate at.DropMagic = ⊥
HasLoadedGate at.Magic = ⊥
HasLoadedGate at.DropGate = ⊥
HasLoadedGate at.Gate = ⊥
HasLoadedGate (at.StoreData j k) = ⊥
HasLoadedGate (at.SendData j) = ⊥
HasLoadedGate (at.StoreSlot j k) = ⊥
HasLoadedGate (at.SendSlot j) = ⊥
HasLoadedGate at.StoreGate = ⊥
HasLoadedGate at.FenceSlot = ⊥
HasLoadedGate at.SendGate = ⊥
HasLoadedGate at.FenceGate = ⊥

-- What was loaded.

-- the gate counts all that was settled at the task's mark, and no more than there is
pub record IsCurrent (floor : Option ℕ) (t : Task) (all : List File) : Type 0 where
  pub low : IsAtLeast floor t.gate
  pub high : t.gate ≤ length all

-- the words of slot i read as entry i of the history; where memory has words of 64 bits they are its spelling. The
-- slots before it gave the entries before it
pub record IsLoadedSlot (p : Params) (i : ℕ) (t : Task) (all : List File) (memory : Lines) : Type 0 where
  pub file : File
  pub is : slice_get all i ≡ Some file
  pub reads : entry_of p t.words i ≡ Ok file.entry
  pub spelled : HasWords memory → t.words ≡ spelling (geometry p) file.entry i
  pub before : HasRead t.cmd i t all

-- word k of line j of those that are wanted has the bytes that were put into the file at the command's path, as far
-- as they are below its size. The file is one of the entries below the gate
pub record IsLoadedWord (j k word : ℕ) (t : Task) (all : List File) : Type 0 where
  pub path : List ℕ
  pub wanted : wanted_path t.cmd ≡ Some path
  pub file : File
  pub found : file_at (take t.gate all) path ≡ Some file
  pub bytes : (b : ℕ) → b < 8 → line_bytes * (first_line t.cmd + j) + (8 * k + b) < file.entry.size
      → byte_of word b ≡ slice_index file.bytes (line_bytes * (first_line t.cmd + j) + (8 * k + b))

-- What is said.

-- the master finds the settled entries, or one more that was stored and not acknowledged: then there are no others
abbrev pub IsFoundCount : ℕ → List File → ℕ → Type 0
IsFoundCount n all settled = (n ≡ settled) ⊎ ((n ≡ settled + 1) × (n ≡ length all))

-- an answer made of the entries and bytes that were read; by the class of the reply
abbrev pub IsOfEntriesIn : ReplyClass → Type 0
IsOfEntriesIn (Showing m) = ⊤
IsOfEntriesIn (Appending seq) = ⊥
IsOfEntriesIn (Declining refused) = ⊥
IsOfEntriesIn (Reporting report) = ⊥
IsOfEntriesIn Faulty = ⊥

-- so of a reply, by its class
abbrev pub IsOfEntries : Reply → Type 0
IsOfEntries given = IsOfEntriesIn (reply_class given)

-- an answer that names a fault of the image; by the class of the reply
abbrev pub IsOfFaultIn : ReplyClass → Type 0
IsOfFaultIn Faulty = ⊤
IsOfFaultIn (Appending seq) = ⊥
IsOfFaultIn (Declining refused) = ⊥
IsOfFaultIn (Showing m) = ⊥
IsOfFaultIn (Reporting report) = ⊥

-- so of a reply, by its class
abbrev pub IsOfFault : Reply → Type 0
IsOfFault given = IsOfFaultIn (reply_class given)

-- a refusal for another cause than the host or the length of the path
abbrev pub IsOfDecision : Refused → Type 0
IsOfDecision (NotMaster me master) = ⊥
IsOfDecision (LongPath limit) = ⊥
IsOfDecision BadStripe = ⊤
IsOfDecision (Exists kind) = ⊤
IsOfDecision NoParent = ⊤
IsOfDecision ParentIsFile = ⊤
IsOfDecision (LogFull slots) = ⊤
IsOfDecision (NoSpace units) = ⊤
