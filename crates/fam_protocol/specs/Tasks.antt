-- What holds of one task, by its phase, while the file system is sound. docs/MODEL.md, "The protocol".
use Rattle.std.specs.Prelude.{ℕ, ⊤, ◌≡◌, ◌+◌, ◌-◌, ◌*◌, ◌/◌, ◌%◌, ◌<◌, ◌≤◌, min, List, [], length, map, take, drop, slice_get, slice_index, Option, Some, None}
use Rattle.std.specs.List.{enumerate_from, range_with_len}
use Rattle.fam_base.specs.declared.cmd.Cmd.{Cmd}
use Rattle.fam_base.specs.declared.cmd.Content.{Content}
use Rattle.fam_base.specs.declared.cmd.Content.TheVariants as content
use Rattle.fam_base.specs.declared.entry.Kind.TheVariants as kind
use Rattle.fam_base.specs.declared.entry.Params.{Params}
use Rattle.fam_format.specs.Layout.{geometry, gate_line, slot_line}
use Rattle.fam_format.specs.Line.{line_bytes, line_words}
use Rattle.fam_format.specs.Slot.{spelling}
use Rattle.fam_commands.specs.declared.phase.Part.{Part}
use Rattle.fam_commands.specs.declared.phase.Part.TheVariants.{Superblock, Header, Slot, File as FileLines}
use Rattle.fam_commands.specs.declared.phase.Phase.{Phase}
use Rattle.fam_commands.specs.declared.phase.Phase.TheVariants as at
use Rattle.fam_commands.specs.Task.{Task, content_of, data_words, line_of, part_count, part_line, size_of}
use Rattle.fam_commands.specs.Kept.{Kept}
use Rattle.fam_commands.specs.Turns.{slots_read}
use Rattle.fam_rules.specs.Asks.{File, entries_of, file_at}
use Rattle.fam_rules.specs.Content.{HoldsBytes, content_byte, fill}
use Rattle.fam_rules.specs.Decide.{Wish, wish_of}
use Rattle.fam_rules.specs.DecideLaws.{IsSoundWish}
use Rattle.fam_rules.specs.Reports.{Survey, no_survey}
use Rattle.fam_rules.specs.Written.{slot_part}
use Rattle.fam_protocol.specs.SharedState.{SharedState}
use Rattle.fam_protocol.specs.Lines.{IsAtLeast, Fresh, FreshGate, Holding, Asked, IsHandedOver, Finished, gate_of}
use Rattle.fam_protocol.specs.Core.{System, top_of}
use Rattle.fam_commands.specs.Classes.{Class, class_of, Replays, Appends, Compares, Reads, Surveys}

-- Commands.

-- a command whose path is a path, whose numbers fit their words and whose bytes are bytes
pub record IsCommand (cmd : Cmd) : Type 0 where
  pub wish : (w : Wish) → wish_of cmd ≡ Some w → IsSoundWish w
  pub content : HoldsBytes (content_of cmd)

-- What a host keeps.

-- the first entries of the history, all of them settled, of the same file system
pub record IsKeptPrefix (p : Params) (all : List File) (settled : ℕ) (k : Kept) : Type 0 where
  pub params : k.params ≡ p
  pub few : length k.entries ≤ settled
  pub entries : k.entries ≡ entries_of (take (length k.entries) all)

-- or nothing
abbrev pub KeepsPrefix : Params → List File → ℕ → Option Kept → Type 0
KeepsPrefix p all settled None = ⊤
KeepsPrefix p all settled (Some k) = IsKeptPrefix p all settled k

-- Reading.

-- the words of a part's lines, as memory has them
abbrev pub part_words : (ℕ → List ℕ) → Task → Part → List ℕ
part_words memory t part =
    map (λ n. slice_index (memory (part_line t part (n / line_words))) (n % line_words)) (range_with_len 0 (line_words * part_count t part))

-- the first word that is kept when line j of a part is read that is looked at line by line: of a file alone
abbrev pub compared_from : Part → ℕ → ℕ
compared_from Superblock j = 0
compared_from Header j = 0
compared_from (Slot i) j = 0
compared_from FileLines j = line_words * j

-- the first word that is kept when line j is read: a file that is compared is looked at line by line; by the class of the
-- command
abbrev pub kept_from_in : Class → Part → ℕ → ℕ
kept_from_in Replays part j = 0
kept_from_in Appends part j = 0
kept_from_in (Compares path against) part j = compared_from part j
kept_from_in (Reads path offset count) part j = 0
kept_from_in Surveys part j = 0

-- so of a command, by its class
abbrev pub kept_from : Cmd → Part → ℕ → ℕ
kept_from cmd part j = kept_from_in (class_of cmd) part j

-- the task has the words of the lines before line j, as far as they are kept, and the first k of line j
abbrev pub HasLoaded : (ℕ → List ℕ) → Task → Part → ℕ → ℕ → Type 0
HasLoaded memory t part j k =
    t.words ≡ take (line_words * j + k - kept_from t.cmd part j) (drop (kept_from t.cmd part j) (part_words memory t part))

-- lines that no writer may touch while they are read: all but the slots past the gate
abbrev pub IsStable : Task → Part → Type 0
IsStable t Superblock = ⊤
IsStable t Header = ⊤
IsStable t (Slot i) = i < t.gate
IsStable t FileLines = ⊤

-- a line that is being read: it was dropped, so a copy that came back is memory's
abbrev pub IsBeingRead : ℕ → Task → Part → ℕ → ℕ → SharedState → Type 0
IsBeingRead host t part j k s =
    IsStable t part → Fresh (s.memory (part_line t part j)) (s.copy host (part_line t part j)) × HasLoaded s.memory t part j k

-- no slot is read
pub record NoSlot (t : Task) : Type 0 where
  pub entries : t.entries ≡ []
  pub survey : t.survey ≡ no_survey

-- the superblock is read, and a command that appends is the master's
pub record KnowsHead (sys : System) (host : ℕ) (t : Task) : Type 0 where
  pub params : t.params ≡ sys.params
  pub master : (w : Wish) → wish_of t.cmd ≡ Some w → sys.master ≡ Some host

-- the gate is loaded: it counts all that was settled at the mark, and no more than memory's does. A command that
-- appends has found the whole history, and nothing pending
pub record KnowsGate (host : ℕ) (floor : Option ℕ) (t : Task) (s : SharedState) (all : List File) (settled : ℕ) : Type 0 where
  pub low : IsAtLeast floor t.gate
  pub high : t.gate ≤ gate_of (s.memory gate_line)
  pub writer : (w : Wish) → wish_of t.cmd ≡ Some w → (settled ≡ t.gate) × (length all ≡ t.gate)

-- a check of the whole file system has surveyed i slots: those below the gate are the history's entries
pub record HasSurveyed (i gate : ℕ) (survey : Survey) (all : List File) : Type 0 where
  pub found : survey.found ≡ enumerate_from 0 (entries_of (take (min i gate) all))
  pub applied : survey.applied ≡ entries_of (take (min i gate) all)
  pub bad : survey.bad ≡ None
  pub past : survey.past ≤ i - gate

-- i slots are read: their entries are the first ones; by the class of the command
abbrev pub HasReadIn : Class → ℕ → Task → List File → Type 0
HasReadIn Surveys i t all = HasSurveyed i t.gate t.survey all
HasReadIn Replays i t all = t.entries ≡ entries_of (take i all)
HasReadIn Appends i t all = t.entries ≡ entries_of (take i all)
HasReadIn (Compares path against) i t all = t.entries ≡ entries_of (take i all)
HasReadIn (Reads path offset count) i t all = t.entries ≡ entries_of (take i all)

-- so of a command, by its class
abbrev pub HasRead : Cmd → ℕ → Task → List File → Type 0
HasRead cmd i t all = HasReadIn (class_of cmd) i t all

-- which path a command reads the file of; by the class of the command
abbrev pub wanted_path_in : Class → Option (List ℕ)
wanted_path_in (Compares path against) = Some path
wanted_path_in (Reads path offset count) = Some path
wanted_path_in Replays = None
wanted_path_in Appends = None
wanted_path_in Surveys = None

-- so of a command, by its class
abbrev pub wanted_path : Cmd → Option (List ℕ)
wanted_path cmd = wanted_path_in (class_of cmd)

-- given bytes are as many as the file's
abbrev pub IsGivenSize : Content → ℕ → Type 0
IsGivenSize content.Zero size = ⊤
IsGivenSize (content.Seed seed) size = ⊤
IsGivenSize (content.Bytes given) size = length given ≡ size

-- so are those that a command compares with; by the class of the command
abbrev pub IsOfSizeIn : Class → ℕ → Type 0
IsOfSizeIn (Compares path against) size = IsGivenSize against size
IsOfSizeIn Replays size = ⊤
IsOfSizeIn Appends size = ⊤
IsOfSizeIn (Reads path offset count) size = ⊤
IsOfSizeIn Surveys size = ⊤

-- so of a command, by its class
abbrev pub IsOfSize : Cmd → ℕ → Type 0
IsOfSize cmd size = IsOfSizeIn (class_of cmd) size

-- the file's bytes below an offset are the content's; by the class of the command
abbrev pub IsSameBelowIn : Class → File → ℕ → Type 0
IsSameBelowIn (Compares path against) f end = (o : ℕ) → o < end → o < f.entry.size → slice_index f.bytes o ≡ content_byte against o
IsSameBelowIn Replays f end = ⊤
IsSameBelowIn Appends f end = ⊤
IsSameBelowIn (Reads path offset count) f end = ⊤
IsSameBelowIn Surveys f end = ⊤

-- so of a command, by its class
abbrev pub IsSameBelow : Cmd → File → ℕ → Type 0
IsSameBelow cmd f end = IsSameBelowIn (class_of cmd) f end

-- the task reads the file of this entry, one of those below its gate
pub record ReadsFile (t : Task) (all : List File) (j : ℕ) : Type 0 where
  pub file : File
  pub i : ℕ
  pub is : slice_get all i ≡ Some file
  pub below : i < t.gate
  pub entry : t.entry ≡ Some file.entry
  pub path : List ℕ
  pub wanted : wanted_path t.cmd ≡ Some path
  pub found : file_at (take t.gate all) path ≡ Some file
  pub kind : file.entry.kind ≡ kind.File
  pub sized : IsOfSize t.cmd file.entry.size
  pub same : IsSameBelow t.cmd file (line_bytes * j)

-- all slots are read
pub record HasReadAll (host : ℕ) (floor : Option ℕ) (t : Task) (s : SharedState) (all : List File) (settled : ℕ) : Type 0 where
  pub gate : KnowsGate host floor t s all settled
  pub read : HasRead t.cmd (slots_read t) t all

-- slot i comes next
pub record IsAtSlot (i host : ℕ) (floor : Option ℕ) (t : Task) (s : SharedState) (all : List File) (settled : ℕ) : Type 0 where
  pub gate : KnowsGate host floor t s all settled
  pub below : i < slots_read t
  pub read : HasRead t.cmd i t all

-- line j of the file comes next
pub record IsAtFile (j host : ℕ) (floor : Option ℕ) (t : Task) (s : SharedState) (all : List File) (settled : ℕ) : Type 0 where
  pub all_read : HasReadAll host floor t s all settled
  pub file : ReadsFile t all j

-- what is known when line j of a part is read
abbrev pub OnPart : Part → ℕ → System → ℕ → Option ℕ → Task → SharedState → List File → ℕ → Type 0
OnPart Superblock j sys host floor t s all settled = NoSlot t
OnPart Header j sys host floor t s all settled = NoSlot t × KnowsHead sys host t
OnPart (Slot i) j sys host floor t s all settled = KnowsHead sys host t × IsAtSlot i host floor t s all settled
OnPart FileLines j sys host floor t s all settled = KnowsHead sys host t × IsAtFile j host floor t s all settled

-- Writing.

-- the entry is named and not yet published: it is the last of all, and the gate doesn't count it
pub record IsWriting (sys : System) (host : ℕ) (t : Task) (s : SharedState) (all : List File) (settled : ℕ) : Type 0 where
  pub master : sys.master ≡ Some host
  pub params : t.params ≡ sys.params
  pub settled_is : settled ≡ t.gate
  pub pending : length all ≡ t.gate + 1
  pub unpublished : top_of sys s ≡ t.gate
  pub file : File
  pub last : slice_get all t.gate ≡ Some file
  pub entry : t.entry ≡ Some file.entry
  pub bytes : file.bytes ≡ fill (content_of t.cmd) file.entry.size
  pub content : HoldsBytes (content_of t.cmd)
  pub words : t.words ≡ spelling (geometry sys.params) file.entry t.gate

-- the first so many lines of the new file are finished
abbrev pub HasData : ℕ → ℕ → Task → SharedState → Type 0
HasData count host t s =
    (b : ℕ) → b < count → line_bytes * b < size_of t.entry → Finished (data_words t b) (s.memory (line_of t.entry b)) (s.copy host (line_of t.entry b))

-- so are all of them
abbrev pub HasAllData : ℕ → Task → SharedState → Type 0
HasAllData host t s = (count : ℕ) → HasData count host t s

-- the first so many lines of the new slot are finished
abbrev pub HasWrittenLines : ℕ → ℕ → Task → SharedState → Type 0
HasWrittenLines count host t s =
    (b : ℕ) → b < count → Finished (slot_part t.words b) (s.memory (slot_line t.params t.gate b)) (s.copy host (slot_line t.params t.gate b))

-- the first so many lines of the new slot are stored whole, and asked for
abbrev pub HasAskedLines : ℕ → ℕ → Task → SharedState → Type 0
HasAskedLines count host t s =
    (b : ℕ) → b < count → Asked (slot_part t.words b) (s.memory (slot_line t.params t.gate b)) (s.copy host (slot_line t.params t.gate b))

-- k words of line j of the new file are stored
pub record StoresData (j k : ℕ) (sys : System) (host : ℕ) (t : Task) (s : SharedState) (all : List File) (settled : ℕ) : Type 0 where
  pub writing : IsWriting sys host t s all settled
  pub line : line_bytes * j < writing.file.entry.size
  pub before : HasData j host t s
  pub here : Holding k (data_words t j) (s.memory (line_of t.entry j)) (s.copy host (line_of t.entry j))

-- k words of line j of the new slot are stored
pub record StoresSlot (j k : ℕ) (sys : System) (host : ℕ) (t : Task) (s : SharedState) (all : List File) (settled : ℕ) : Type 0 where
  pub writing : IsWriting sys host t s all settled
  pub line : j < (geometry sys.params).lines
  pub contents : HasAllData host t s
  pub before : HasAskedLines j host t s
  pub here : Holding k (slot_part t.words j) (s.memory (slot_line t.params t.gate j)) (s.copy host (slot_line t.params t.gate j))

-- all lines of the new slot are asked for
pub record AwaitsSlot (sys : System) (host : ℕ) (t : Task) (s : SharedState) (all : List File) (settled : ℕ) : Type 0 where
  pub writing : IsWriting sys host t s all settled
  pub contents : HasAllData host t s
  pub slot : HasAskedLines (geometry sys.params).lines host t s

-- file and slot stand in memory
pub record MayPublish (sys : System) (host : ℕ) (t : Task) (s : SharedState) (all : List File) (settled : ℕ) : Type 0 where
  pub writing : IsWriting sys host t s all settled
  pub contents : HasAllData host t s
  pub slot : HasWrittenLines (geometry sys.params).lines host t s

-- the gate is stored
pub record HasPublished (sys : System) (host : ℕ) (t : Task) (s : SharedState) (all : List File) : Type 0 where
  pub master : sys.master ≡ Some host
  pub published : top_of sys s ≡ t.gate + 1
  pub pending : length all ≡ t.gate + 1
  pub file : File
  pub last : slice_get all t.gate ≡ Some file
  pub entry : t.entry ≡ Some file.entry

-- A task in its phase. `floor` is what was settled at its mark, once it is made.

-- the gate's line was dropped: a copy that came back is no older than the mark, and the master's is memory's
pub record IsAtGate (sys : System) (host : ℕ) (floor : Option ℕ) (s : SharedState) (settled : ℕ) : Type 0 where
  pub low : IsAtLeast floor settled
  pub copy : FreshGate floor (s.memory gate_line) (s.copy host gate_line)
  pub masters : sys.master ≡ Some host → Fresh (s.memory gate_line) (s.copy host gate_line)

-- what holds of a task in each phase
abbrev pub AtPhase : Phase → System → ℕ → Option ℕ → Task → SharedState → List File → ℕ → Type 0
AtPhase at.DropMagic sys host floor t s all settled = NoSlot t
AtPhase at.Magic sys host floor t s all settled = NoSlot t × Fresh (s.memory 0) (s.copy host 0)
AtPhase (at.Drop part j) sys host floor t s all settled =
    OnPart part j sys host floor t s all settled × (j < part_count t part) × (IsStable t part → HasLoaded s.memory t part j 0)
AtPhase (at.Word part j k) sys host floor t s all settled =
    OnPart part j sys host floor t s all settled × (j < part_count t part) × (k < line_words) × IsBeingRead host t part j k s
AtPhase at.DropGate sys host floor t s all settled = NoSlot t × (t.words ≡ []) × KnowsHead sys host t
AtPhase at.Gate sys host floor t s all settled =
    NoSlot t × (t.words ≡ []) × KnowsHead sys host t × IsAtGate sys host floor s settled
AtPhase (at.Check i) sys host floor t s all settled =
    KnowsHead sys host t × IsAtSlot i host floor t s all settled × (i < t.gate → t.words ≡ part_words s.memory t (Slot i))
AtPhase at.Decide sys host floor t s all settled = KnowsHead sys host t × HasReadAll host floor t s all settled
AtPhase (at.StoreData j k) sys host floor t s all settled = (k < line_words) × StoresData j k sys host t s all settled
AtPhase (at.SendData j) sys host floor t s all settled = StoresData j line_words sys host t s all settled
AtPhase (at.StoreSlot j k) sys host floor t s all settled = (k < line_words) × StoresSlot j k sys host t s all settled
AtPhase (at.SendSlot j) sys host floor t s all settled = StoresSlot j line_words sys host t s all settled
AtPhase at.FenceSlot sys host floor t s all settled = AwaitsSlot sys host t s all settled
AtPhase at.StoreGate sys host floor t s all settled = MayPublish sys host t s all settled
AtPhase at.SendGate sys host floor t s all settled = HasPublished sys host t s all
AtPhase at.FenceGate sys host floor t s all settled = HasPublished sys host t s all × IsHandedOver (s.copy host gate_line)

-- a task is its host's, of an image of this size, and what its phase says holds
pub record TaskHolds (sys : System) (host : ℕ) (floor : Option ℕ) (t : Task) (s : SharedState) (all : List File) (settled : ℕ) : Type 0 where
  pub command : IsCommand t.cmd
  pub me : sys.uuid host ≡ Some t.me
  pub lines : line_bytes * t.lines ≡ sys.have
  pub phase : AtPhase t.phase sys host floor t s all settled
