-- What holds while the file system isn't sound: nobody writes, and each task comes to the image's own fault.
-- docs/MODEL.md, "The protocol".
use Rattle.std.specs.Prelude.{ℕ, ⊤, ◌≡◌, ◌≢◌, ◌-◌, ◌*◌, ◌<◌, List, [], slice_index, Option, Some, None, Ok}
use Rattle.fam_base.specs.declared.cmd.Cmd.{Cmd}
use Rattle.fam_rules.specs.declared.answers.Refused.{Refused}
use Rattle.fam_base.specs.declared.entry.Params.{Params}
use Rattle.fam_base.specs.declared.entry.Entry.{Entry}
use Rattle.fam_format.specs.declared.faults.Reason.{Reason}
use Rattle.fam_format.specs.Layout.{gate_line, log_line}
use Rattle.fam_format.specs.Log.{log_fault, gate_fault}
use Rattle.fam_format.specs.Super.{magic_fault}
use Rattle.fam_format.specs.Reading.{Reading, Lines, NoSuperblock, BadHeader, BadSlot, Sound, super_in, gate_in, read_slots, reading_of}
use Rattle.fam_commands.specs.declared.phase.Part.{Part}
use Rattle.fam_commands.specs.declared.phase.Part.TheVariants.{Superblock, Header, Slot, File as FileLines}
use Rattle.fam_commands.specs.declared.phase.Phase.{Phase}
use Rattle.fam_commands.specs.declared.phase.Phase.TheVariants as at
use Rattle.fam_machine.specs.OneLine.{IsDirty}
use Rattle.fam_commands.specs.Kept.{used}
use Rattle.fam_commands.specs.Task.{Task, part_count, part_line}
use Rattle.fam_commands.specs.Turns.{Turn, Goes, Marks, Finds, Writes, Ends, slots_read}
use Rattle.fam_rules.specs.declared.answers.Refused.TheVariants.{NotMaster, LongPath, BadStripe, Exists, NoParent, ParentIsFile, LogFull, NoSpace}
use Rattle.fam_rules.specs.Decide.{Wish, wish_of}
use Rattle.fam_rules.specs.Place.{line_bytes}
use Rattle.fam_rules.specs.Reply.{Reply, NotAppended, Reports, Appended, Played, Mounted, Same, Differs, Length, Bytes, NotFound, IsDirectory, Checks}
use Rattle.fam_rules.specs.Reply as reply
use Rattle.fam_rules.specs.Reports.{no_survey, report_of, report_by, survey_slots}
use Rattle.fam_protocol.specs.SharedState.{SharedState}
use Rattle.fam_protocol.specs.Lines.{Fresh}
use Rattle.fam_protocol.specs.Core.{IsWide}
use Rattle.fam_protocol.specs.After.{NamesLongPath}
use Rattle.fam_protocol.specs.Tasks.{HasLoaded, part_words}
use Rattle.fam_format.specs.Line.{line_words}
use Rattle.fam_commands.specs.Classes.{Class, class_of, Replays, Appends, Compares, Reads, Surveys}

-- memory is the image that was there, which reads as no sound file system, and no cache has anything to send
pub record Still (image : Lines) (have : ℕ) (s : SharedState) : Type 0 where
  pub wide : IsWide s
  pub memory : (l : ℕ) → s.memory l ≡ image l
  pub clean : (h l : ℕ) → IsDirty (s.copy h l) → ⊥
  pub bad : (p : Params) (entries : List Entry) → reading_of image have ≢ Sound p entries

-- no slot is read, and nothing is used of what its host keeps
pub record IsBare (t : Task) : Type 0 where
  pub entries : t.entries ≡ []
  pub survey : t.survey ≡ no_survey
  pub unused : (p : Params) (gate : ℕ) → used t.kept t.cmd p gate ≡ []

-- word 0 of line 0 is a superblock's
abbrev pub HasMagic : Lines → Type 0
HasMagic image = magic_fault (slice_index (image 0) 0) ≡ None

-- the superblock reads, and a host that appends is the one that it names
pub record ReadsSuper (image : Lines) (have : ℕ) (t : Task) : Type 0 where
  pub super : super_in image have ≡ Ok t.params
  pub master : (w : Wish) → wish_of t.cmd ≡ Some w → t.me ≡ t.params.master

-- the header has no fault either
pub record ReadsHeader (image : Lines) (have : ℕ) (t : Task) : Type 0 where
  pub super : ReadsSuper image have t
  pub header : log_fault (image log_line) t.params ≡ None

-- what is left to be read from slot i on gives the image's reading; or, for a check of the whole file system, its report; by the class of the command
abbrev pub RemainsIn : Class → Lines → ℕ → ℕ → Task → Type 0
RemainsIn Surveys image have i t =
    report_by t.params t.gate (survey_slots image t.params t.gate i (t.params.slots - i) t.survey) ≡ report_of image have
RemainsIn Replays image have i t = read_slots image t.params i (t.gate - i) t.entries ≡ reading_of image have
RemainsIn Appends image have i t = read_slots image t.params i (t.gate - i) t.entries ≡ reading_of image have
RemainsIn (Compares path against) image have i t = read_slots image t.params i (t.gate - i) t.entries ≡ reading_of image have
RemainsIn (Reads path offset count) image have i t = read_slots image t.params i (t.gate - i) t.entries ≡ reading_of image have

-- so of a command, by its class
abbrev pub Remains : Cmd → Lines → ℕ → ℕ → Task → Type 0
Remains cmd image have i t = RemainsIn (class_of cmd) image have i t

-- the gate is within the slots, and i of them are read
pub record ReadsSlots (image : Lines) (have i : ℕ) (t : Task) : Type 0 where
  pub header : ReadsHeader image have t
  pub gate : t.gate ≡ gate_in image
  pub within : gate_fault t.gate t.params ≡ None
  pub remains : Remains t.cmd image have i t

-- what is known when a line of a part is read. No file is read
abbrev pub OnBadPart : Part → Lines → ℕ → Task → Type 0
OnBadPart Superblock image have t = IsBare t × HasMagic image
OnBadPart Header image have t = IsBare t × ReadsSuper image have t
OnBadPart (Slot i) image have t = ReadsSlots image have i t × (i < slots_read t)
OnBadPart FileLines image have t = ⊥

-- A task in its phase. It never comes to an append
abbrev pub AtDamagedPhase : Phase → Lines → ℕ → ℕ → Task → SharedState → Type 0
AtDamagedPhase at.DropMagic image have host t s = IsBare t
AtDamagedPhase at.Magic image have host t s = IsBare t × Fresh (s.memory 0) (s.copy host 0)
AtDamagedPhase (at.Drop part j) image have host t s = OnBadPart part image have t × (j < part_count t part) × HasLoaded image t part j 0
AtDamagedPhase (at.Word part j k) image have host t s =
    OnBadPart part image have t × (j < part_count t part) × (k < line_words) × Fresh (s.memory (part_line t part j)) (s.copy host (part_line t part j)) × HasLoaded image t part j k
AtDamagedPhase at.DropGate image have host t s = IsBare t × (t.words ≡ []) × ReadsHeader image have t
AtDamagedPhase at.Gate image have host t s =
    IsBare t × (t.words ≡ []) × ReadsHeader image have t × Fresh (s.memory gate_line) (s.copy host gate_line)
AtDamagedPhase (at.Check i) image have host t s = ReadsSlots image have i t × (i < slots_read t) × (t.words ≡ part_words image t (Slot i))
AtDamagedPhase at.Decide image have host t s = ReadsSlots image have (slots_read t) t
AtDamagedPhase (at.StoreData j k) image have host t s = ⊥
AtDamagedPhase (at.SendData j) image have host t s = ⊥
AtDamagedPhase (at.StoreSlot j k) image have host t s = ⊥
AtDamagedPhase (at.SendSlot j) image have host t s = ⊥
AtDamagedPhase at.StoreGate image have host t s = ⊥
AtDamagedPhase at.FenceSlot image have host t s = ⊥
AtDamagedPhase at.SendGate image have host t s = ⊥
AtDamagedPhase at.FenceGate image have host t s = ⊥

-- a task is its host's, of an image of this size, and what its phase says holds
pub record BadTaskHolds (image : Lines) (have : ℕ) (uuid : ℕ → Option (List ℕ)) (host : ℕ) (t : Task) (s : SharedState) : Type 0 where
  pub me : uuid host ≡ Some t.me
  pub lines : line_bytes * t.lines ≡ have
  pub phase : AtDamagedPhase t.phase image have host t s

-- What a turn may say.

-- the fault of a reading, as an answer
abbrev pub fault_of : Reading → Option Reply
fault_of (NoSuperblock fault) = Some (reply.NoSuperblock fault)
fault_of (BadHeader fault) = Some (reply.BadHeader fault)
fault_of (BadSlot i reason) = Some (reply.BadSlot i reason)
fault_of (Sound p entries) = None

-- the superblock reads, and names another host
pub record IsBadClient (image : Lines) (have : ℕ) (t : Task) (me master : List ℕ) : Type 0 where
  pub params : Params
  pub super : super_in image have ≡ Ok params
  pub me_is : me ≡ t.me
  pub master_is : master ≡ params.master
  pub other : me ≢ master

-- the superblock reads, and names the host, whose path is too long
pub record NamesBadLongPath (image : Lines) (have : ℕ) (t : Task) (limit : ℕ) : Type 0 where
  pub params : Params
  pub super : super_in image have ≡ Ok params
  pub is : NamesLongPath params t limit

-- the refusal of another host than the master, or of the master's path
abbrev pub MayRefuseBad : Refused → Lines → ℕ → Task → Type 0
MayRefuseBad (NotMaster me master) image have t = IsBadClient image have t me master
MayRefuseBad (LongPath limit) image have t = NamesBadLongPath image have t limit
MayRefuseBad BadStripe image have t = ⊥
MayRefuseBad (Exists kind) image have t = ⊥
MayRefuseBad NoParent image have t = ⊥
MayRefuseBad ParentIsFile image have t = ⊥
MayRefuseBad (LogFull slots) image have t = ⊥
MayRefuseBad (NoSpace units) image have t = ⊥

-- the image's own fault, or its report, or a refusal that comes when the superblock is read
abbrev pub MayReplyBad : Reply → Lines → ℕ → Task → Type 0
MayReplyBad (NotAppended why) image have t = MayRefuseBad why image have t
MayReplyBad (Reports report) image have t = report ≡ report_of image have
MayReplyBad (reply.NoSuperblock fault) image have t = fault_of (reading_of image have) ≡ Some (reply.NoSuperblock fault)
MayReplyBad (reply.BadHeader fault) image have t = fault_of (reading_of image have) ≡ Some (reply.BadHeader fault)
MayReplyBad (reply.BadSlot i reason) image have t = fault_of (reading_of image have) ≡ Some (reply.BadSlot i reason)
MayReplyBad (Appended seq) image have t = ⊥
MayReplyBad (Played m tree) image have t = ⊥
MayReplyBad (Mounted m) image have t = ⊥
MayReplyBad (Same m) image have t = ⊥
MayReplyBad (Differs m offset found wanted) image have t = ⊥
MayReplyBad (Length m size wanted) image have t = ⊥
MayReplyBad (Bytes m bytes) image have t = ⊥
MayReplyBad (NotFound m) image have t = ⊥
MayReplyBad (IsDirectory m) image have t = ⊥
MayReplyBad (Checks m checked) image have t = ⊥

-- the master finds the image's gate where a slot is bad
pub record FindsBad (image : Lines) (have n : ℕ) : Type 0 where
  pub is : n ≡ gate_in image
  pub slot : ℕ
  pub reason : Reason
  pub bad : reading_of image have ≡ BadSlot slot reason

-- what a turn may say on a damaged image: nothing is appended
abbrev pub MaySayBad : Turn → Lines → ℕ → Task → Type 0
MaySayBad (Goes next) image have t = ⊤
MaySayBad (Marks next) image have t = ⊤
MaySayBad (Finds n next) image have t = FindsBad image have n
MaySayBad (Writes seq e next) image have t = ⊥
MaySayBad (Ends reply) image have t = MayReplyBad reply image have t

-- behind a turn that goes on the task is one of a damaged image still
abbrev pub GoesOnBad : Turn → Lines → ℕ → (ℕ → Option (List ℕ)) → ℕ → SharedState → Type 0
GoesOnBad (Goes t) image have uuid host s = BadTaskHolds image have uuid host t s
GoesOnBad (Marks t) image have uuid host s = BadTaskHolds image have uuid host t s
GoesOnBad (Finds n t) image have uuid host s = BadTaskHolds image have uuid host t s
GoesOnBad (Writes seq e t) image have uuid host s = ⊥
GoesOnBad (Ends reply) image have uuid host s = ⊤
