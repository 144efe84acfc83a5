-- The form of tasks: which note may stand next by what those before it tell of the hosts, whatever the image holds.
use Rattle.std.specs.Prelude.{ℕ, ⊤, ◌≡◌, All, List, [], ◌∷◌, slice_get, Option, Some, None}
use Rattle.fam_base.specs.Commands.{IsSoundCmd}
use Rattle.fam_base.specs.declared.cmd.Cmd.{Cmd}
use Rattle.fam_base.specs.declared.cmd.Cmd.TheVariants.{Check}
use Rattle.fam_base.specs.declared.entry.Entry.{Entry}
use Rattle.fam_format.specs.declared.faults.LogFault.{LogFault}
use Rattle.fam_format.specs.declared.faults.LogFault.TheVariants.{BadLog}
use Rattle.fam_format.specs.declared.faults.LogField.{LogField}
use Rattle.fam_format.specs.declared.faults.LogField.TheVariants as field
use Rattle.fam_protocol.specs.Tasks.{IsCommand}
use Rattle.fam_rules.specs.declared.answers.Refused.{Refused as Cause}
use Rattle.fam_rules.specs.declared.answers.Refused.TheVariants as cause
use Rattle.fam_rules.specs.declared.answers.LogState.{LogState}
use Rattle.fam_rules.specs.declared.answers.LogState.TheVariants as log
use Rattle.fam_rules.specs.Decide.{Wish, wish_of}
use Rattle.fam_rules.specs.Reply as reply
use Rattle.fam_rules.specs.Reply.{Reply}
use Rattle.fam_tree.specs.Listings.{IsListed}
use Rattle.fam_journal.specs.declared.event.Event.{Event}
use Rattle.fam_journal.specs.EventShapes.{EventShape}
use Rattle.fam_journal.specs.Laws.{IsValidEvent}
use Rattle.fam_journal.specs.Notes.{Answer, Replied, MediaFault, Note, Host, Made, Cut, Start, Mark, Found, Writes, Answered, Stop, Halt, Umount, Refused}
use Rattle.fam_journal.specs.Shapes.{Begun, CommandStage, HasMet, HostShape, Marked, OfRunning, shapes_after}

-- Commands.

-- a command's mode, count and listing are within their limits; and what it appends has a path, numbers and bytes that fit
pub record IsSoundCommand (cmd : Cmd) : Type 0 where
  pub limits : IsSoundCmd cmd
  pub fits : IsCommand cmd

-- so it is of a command that begins
abbrev pub IsSoundNote : Note → Type 0
IsSoundNote (Host name uuid) = ⊤
IsSoundNote (Made h p) = ⊤
IsSoundNote (Cut h k) = ⊤
IsSoundNote (Start h cmd) = IsSoundCommand cmd
IsSoundNote (Mark h) = ⊤
IsSoundNote (Found h n) = ⊤
IsSoundNote (Writes h seq entry) = ⊤
IsSoundNote (Answered h answer) = ⊤
IsSoundNote (Stop h) = ⊤
IsSoundNote (Halt h) = ⊤
IsSoundNote (Umount h) = ⊤
IsSoundNote (Refused name why) = ⊤

-- so of each of these notes
abbrev pub AreSoundNotes : List Note → Type 0
AreSoundNotes [] = ⊤
AreSoundNotes (note ∷ notes) = IsSoundNote note × AreSoundNotes notes

-- the entries of a command's listing are such as a source's lines have
abbrev pub IsListedCommand : Cmd → Type 0
IsListedCommand cmd = (entries : List Entry) → cmd ≡ Check entries → All IsListed entries

-- so they are of a command that begins
abbrev pub IsListedNote : Note → Type 0
IsListedNote (Host name uuid) = ⊤
IsListedNote (Made h p) = ⊤
IsListedNote (Cut h k) = ⊤
IsListedNote (Start h cmd) = IsListedCommand cmd
IsListedNote (Mark h) = ⊤
IsListedNote (Found h n) = ⊤
IsListedNote (Writes h seq entry) = ⊤
IsListedNote (Answered h answer) = ⊤
IsListedNote (Stop h) = ⊤
IsListedNote (Halt h) = ⊤
IsListedNote (Umount h) = ⊤
IsListedNote (Refused name why) = ⊤

-- so of each of these notes
abbrev pub AreListedNotes : List Note → Type 0
AreListedNotes [] = ⊤
AreListedNotes (note ∷ notes) = IsListedNote note × AreListedNotes notes

-- Where the tables of operations give an answer, as far as the shape of a command's notes leaves that open.

-- the header is read before the mark, and the gate behind it
abbrev pub FieldPlace : LogField → CommandStage → Type 0
FieldPlace field.Magic stage = stage ≡ Begun
FieldPlace field.Crc stage = stage ≡ Begun
FieldPlace field.Length stage = stage ≡ Begun
FieldPlace field.Slots stage = stage ≡ Begun
FieldPlace field.Uuid stage = stage ≡ Begun
FieldPlace field.Rest stage = stage ≡ Begun
FieldPlace field.Gate stage = stage ≡ Marked

-- by the field of the log that is bad
abbrev pub FaultPlace : LogFault → CommandStage → Type 0
FaultPlace (BadLog field found wanted) stage = FieldPlace field stage

-- of a report: the superblock is read before the mark too
abbrev pub LogPlace : LogState → CommandStage → Type 0
LogPlace (log.Sound entries slots) stage = ⊤
LogPlace (log.BadLog field found wanted) stage = FieldPlace field stage
LogPlace log.Unread stage = stage ≡ Begun

-- that another host appends, or that the path is too long, is told by the superblock
abbrev pub CausePlace : Cause → CommandStage → Type 0
CausePlace (cause.NotMaster own master) stage = stage ≡ Begun
CausePlace (cause.LongPath limit) stage = stage ≡ Begun
CausePlace cause.BadStripe stage = ⊤
CausePlace (cause.Exists kind) stage = ⊤
CausePlace cause.NoParent stage = ⊤
CausePlace cause.ParentIsFile stage = ⊤
CausePlace (cause.LogFull slots) stage = ⊤
CausePlace (cause.NoSpace units) stage = ⊤

-- a command that appends reads slots behind what it found
abbrev pub SlotPlace : Option Wish → CommandStage → Type 0
SlotPlace None stage = ⊤
SlotPlace (Some wish) stage = HasMet stage

-- by the reply
abbrev pub ReplyPlace : Cmd → CommandStage → Reply → Type 0
ReplyPlace cmd stage (reply.Appended seq) = ⊤
ReplyPlace cmd stage (reply.NotAppended why) = CausePlace why stage
ReplyPlace cmd stage (reply.Played m tree) = ⊤
ReplyPlace cmd stage (reply.Mounted m) = ⊤
ReplyPlace cmd stage (reply.Same m) = ⊤
ReplyPlace cmd stage (reply.Differs m offset found wanted) = ⊤
ReplyPlace cmd stage (reply.Length m size wanted) = ⊤
ReplyPlace cmd stage (reply.Bytes m bytes) = ⊤
ReplyPlace cmd stage (reply.NotFound m) = ⊤
ReplyPlace cmd stage (reply.IsDirectory m) = ⊤
ReplyPlace cmd stage (reply.Checks m checked) = ⊤
ReplyPlace cmd stage (reply.Reports report) = LogPlace report.log stage
ReplyPlace cmd stage (reply.NoSuperblock fault) = ⊤
ReplyPlace cmd stage (reply.BadHeader fault) = FaultPlace fault stage
ReplyPlace cmd stage (reply.BadSlot seq reason) = SlotPlace (wish_of cmd) stage

-- memory may fail at any time
abbrev pub AnswerPlace : Cmd → CommandStage → Answer → Type 0
AnswerPlace cmd stage (Replied given) = ReplyPlace cmd stage given
AnswerPlace cmd stage (MediaFault line) = ⊤

-- so it is of a note that is an answer, by the host's running command
abbrev pub HasPlace : List HostShape → Note → Type 0
HasPlace hosts (Host name uuid) = ⊤
HasPlace hosts (Made h p) = ⊤
HasPlace hosts (Cut h k) = ⊤
HasPlace hosts (Start h cmd) = ⊤
HasPlace hosts (Mark h) = ⊤
HasPlace hosts (Found h n) = ⊤
HasPlace hosts (Writes h seq entry) = ⊤
HasPlace hosts (Answered h answer) = OfRunning (slice_get hosts h) (λ me t. AnswerPlace t.cmd t.stage answer)
HasPlace hosts (Stop h) = ⊤
HasPlace hosts (Halt h) = ⊤
HasPlace hosts (Umount h) = ⊤
HasPlace hosts (Refused name why) = ⊤

-- so of each of these notes, by those before it
abbrev pub HavePlaces : List HostShape → List Note → Type 0
HavePlaces hosts [] = ⊤
HavePlaces hosts (note ∷ notes) = HasPlace hosts note × HavePlaces (shapes_after hosts note) notes

-- Notes.

-- a script's event with valid UUIDs and format adds this note alone, by what the notes before tell of the hosts of a media of so
-- many lines; a command that begins is sound; and an answer stands where the tables give it
pub record IsFormedNote (lines : ℕ) (hosts : List HostShape) (note : Note) : Type 0 where
  pub event : Event
  pub valid : IsValidEvent event
  pub shape : EventShape event lines hosts (note ∷ [])
  pub sound : IsSoundNote note
  pub placed : HasPlace hosts note

-- so of each of these notes, each by those before it
abbrev pub AreFormed : ℕ → List HostShape → List Note → Type 0
AreFormed lines hosts [] = ⊤
AreFormed lines hosts (note ∷ notes) = IsFormedNote lines hosts note × AreFormed lines (shapes_after hosts note) notes
