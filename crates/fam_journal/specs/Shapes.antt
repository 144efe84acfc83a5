-- The shape of a journal's notes: which notes a call of the world may add whatever the media holds, by what the notes before
-- them tell of the hosts.
use Rattle.std.specs.Prelude.{replicate, ℕ, ◌*◌, ⊤, ◌≡◌, ◌≢◌, ◌⊎◌, ◌<◌, ◌≤◌, ◌||◌, Bool, true, false, List, [], ◌∷◌, ◌++◌, length, map, slice_get, Option, Some, None, is_some, option_map}
use Rattle.std.specs.FinMap as finmap
use Rattle.fam_base.specs.declared.cmd.Cmd.{Cmd}
use Rattle.fam_base.specs.declared.cmd.Cmd.TheVariants.{Logplay, Mount, Fsck}
use Rattle.fam_base.specs.declared.entry.Entry.{Entry}
use Rattle.fam_base.specs.declared.entry.Params.{Params}
use Rattle.fam_format.specs.Stop.{or_else}
use Rattle.fam_commands.specs.declared.phase.Part.TheVariants.{Superblock, Header, Slot, File}
use Rattle.fam_commands.specs.declared.phase.Phase.{Phase}
use Rattle.fam_commands.specs.declared.phase.Phase.TheVariants as at
use Rattle.fam_machine.specs.Mkfs.{asked, early_refusal}
use Rattle.fam_commands.specs.Kept.{IsKept, Kept}
use Rattle.fam_commands.specs.Task.{Task, no_params}
use Rattle.fam_commands.specs.Appends.{HasWish}
use Rattle.fam_commands.specs.Classes.{IsCheck, IsRead, IsVerify}
use Rattle.fam_commands.specs.ReplyClasses.{is_mounted}
use Rattle.fam_rules.specs.declared.answers.Refused.{Refused as Cause}
use Rattle.fam_rules.specs.declared.answers.Refused.TheVariants as cause
use Rattle.fam_rules.specs.Decide.{Wish, wish_of}
use Rattle.fam_rules.specs.Place.{line_bytes}
use Rattle.fam_rules.specs.Reply as reply
use Rattle.fam_rules.specs.Reply.{Reply}
use Rattle.fam_journal.specs.declared.refusal.Refusal.{Refusal}
use Rattle.fam_journal.specs.declared.refusal.Refusal.TheVariants as why
use Rattle.fam_journal.specs.Calls as call
use Rattle.fam_journal.specs.Calls.{Call, IsOfSource, busy_refusal, cause_of, is_engaged, may_begin, asked_name, number_of, on_host, refusal_of}
use Rattle.fam_journal.specs.Machines.{HostState, Machines, TaskState, task_begun}
use Rattle.fam_journal.specs.Members.{changed_at, index_of}
use Rattle.fam_journal.specs.Notes.{Answer, Replied, MediaFault, Note, Host, Made, Cut, Start, Mark, Found, Writes, Answered, Stop, Halt, Umount, Refused}
use Rattle.fam_journal.specs.Past.{reported_count}
use Rattle.fam_journal.specs.View.{HostView, StandsAs, WorldView}

-- What a journal tells of the hosts alone.

-- how far a command has come, by the notes that it gave
pub data CommandStage : Type 0 where
  Begun : CommandStage
  -- the gate's line was dropped
  Marked : CommandStage
  -- a command that appends found so many entries
  Met : (n : ℕ) → CommandStage
  -- it named the entry of this number
  Named : (seq : ℕ) → CommandStage

-- a command on its way, as notes tell it: which one, and how far it has come
pub record TaskShape : Type 0 where
  pub cmd : Cmd
  pub stage : CommandStage

-- a host with its running command, if any, and whether it keeps something of the log
pub record HostShape : Type 0 where
  pub name : List ℕ
  pub uuid : List ℕ
  pub task : Option TaskShape
  pub keeps : Bool

-- its command, if any, has come to a stage
abbrev pub with_stage : CommandStage → HostShape → HostShape
with_stage stage host = record host { task = option_map (λ (t : TaskShape). record t { stage = stage }) host.task }

-- whether it keeps something behind an answer: a mount's makes it so
abbrev pub keeps_behind : Answer → Bool → Bool
keeps_behind (Replied given) keeps = is_mounted given || keeps
keeps_behind (MediaFault line) keeps = keeps

-- the hosts after a note
abbrev pub shapes_after : List HostShape → Note → List HostShape
shapes_after hosts (Host name uuid) = hosts ++ record { name = name; uuid = uuid; task = None; keeps = false } ∷ []
shapes_after hosts (Made h p) = hosts
shapes_after hosts (Cut h k) = hosts
shapes_after hosts (Start h cmd) = changed_at h (λ host. record host { task = Some (record { cmd = cmd; stage = Begun }) }) hosts
shapes_after hosts (Mark h) = changed_at h (with_stage Marked) hosts
shapes_after hosts (Found h n) = changed_at h (with_stage (Met n)) hosts
shapes_after hosts (Writes h seq entry) = changed_at h (with_stage (Named seq)) hosts
shapes_after hosts (Answered h answer) = changed_at h (λ host. record host { task = None; keeps = keeps_behind answer host.keeps }) hosts
shapes_after hosts (Stop h) = changed_at h (λ host. record host { task = None }) hosts
shapes_after hosts (Halt h) = changed_at h (λ host. record host { task = None; keeps = false }) hosts
shapes_after hosts (Umount h) = changed_at h (λ host. record host { keeps = false }) hosts
shapes_after hosts (Refused name why) = hosts

-- the hosts after some notes more
abbrev pub shapes_behind : List HostShape → List Note → List HostShape
shapes_behind hosts [] = hosts
shapes_behind hosts (note ∷ notes) = shapes_behind (shapes_after hosts note) notes

-- the hosts after a journal
abbrev pub shapes_of : List Note → List HostShape
shapes_of journal = shapes_behind [] journal

-- Answers of a command that has come to a stage.

-- nothing was found yet
abbrev pub IsHead : CommandStage → Type 0
IsHead Begun = ⊤
IsHead Marked = ⊤
IsHead (Met n) = ⊥
IsHead (Named seq) = ⊥

-- the gate was read, and nothing is named
abbrev pub HasReadGate : CommandStage → Type 0
HasReadGate Begun = ⊥
HasReadGate Marked = ⊤
HasReadGate (Met n) = ⊤
HasReadGate (Named seq) = ⊥

-- what a command that appends found
abbrev pub HasMet : CommandStage → Type 0
HasMet Begun = ⊥
HasMet Marked = ⊥
HasMet (Met n) = ⊤
HasMet (Named seq) = ⊥

-- an answer that tells a count of entries stands behind the mark
abbrev pub CountShape : Option ℕ → CommandStage → Type 0
CountShape None stage = ⊤
CountShape (Some m) stage = stage ≡ Marked

-- why nothing is appended: the host is another one than the master; or the path is too long; or what the found entries tell
abbrev pub CauseShape : List ℕ → CommandStage → Cause → Type 0
CauseShape me stage (cause.NotMaster own master) = (own ≡ me) × (own ≢ master) × ((stage ≡ Begun) ⊎ HasMet stage)
CauseShape me stage (cause.LongPath limit) = (stage ≡ Begun) ⊎ HasMet stage
CauseShape me stage cause.BadStripe = HasMet stage
CauseShape me stage (cause.Exists kind) = HasMet stage
CauseShape me stage cause.NoParent = HasMet stage
CauseShape me stage cause.ParentIsFile = HasMet stage
CauseShape me stage (cause.LogFull slots) = HasMet stage
CauseShape me stage (cause.NoSpace units) = HasMet stage

-- which replies a host's command can give, and where: that it is done behind the entry of this number that it named
abbrev pub ReplyShape : List ℕ → Cmd → CommandStage → Reply → Type 0
ReplyShape me cmd stage (reply.Appended seq) = stage ≡ Named seq
ReplyShape me cmd stage (reply.NotAppended why) = HasWish cmd × CauseShape me stage why
ReplyShape me cmd stage (reply.Played m tree) = (cmd ≡ Logplay) × (stage ≡ Marked)
ReplyShape me cmd stage (reply.Mounted m) = (cmd ≡ Mount) × (stage ≡ Marked)
ReplyShape me cmd stage (reply.Same m) = IsVerify cmd × (stage ≡ Marked)
ReplyShape me cmd stage (reply.Differs m offset found wanted) = IsVerify cmd × (stage ≡ Marked)
ReplyShape me cmd stage (reply.Length m size wanted) = IsVerify cmd × (stage ≡ Marked)
ReplyShape me cmd stage (reply.Bytes m bytes) = IsRead cmd × (stage ≡ Marked)
ReplyShape me cmd stage (reply.NotFound m) = (IsVerify cmd ⊎ IsRead cmd) × (stage ≡ Marked)
ReplyShape me cmd stage (reply.IsDirectory m) = (IsVerify cmd ⊎ IsRead cmd) × (stage ≡ Marked)
ReplyShape me cmd stage (reply.Checks m checked) = IsCheck cmd × (stage ≡ Marked)
ReplyShape me cmd stage (reply.Reports report) = (cmd ≡ Fsck) × CountShape (reported_count report.log) stage
ReplyShape me cmd stage (reply.NoSuperblock fault) = (cmd ≢ Fsck) × (stage ≡ Begun)
ReplyShape me cmd stage (reply.BadHeader fault) = (cmd ≢ Fsck) × IsHead stage
ReplyShape me cmd stage (reply.BadSlot seq reason) = (cmd ≢ Fsck) × HasReadGate stage

-- memory may fail at any time
abbrev pub AnswerShape : List ℕ → Cmd → CommandStage → Answer → Type 0
AnswerShape me cmd stage (Replied given) = ReplyShape me cmd stage given
AnswerShape me cmd stage (MediaFault line) = ⊤

-- Notes of a running command.

-- the entry has the path, kind, size and attributes that a command wants
pub record IsWished (w : Wish) (entry : Entry) : Type 0 where
  pub kind : entry.kind ≡ w.kind
  pub path : entry.path ≡ w.path
  pub size : entry.size ≡ w.size
  pub mode : entry.mode ≡ w.attr.mode
  pub uid : entry.uid ≡ w.attr.uid
  pub gid : entry.gid ≡ w.attr.gid

-- so it is of a command that appends
abbrev pub EntryShape : Cmd → Entry → Type 0
EntryShape cmd entry = (w : Wish) × (wish_of cmd ≡ Some w) × IsWished w entry

-- which note the command of host h may give next
abbrev pub TaskNote : ℕ → List ℕ → TaskShape → Note → Type 0
TaskNote h me t (Host name uuid) = ⊥
TaskNote h me t (Made host p) = ⊥
TaskNote h me t (Cut host k) = ⊥
TaskNote h me t (Start host cmd) = ⊥
TaskNote h me t (Mark host) = (host ≡ h) × (t.stage ≡ Begun)
TaskNote h me t (Found host n) = (host ≡ h) × HasWish t.cmd × (t.stage ≡ Marked)
TaskNote h me t (Writes host seq entry) = (host ≡ h) × EntryShape t.cmd entry × (t.stage ≡ Met seq)
TaskNote h me t (Answered host answer) = (host ≡ h) × AnswerShape me t.cmd t.stage answer
TaskNote h me t (Stop host) = ⊥
TaskNote h me t (Halt host) = ⊥
TaskNote h me t (Umount host) = ⊥
TaskNote h me t (Refused name why) = ⊥

-- the host has a running command, of which this holds
abbrev pub OfTask : Option TaskShape → (TaskShape → Type 0) → Type 0
OfTask None P = ⊥
OfTask (Some t) P = P t

-- so it is of the task of a declared host, with the host's UUID
abbrev pub OfRunning : Option HostShape → (List ℕ → TaskShape → Type 0) → Type 0
OfRunning None P = ⊥
OfRunning (Some host) P = OfTask host.task (P host.uuid)

-- notes of host h's running command, one behind another. Behind its answer it runs no more, so nothing comes
abbrev pub OperationsShape : ℕ → List HostShape → List Note → Type 0
OperationsShape h hosts [] = ⊤
OperationsShape h hosts (note ∷ notes) = OfRunning (slice_get hosts h) (λ me t. TaskNote h me t note) × OperationsShape h (shapes_after hosts note) notes

-- the host has a running command
abbrev pub runs_shape : Option HostShape → Bool
runs_shape None = false
runs_shape (Some host) = is_some host.task

-- and at the end it runs none
pub record CompletesShape (h : ℕ) (hosts : List HostShape) (notes : List Note) : Type 0 where
  pub operations : OperationsShape h hosts notes
  pub done : runs_shape (slice_get (shapes_behind hosts notes) h) ≡ false

-- and at the end it runs on: none of them is its answer
pub record UnfinishedShape (h : ℕ) (hosts : List HostShape) (notes : List Note) : Type 0 where
  pub operations : OperationsShape h hosts notes
  pub runs : runs_shape (slice_get (shapes_behind hosts notes) h) ≡ true

-- Refusals: the first one, as far as the notes tell it.

-- a task that runs, as refusals see it
abbrev pub shown_running : Option TaskShape → Option TaskState
shown_running None = None
shown_running (Some t) = Some (task_begun None t.cmd [])

-- that something is kept, and nothing more
abbrev pub shown_keeping : Bool → Option Kept
shown_keeping true = Some (record { params = no_params; entries = [] })
shown_keeping false = None

-- a host as refusals see it, but its cache, of which notes tell nothing
abbrev pub shown_shape : HostShape → HostState
shown_shape host = record { name = host.name; uuid = host.uuid; cache = finmap.empty; task = shown_running host.task; kept = shown_keeping host.keeps }

-- on a media of so many lines
abbrev pub shown_shapes : ℕ → List HostShape → Machines
shown_shapes lines hosts = record { memory = replicate lines []; hosts = map shown_shape hosts }

-- before any operation of making a file system: notes don't tell whose lines are dirty
abbrev pub makes_told : ℕ → ℕ → Machines → Option Refusal
makes_told unit log m = or_else (option_map cause_of (early_refusal unit log (line_bytes * length m.memory))) (busy_refusal (index_of is_engaged m.hosts))

-- the first refusal that notes tell of a call; which caches are dirty they don't
abbrev pub refusal_told : Call → ℕ → List HostShape → Option Refusal
refusal_told (call.Declares name uuid) lines hosts = refusal_of (call.Declares name uuid) (shown_shapes lines hosts)
refusal_told (call.Makes name request) lines hosts = on_host (number_of name (shown_shapes lines hosts)) (λ h. makes_told request.unit request.log (shown_shapes lines hosts))
refusal_told (call.Begins name cmd) lines hosts = refusal_of (call.Begins name cmd) (shown_shapes lines hosts)
refusal_told (call.Steps name) lines hosts = refusal_of (call.Steps name) (shown_shapes lines hosts)
refusal_told (call.Finishes name) lines hosts = refusal_of (call.Finishes name) (shown_shapes lines hosts)
refusal_told (call.Stops name) lines hosts = refusal_of (call.Stops name) (shown_shapes lines hosts)
refusal_told (call.Halts name) lines hosts = refusal_of (call.Halts name) (shown_shapes lines hosts)
refusal_told (call.Umounts name) lines hosts = refusal_of (call.Umounts name) (shown_shapes lines hosts)
refusal_told (call.Moves name line move) lines hosts = refusal_of (call.Moves name line move) (shown_shapes lines hosts)
refusal_told (call.Refuses name why) lines hosts = refusal_of (call.Refuses name why) (shown_shapes lines hosts)

-- Calls.

-- another host than the maker has a dirty line
pub record DirtyShape (name : List ℕ) (lines : ℕ) (hosts : List HostShape) (notes : List Note) : Type 0 where
  pub maker : ℕ
  pub number : number_of name (shown_shapes lines hosts) ≡ Some maker
  pub dirty : ℕ
  pub declared : dirty < length hosts
  pub other : dirty ≢ maker
  pub notes_are : notes ≡ Refused name (why.Dirty (record { 0 = dirty })) ∷ []

-- a superblock stands there
pub record SuperForm (force : Bool) (name : List ℕ) (notes : List Note) : Type 0 where
  pub unforced : force ≡ false
  pub fs : List ℕ
  pub notes_are : notes ≡ Refused name (why.HasSuper fs) ∷ []

-- the media failed at a line
abbrev pub FaultShape : List ℕ → List Note → Type 0
FaultShape name notes = (line : ℕ) × (notes ≡ Refused name (why.MediaFault (record { 0 = line })) ∷ [])

-- what a mkfs notes that goes on, by after how many operations its maker halts
abbrev pub made_note : Option ℕ → ℕ → Params → Note
made_note None h p = Made h p
made_note (Some k) h p = Cut h k

-- what a call adds that isn't refused as the notes tell it, of a declared host: a file system is made of just what was asked
-- for, or its maker halts
abbrev pub ActsShape : Call → ℕ → HostShape → ℕ → List HostShape → List Note → Type 0
ActsShape (call.Declares name uuid) h host lines hosts notes = ⊥
ActsShape (call.Makes name request) h host lines hosts notes =
    (notes ≡ made_note request.halt h (asked request host.uuid lines) ∷ []) ⊎ SuperForm request.force name notes
ActsShape (call.Begins name cmd) h host lines hosts notes = notes ≡ Start h cmd ∷ []
ActsShape (call.Steps name) h host lines hosts notes = OperationsShape h hosts notes × (length notes ≤ 1)
ActsShape (call.Finishes name) h host lines hosts notes = CompletesShape h hosts notes
ActsShape (call.Stops name) h host lines hosts notes = notes ≡ Stop h ∷ []
ActsShape (call.Halts name) h host lines hosts notes = notes ≡ Halt h ∷ []
ActsShape (call.Umounts name) h host lines hosts notes = notes ≡ Umount h ∷ []
ActsShape (call.Moves name line move) h host lines hosts notes =
    (notes ≡ []) ⊎ (notes ≡ Refused name (why.MediaFault (record { 0 = line })) ∷ [])
ActsShape (call.Refuses name why) h host lines hosts notes = ⊥

-- the host of a number is declared, and this holds of it
abbrev pub OfHostShape : Option HostShape → (HostShape → Type 0) → Type 0
OfHostShape None P = ⊥
OfHostShape (Some host) P = P host

-- so it is of the host of this number
abbrev pub AtShape : Option ℕ → List HostShape → (ℕ → HostShape → Type 0) → Type 0
AtShape None hosts P = ⊥
AtShape (Some h) hosts P = OfHostShape (slice_get hosts h) (P h)

-- the shape of what a call does of the host that it names
abbrev pub HostActsShape : Call → ℕ → List HostShape → List Note → Type 0
HostActsShape c lines hosts notes =
    AtShape (number_of (asked_name c) (shown_shapes lines hosts)) hosts (λ h host. ActsShape c h host lines hosts notes)

-- the shape of a call's notes where notes tell no refusal of it
abbrev pub FreeShape : Call → ℕ → List HostShape → List Note → Type 0
FreeShape (call.Declares name uuid) lines hosts notes = notes ≡ Host name uuid ∷ []
FreeShape (call.Makes name request) lines hosts notes = HostActsShape (call.Makes name request) lines hosts notes ⊎ DirtyShape name lines hosts notes
FreeShape (call.Begins name cmd) lines hosts notes = HostActsShape (call.Begins name cmd) lines hosts notes
FreeShape (call.Steps name) lines hosts notes = HostActsShape (call.Steps name) lines hosts notes
FreeShape (call.Finishes name) lines hosts notes = HostActsShape (call.Finishes name) lines hosts notes
FreeShape (call.Stops name) lines hosts notes = HostActsShape (call.Stops name) lines hosts notes
FreeShape (call.Halts name) lines hosts notes = HostActsShape (call.Halts name) lines hosts notes
FreeShape (call.Umounts name) lines hosts notes = HostActsShape (call.Umounts name) lines hosts notes
FreeShape (call.Moves name line move) lines hosts notes = HostActsShape (call.Moves name line move) lines hosts notes
FreeShape (call.Refuses name why) lines hosts notes =
    (notes ≡ Refused name why ∷ []) × (IsOfSource why ⊎ ((mount : Bool) × (may_begin name mount (shown_shapes lines hosts) ≡ Some why)))

-- by the first refusal, if any
abbrev pub ShapeByRefusal : List ℕ → Option Refusal → List Note → Type 0 → Type 0
ShapeByRefusal name (Some why) notes free = notes ≡ Refused name why ∷ []
ShapeByRefusal name None notes free = free

-- what a call adds after which the run goes on
abbrev pub DoesShape : Call → ℕ → List HostShape → List Note → Type 0
DoesShape c lines hosts notes = ShapeByRefusal (asked_name c) (refusal_told c lines hosts) notes (FreeShape c lines hosts notes)

-- a media fault cuts the making of a file system
abbrev pub BreaksShape : Call → ℕ → List HostShape → List Note → Type 0
BreaksShape (call.Declares name uuid) lines hosts notes = ⊥
BreaksShape (call.Makes name request) lines hosts notes =
    (refusal_told (call.Makes name request) lines hosts ≡ None) × FaultShape name notes
BreaksShape (call.Begins name cmd) lines hosts notes = ⊥
BreaksShape (call.Steps name) lines hosts notes = ⊥
BreaksShape (call.Finishes name) lines hosts notes = ⊥
BreaksShape (call.Stops name) lines hosts notes = ⊥
BreaksShape (call.Halts name) lines hosts notes = ⊥
BreaksShape (call.Umounts name) lines hosts notes = ⊥
BreaksShape (call.Moves name line move) lines hosts notes = ⊥
BreaksShape (call.Refuses name why) lines hosts notes = ⊥

-- notes of the running command of the host of a name, which has not answered
pub record SomeShape (name : List ℕ) (lines : ℕ) (hosts : List HostShape) (notes : List Note) : Type 0 where
  pub host : ℕ
  pub number : number_of name (shown_shapes lines hosts) ≡ Some host
  pub part : UnfinishedShape host hosts notes

-- no memory was left: a finish adds notes of the operations that it did, without an answer, and any other call none
abbrev pub PartShape : Call → ℕ → List HostShape → List Note → Type 0
PartShape (call.Declares name uuid) lines hosts notes = notes ≡ []
PartShape (call.Makes name request) lines hosts notes = notes ≡ []
PartShape (call.Begins name cmd) lines hosts notes = notes ≡ []
PartShape (call.Steps name) lines hosts notes = notes ≡ []
PartShape (call.Finishes name) lines hosts notes = (notes ≡ []) ⊎ SomeShape name lines hosts notes
PartShape (call.Stops name) lines hosts notes = notes ≡ []
PartShape (call.Halts name) lines hosts notes = notes ≡ []
PartShape (call.Umounts name) lines hosts notes = notes ≡ []
PartShape (call.Moves name line move) lines hosts notes = notes ≡ []
PartShape (call.Refuses name why) lines hosts notes = notes ≡ []

-- Worlds.

-- the stage of a command that reads entries, by what it wants and the gate that it read
abbrev pub reading_stage : Option Wish → ℕ → CommandStage
reading_stage None gate = Marked
reading_stage (Some w) gate = Met gate

-- the stage of a task in a phase
abbrev pub stage_at : Phase → Task → CommandStage
stage_at at.DropMagic t = Begun
stage_at at.Magic t = Begun
stage_at (at.Drop Superblock j) t = Begun
stage_at (at.Drop Header j) t = Begun
stage_at (at.Drop (Slot i) j) t = reading_stage (wish_of t.cmd) t.gate
stage_at (at.Drop File j) t = reading_stage (wish_of t.cmd) t.gate
stage_at (at.Word Superblock j k) t = Begun
stage_at (at.Word Header j k) t = Begun
stage_at (at.Word (Slot i) j k) t = reading_stage (wish_of t.cmd) t.gate
stage_at (at.Word File j k) t = reading_stage (wish_of t.cmd) t.gate
stage_at at.DropGate t = Begun
stage_at at.Gate t = Marked
stage_at (at.Check i) t = reading_stage (wish_of t.cmd) t.gate
stage_at at.Decide t = reading_stage (wish_of t.cmd) t.gate
stage_at (at.StoreData j k) t = Named t.gate
stage_at (at.SendData j) t = Named t.gate
stage_at (at.StoreSlot j k) t = Named t.gate
stage_at (at.SendSlot j) t = Named t.gate
stage_at at.StoreGate t = Named t.gate
stage_at at.FenceSlot t = Named t.gate
stage_at at.SendGate t = Named t.gate
stage_at at.FenceGate t = Named t.gate

-- how far a task has come
abbrev pub stage_of : Task → CommandStage
stage_of t = stage_at t.phase t

-- a task is where its notes tell it is, for the host of this UUID
pub record IsTaskShape (me : List ℕ) (t : Task) (shape : TaskShape) : Type 0 where
  pub cmd : shape.cmd ≡ t.cmd
  pub me_is : t.me ≡ me
  pub stage : shape.stage ≡ stage_of t

-- a task is as notes tell it
abbrev pub TaskShaped : List ℕ → Option Task → Option TaskShape → Type 0
TaskShaped me None None = ⊤
TaskShaped me None (Some shape) = ⊥
TaskShaped me (Some t) None = ⊥
TaskShaped me (Some t) (Some shape) = IsTaskShape me t shape

-- a world's host is as notes tell it
pub record HostShaped (view : HostView) (shape : HostShape) : Type 0 where
  pub name : shape.name ≡ view.name
  pub uuid : shape.uuid ≡ view.uuid
  pub task : TaskShaped view.uuid view.task shape.task
  pub keeps : shape.keeps ≡ is_some view.kept

-- two lists have as many members, and each two of a place are such
abbrev pub Pairs : {A B : Type 0} → (A → B → Type 0) → List A → List B → Type 0
Pairs P [] [] = ⊤
Pairs P [] (y ∷ ys) = ⊥
Pairs P (x ∷ xs) [] = ⊥
Pairs P (x ∷ xs) (y ∷ ys) = P x y × Pairs P xs ys

-- the world's hosts are what its journal tells of them
abbrev pub IsShaped : WorldView → Type 0
IsShaped world = Pairs HostShaped world.hosts (shapes_of world.journal)

-- Machines: their hosts are what notes tell of them, on a media of so many lines.

-- a task of the machine stands for one whose notes tell where it is
pub record IsStateTask (lines : ℕ) (me : List ℕ) (state : TaskState) (shape : TaskShape) : Type 0 where
  pub task : Task
  pub stands : StandsAs lines state task
  pub is : IsTaskShape me task shape

-- a task of the machine is as notes tell it
abbrev pub StateTaskShaped : ℕ → List ℕ → Option TaskState → Option TaskShape → Type 0
StateTaskShaped lines me None None = ⊤
StateTaskShaped lines me None (Some shape) = ⊥
StateTaskShaped lines me (Some state) None = ⊥
StateTaskShaped lines me (Some state) (Some shape) = IsStateTask lines me state shape

-- a host of the machine is as notes tell it
pub record StateShaped (lines : ℕ) (host : HostState) (shape : HostShape) : Type 0 where
  pub name : shape.name ≡ host.name
  pub uuid : shape.uuid ≡ host.uuid
  pub task : StateTaskShaped lines host.uuid host.task shape.task
  pub keeps : shape.keeps ≡ is_some host.kept
  pub joined : IsKept host.kept

-- the machine has so many lines, and its hosts are as notes tell them
pub record AreShaped (lines : ℕ) (m : Machines) (hosts : List HostShape) : Type 0 where
  pub lines_are : length m.memory ≡ lines
  pub shaped : Pairs (StateShaped lines) m.hosts hosts
