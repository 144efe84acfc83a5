-- What the world's calls promise: where the media's image is modelled, and on every media.
use Rattle.std.specs.Prelude.{ℕ, ⊤, ◌≡◌, ◌⊎◌, ◌<◌, ◌≤◌, Bool, List, [], ◌∷◌, ◌++◌, length, map, slice_get, Option, Some, None, IfSome, unwrap_or}
use Rattle.std.specs.List.{list_any}
use Rattle.fam_base.specs.Image.{Image}
use Rattle.fam_machine.specs.Caches.{cell_at}
use Rattle.fam_machine.specs.OneLine.{IsHeld}
use Rattle.fam_commands.specs.Task.{Task, op_of}
use Rattle.fam_machine.specs.Operations.{Machine, given, operated}
use Rattle.fam_commands.specs.FirstStore.{IsUnstored}
use Rattle.fam_commands.specs.Keeping.{kept_after}
use Rattle.fam_commands.specs.Stands.{note_of, task_after, turn_given}
use Rattle.fam_commands.specs.Turns.{Turn}
use Rattle.fam_journal.specs.Members.{changed_at}
use Rattle.fam_format.specs.Params.{IsUuid}
use Rattle.fam_media.specs.Outside.{IfModelled}
use Rattle.fam_media.specs.States.{MediaChange}
use Rattle.fam_protocol.specs.Tasks.{IsCommand}
use Rattle.fam_journal.specs.Calls as call
use Rattle.fam_journal.specs.declared.refusal.Refusal.{Refusal}
use Rattle.fam_journal.specs.Calls.{Call, Does, CutCall, IsSoundRequest, Unfinished, asked_name, number_of}
use Rattle.fam_journal.specs.Ends.{CutCallReads, HasCounted, is_answer_note}
use Rattle.fam_journal.specs.Shapes.{BreaksShape, DoesShape, HostShape, IsShaped, PartShape, shapes_of}
use Rattle.fam_journal.specs.Legal.{Legal}
use Rattle.fam_journal.specs.Machines.{Machines, notes_of}
use Rattle.fam_journal.specs.Names.{AreNamed}
use Rattle.fam_journal.specs.Notes.{Note, Refused}
use Rattle.fam_journal.specs.Past.{past_of}
use Rattle.fam_journal.specs.View.{HostView, WorldView, WorldStands}
use Rattle.fam_journal.specs.Kept.{Held}
use Rattle.fam_journal.specs.ByWorld.{busy_in, number_in, refusal_in, world_after}
use Rattle.fam_journal.specs.NoteClasses.{NoteClass, note_class, Declared, Formatted, Going, Answering, Refusing}
use Rattle.fam_journal.specs.RefusalClasses.{RefusalClass, refusal_class, AtOnce, ByHost, ByImage, BySource, ByFault}

-- What a call makes of it. `told` is the media's image, where it is modelled.

-- the call did what its row says, and the world is held again
pub record DoesRow (start : Image) (told : Option Image) (does : List Note → Machines → Type 0) (old new : WorldView) : Type 0 where
  pub state : Machines
  pub notes : List Note
  pub row : does notes state
  pub told_is : told ≡ Some state.memory
  pub joined : new.journal ≡ old.journal ++ notes
  pub held : Held start state new state.memory

-- the media failed in a mkfs: the same, but that the world is held is no longer said. It stands for the state behind it: the
-- maker's cache, and every other host as before. The image reads as before the call, as no superblock, or as the new file system
pub record LeavesBroken (start : Image) (told : Option Image) (c : Call) (begun : Machines) (old new : WorldView) : Type 0 where
  pub state : Machines
  pub notes : List Note
  pub row : CutCall c begun notes state
  pub told_is : told ≡ Some state.memory
  pub joined : new.journal ≡ old.journal ++ notes
  pub stands : WorldStands (length start) state new
  pub legal : Legal start new.journal
  pub reads : CutCallReads c begun (past_of start old.journal).state state.memory

-- what is left where no memory was found for an operation: a call that runs a task to its answer has done some of the
-- operations before it, and any other call nothing
pub record SomeOfFinish (name : List ℕ) (state : Machines) (notes : List Note) (left : Machines) : Type 0 where
  pub host : ℕ
  pub number : number_of name state ≡ Some host
  pub does : Unfinished host state notes left

-- of a host that isn't declared nothing was done, where there was no room for the note that says so
abbrev pub FinishPart : List ℕ → Machines → List Note → Machines → Type 0
FinishPart name state notes left = SomeOfFinish name state notes left ⊎ ((notes ≡ []) × (left ≡ state))

-- what a call has done for which no memory was found: nothing, but some operations of a finish
abbrev pub DoesPart : Call → Machines → List Note → Machines → Type 0
DoesPart (call.Declares name uuid) state notes left = (notes ≡ []) × (left ≡ state)
DoesPart (call.Makes name request) state notes left = (notes ≡ []) × (left ≡ state)
DoesPart (call.Begins name cmd) state notes left = (notes ≡ []) × (left ≡ state)
DoesPart (call.Steps name) state notes left = (notes ≡ []) × (left ≡ state)
DoesPart (call.Finishes name) state notes left = FinishPart name state notes left
DoesPart (call.Stops name) state notes left = (notes ≡ []) × (left ≡ state)
DoesPart (call.Halts name) state notes left = (notes ≡ []) × (left ≡ state)
DoesPart (call.Umounts name) state notes left = (notes ≡ []) × (left ≡ state)
DoesPart (call.Moves name line move) state notes left = (notes ≡ []) × (left ≡ state)
DoesPart (call.Refuses name cause) state notes left = (notes ≡ []) × (left ≡ state)

-- what a call of the world promises where the media's image is modelled and the world was held: its row is done, or where no
-- memory was left a part of it, or a media fault cut it, which only making a file system may be
abbrev pub CallKeeps : Call → Image → Option Image → Option Image → WorldView → WorldView → Type 0
CallKeeps call start before told old new =
    (state : Machines) → before ≡ Some state.memory → Held start state old state.memory → DoesRow start told (Does call state) old new

-- on an image that is modelled the world is held behind such a call, as what was done has it
abbrev pub CallParts : Call → Image → Option Image → Option Image → WorldView → WorldView → Type 0
CallParts call start before told old new =
    (state : Machines) → before ≡ Some state.memory → Held start state old state.memory → DoesRow start told (DoesPart call state) old new

-- on an image that is modelled a mkfs was cut by a media fault, as its row has it, and what the image reads as then is told
abbrev pub CallBreaks : Call → Image → Option Image → Option Image → WorldView → WorldView → Type 0
CallBreaks call start before told old new =
    (state : Machines) → before ≡ Some state.memory → Held start state old state.memory → LeavesBroken start told call state old new

-- UUIDs and formats are such, and a command's numbers, path and bytes fit
abbrev pub IsSoundCall : Call → Type 0
IsSoundCall (call.Declares name uuid) = IsUuid uuid
IsSoundCall (call.Makes name request) = IsSoundRequest request
IsSoundCall (call.Begins name cmd) = IsCommand cmd
IsSoundCall (call.Steps name) = ⊤
IsSoundCall (call.Finishes name) = ⊤
IsSoundCall (call.Stops name) = ⊤
IsSoundCall (call.Halts name) = ⊤
IsSoundCall (call.Umounts name) = ⊤
IsSoundCall (call.Moves name line move) = ⊤
IsSoundCall (call.Refuses name cause) = ⊤

-- What a call promises on every media, modelled or not. `before` and `now` are the media's counts of faults.

-- the task is that of an image of so many lines
abbrev pub TaskFits : ℕ → Option Task → Type 0
TaskFits lines None = ⊤
TaskFits lines (Some t) = t.lines ≡ lines

-- the host's task, and every line that its cache holds, are of an image of so many lines
pub record HostFits (lines : ℕ) (view : HostView) : Type 0 where
  pub task : TaskFits lines view.task
  pub cache : (l : ℕ) → IsHeld (cell_at view.cache l) → l < lines

-- all tasks and all cached lines are those of a media of so many lines
abbrev pub FitsMedia : ℕ → List HostView → Type 0
FitsMedia lines views = (h : ℕ) (view : HostView) → slice_get views h ≡ Some view → HostFits lines view

-- a host's name and UUID
abbrev pub heading : HostView → List ℕ × List ℕ
heading view = (view.name, view.uuid)

-- a call that takes no media adds notes of its shape, and the world's hosts are what its journal tells again
pub record HasShape (c : Call) (lines : ℕ) (old new : WorldView) : Type 0 where
  pub notes : List Note
  pub joined : new.journal ≡ old.journal ++ notes
  pub shape : DoesShape c lines (shapes_of old.journal) notes
  pub shaped : IsShaped new

-- notes are added that name declared hosts; the media's count rose by as many faults as they tell; hosts keep their names and
-- UUIDs; what fitted the media fits it still; and hosts that were what the journal tells are so still
pub record Adds (lines before now : ℕ) (old new : WorldView) : Type 0 where
  pub notes : List Note
  pub joined : new.journal ≡ old.journal ++ notes
  pub counted : HasCounted before now notes
  pub later : before ≤ now
  pub named : AreNamed (length new.hosts) notes
  pub hosts : map heading new.hosts ≡ map heading old.hosts
  pub fits : FitsMedia lines old.hosts → FitsMedia lines new.hosts
  pub shaped : IsShaped old → IsShaped new

-- what a call adds that didn't lack memory: all of its row, or what a media fault left of it
abbrev pub CallShape : Call → ℕ → List HostShape → List Note → Type 0
CallShape c lines hosts notes = DoesShape c lines hosts notes ⊎ BreaksShape c lines hosts notes

-- the cause of a refusal that is noted; other notes have none; by the class of the note
abbrev pub cause_noted_in : NoteClass → Option Refusal
cause_noted_in (Declared name uuid) = None
cause_noted_in (Formatted host p) = None
cause_noted_in (Going host) = None
cause_noted_in (Answering host answer) = None
cause_noted_in (Refusing name cause) = Some cause

-- so of a note, by its class
abbrev pub cause_noted : Note → Option Refusal
cause_noted note = cause_noted_in (note_class note)

-- the refusal that the notes of a call tell
abbrev pub refusal_noted : List Note → Option Refusal
refusal_noted [] = None
refusal_noted (note ∷ []) = cause_noted note
refusal_noted (note ∷ next ∷ notes) = None

-- what may still be refused of a call after the tests of `refusal_of`: by what mkfs reads, by memory, or as it is told to; by the class of the refusal
abbrev pub IsLateMakeIn : RefusalClass → Type 0
IsLateMakeIn AtOnce = ⊥
IsLateMakeIn (ByHost host) = ⊥
IsLateMakeIn ByImage = ⊤
IsLateMakeIn BySource = ⊥
IsLateMakeIn (ByFault at) = ⊤

-- so of a refusal, by its class
abbrev pub IsLateMake : Refusal → Type 0
IsLateMake cause = IsLateMakeIn (refusal_class cause)

-- a cache's move is refused so once it has begun: the media failed; by the class of the refusal
abbrev pub IsLateMoveIn : RefusalClass → Type 0
IsLateMoveIn AtOnce = ⊥
IsLateMoveIn (ByHost host) = ⊥
IsLateMoveIn ByImage = ⊥
IsLateMoveIn BySource = ⊥
IsLateMoveIn (ByFault at) = ⊤

-- so of a refusal, by its class
abbrev pub IsLateMove : Refusal → Type 0
IsLateMove cause = IsLateMoveIn (refusal_class cause)

-- a call is refused so once it has begun: a mkfs or a cache's move
abbrev pub IsLate : Call → Refusal → Type 0
IsLate (call.Declares name uuid) cause = ⊥
IsLate (call.Makes name request) cause = IsLateMake cause
IsLate (call.Begins name cmd) cause = ⊥
IsLate (call.Steps name) cause = ⊥
IsLate (call.Finishes name) cause = ⊥
IsLate (call.Stops name) cause = ⊥
IsLate (call.Halts name) cause = ⊥
IsLate (call.Umounts name) cause = ⊥
IsLate (call.Moves name line move) cause = IsLateMove cause
IsLate (call.Refuses name own) cause = cause ≡ own

-- a call that didn't lack memory answers the refusal that it notes, if any (`said`); that is the first one that the world
-- alone tells, and then no host changes (`refused`); where the world tells none, only a late one comes (`free`). Its notes
-- are those of such a call, by what the journal tells (`shape`)
pub record Answers (c : Call) (lines : ℕ) (answered : Option Refusal) (before now : ℕ) (old new : WorldView) : Type 0 where
  pub adds : Adds lines before now old new
  pub said : answered ≡ refusal_noted adds.notes
  pub refused : (cause : Refusal) → refusal_in c old lines ≡ Some cause → (adds.notes ≡ Refused (asked_name c) cause ∷ []) × (new.hosts ≡ old.hosts)
  pub free : (cause : Refusal) → refusal_in c old lines ≡ None → answered ≡ Some cause → IsLate c cause
  pub shape : IsShaped old → CallShape c lines (shapes_of old.journal) adds.notes

-- a step says besides whether its task is over: just where it noted an answer
pub record AnswersStep (name : List ℕ) (lines : ℕ) (answered : Option Refusal) (over : Bool) (before now : ℕ) (old new : WorldView) : Type 0 where
  pub answers : Answers (call.Steps name) lines answered before now old new
  pub over_is : over ≡ list_any is_answer_note answers.adds.notes

-- Calls and their answers: one record for each, which a contract cites. `answered` is the refusal that the call gave, if any.

-- host, begin, stop, halt, umount, refuse: the world alone tells what becomes of it, and what is answered
pub record WorldCall (c : Call) (lines : ℕ) (answered : Option Refusal) (old new : WorldView) : Type 0 where
  pub after : new ≡ world_after c lines old
  pub said : answered ≡ refusal_in c old lines

-- finish, evict, leak, fetch: what holds on every media; and where the image is modelled, the call's row
pub record MediaCall (c : Call) (lines : ℕ) (answered : Option Refusal) (media : MediaChange) (old new : WorldView) : Type 0 where
  pub answers : Answers c lines answered media.old.faults media.new.faults old new
  pub keeps : (start : Image) → CallKeeps c start media.old.image media.new.image old new

-- step: so too, and whether the task is over
pub record StepCall (name : List ℕ) (lines : ℕ) (answered : Option Refusal) (over : Bool) (media : MediaChange) (old new : WorldView) : Type 0 where
  pub answers : AnswersStep name lines answered over media.old.faults media.new.faults old new
  pub keeps : (start : Image) → CallKeeps (call.Steps name) start media.old.image media.new.image old new

-- a mkfs is cut by a media fault where it answers that, and else does its row; by the class of the refusal
abbrev pub KeepsOrBreaksIn : RefusalClass → Call → Image → Option Image → Option Image → WorldView → WorldView → Type 0
KeepsOrBreaksIn AtOnce c start told told_now old new = CallKeeps c start told told_now old new
KeepsOrBreaksIn (ByHost host) c start told told_now old new = CallKeeps c start told told_now old new
KeepsOrBreaksIn ByImage c start told told_now old new = CallKeeps c start told told_now old new
KeepsOrBreaksIn BySource c start told told_now old new = CallKeeps c start told told_now old new
KeepsOrBreaksIn (ByFault at) c start told told_now old new = CallBreaks c start told told_now old new

-- so of a refusal, by its class
abbrev pub KeepsOrBreaks : Refusal → Call → Image → Option Image → Option Image → WorldView → WorldView → Type 0
KeepsOrBreaks cause c start told told_now old new = KeepsOrBreaksIn (refusal_class cause) c start told told_now old new

-- what a mkfs leaves on an image that is modelled: its row, or where the media failed what stands behind the cut
abbrev pub MakeLeaves : Option Refusal → Call → Image → Option Image → Option Image → WorldView → WorldView → Type 0
MakeLeaves None c start told told_now old new = CallKeeps c start told told_now old new
MakeLeaves (Some cause) c start told told_now old new = KeepsOrBreaks cause c start told told_now old new

-- mkfs
pub record MakeCall (c : Call) (lines : ℕ) (answered : Option Refusal) (media : MediaChange) (old new : WorldView) : Type 0 where
  pub answers : Answers c lines answered media.old.faults media.new.faults old new
  pub leaves : (start : Image) → MakeLeaves answered c start media.old.image media.new.image old new

-- a host's task has come no further than to the first store of an append, if it has any, and reads on a cache with nothing
-- to send
abbrev pub IsUnstoredAt : ℕ → WorldView → Type 0
IsUnstoredAt h world =
    (view : HostView) → slice_get world.hosts h ≡ Some view → IfSome view.task (λ t. IsUnstored t view.cache)

-- a finish that found no memory: what it did until then stands
pub record FinishOutOfMemory (name : List ℕ) (lines : ℕ) (media : MediaChange) (old new : WorldView) : Type 0 where
  pub adds : Adds lines media.old.faults media.new.faults old new
  pub shape : IsShaped old → PartShape (call.Finishes name) lines (shapes_of old.journal) adds.notes
  pub parts : (start : Image) → CallParts (call.Finishes name) start media.old.image media.new.image old new
  -- the host has a task just where it had one: neither an answer nor a media fault hides behind the want of memory
  pub runs : (h : ℕ) → number_in name old ≡ Some h → busy_in h new ≡ busy_in h old
  -- where nothing of the host's task was stored at first, and its cache had nothing to send, memory is as it was
  pub same : (h : ℕ) → number_in name old ≡ Some h → IsUnstoredAt h old → IfModelled media.old.image (λ image. media.new.image ≡ Some image)

-- The world after an operation that the media served, as the world's own task has it.

-- a host's own task does its operation on the image
abbrev pub own_machine : Image → HostView → Machine
own_machine image view = record { image = image; cache = view.cache }

-- the turn of a host's task on the word that its next operation gives
abbrev pub own_turn : Image → HostView → Task → Turn
own_turn image view t = turn_given t (unwrap_or (given (op_of t) (own_machine image view)) 0)

-- the world behind one operation of a host's task, which the media served
abbrev pub stepped_world : Image → ℕ → HostView → Task → WorldView → WorldView
stepped_world image h view t world = record {
  hosts = changed_at h (λ v. record v { cache = (operated (op_of t) (own_machine image view)).cache; task = task_after (own_turn image view t); kept = kept_after (own_turn image view t) t v.kept }) world.hosts;
  journal = world.journal ++ notes_of h (note_of (own_turn image view t));
}

-- it is the row of a step, on the state that the world stands for
pub record IsStepped (name : List ℕ) (h : ℕ) (view : HostView) (t : Task) (state : Machines) (world : WorldView) : Type 0 where
  pub left : Machines
  pub row : Does (call.Steps name) state (notes_of h (note_of (own_turn state.memory view t))) left
  pub memory : left.memory ≡ (operated (op_of t) (own_machine state.memory view)).image
  pub stands : WorldStands (length state.memory) left (stepped_world state.memory h view t world)
