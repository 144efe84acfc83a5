-- Scripts of whole commands: hosts are declared, make file systems and run commands, one event after another, and caches
-- move by themselves between them. While the media doesn't fail nothing interrupts a command; but the maker of a file system
-- may halt. What then holds of the machine of all hosts and of its journal.
use Rattle.std.specs.Prelude.{ℕ, ⊤, ◌≡◌, ◌⊎◌, ◌*◌, ◌≤◌, if◌then◌else◌, Bool, true, false, List, [], ◌∷◌, ◌++◌, length, slice_get, take, Option, Some, None, option_map}
use Rattle.fam_base.specs.declared.cmd.Cmd.{Cmd}
use Rattle.fam_base.specs.Image.{Image, line_at}
use Rattle.fam_format.specs.declared.faults.SuperFault.TheVariants as super
use Rattle.fam_format.specs.Reading as read
use Rattle.fam_format.specs.Reading.{reading}
use Rattle.fam_machine.specs.declared.request.MkfsRequest.{MkfsRequest}
use Rattle.fam_machine.specs.Mkfs.{asked, halted_image}
use Rattle.fam_media.specs.Files.{Files}
use Rattle.fam_media.specs.Outside.{with_piece}
use Rattle.fam_rules.specs.Solo.{solo_reply}
use Rattle.fam_rules.specs.Place.{line_bytes}
use Rattle.fam_rules.specs.Reply as reply
use Rattle.fam_rules.specs.Reply.{Reply}
use Rattle.fam_rules.specs.Reports.{report_of}
use Rattle.fam_rules.specs.Written.{formatted, written}
use Rattle.fam_journal.specs.declared.event.Event.{Event}
use Rattle.fam_journal.specs.declared.event.Event.TheVariants as event
use Rattle.fam_outcomes.specs.declared.status.Status.{Status}
use Rattle.fam_journal.specs.Complete.{RunsEnd}
use Rattle.fam_journal.specs.Ends.{AllDone, Ending, EndsOutOfMemory, IsFaultless, ReadsAs, faults_of}
use Rattle.fam_journal.specs.Events.{DoesEvent, PartOf, Session, first_session}
use Rattle.fam_journal.specs.Follows.{Follows}
use Rattle.fam_journal.specs.Legal.{OfHost}
use Rattle.fam_journal.specs.Notes.{Answer, Replied, MediaFault, Note, Host, Made, Cut, Start, Mark, Found, Writes, Answered, Stop, Halt, Umount, Refused}
use Rattle.fam_journal.specs.Past.{HostPast, Past, Damage, NoSuperblock, State, Bad, Sound, reply_count, first_past, first_state, past_after, past_behind, past_of, settled_length, Origin, Given, Halted}
use Rattle.fam_outcomes.specs.Programs.{Command, EndsEarly, Grammar, ScriptPuts, Storms, script_status}
use Rattle.fam_outcomes.specs.Runs.{IsPut, Outside}
use Rattle.fam_outcomes.specs.Statuses.{good_status, is_good}
use Rattle.fam_outcomes.specs.Texts.{render}
use Rattle.fam_journal.specs.NoteClasses.{NoteClass, note_class, Declared, Formatted, Going, Answering, Refusing}
use Rattle.fam_commands.specs.ReplyClasses.{ReplyClass, reply_class, Appending, Declining, Showing, Reporting, Faulty}

-- an event that no other host's step interrupts. In a mkfs its maker may halt: that is all that is left undone, and is noted
abbrev pub IsWholeEvent : Event → Type 0
IsWholeEvent (event.Host name uuid) = ⊤
IsWholeEvent (event.Mkfs name request) = ⊤
IsWholeEvent (event.Begin name what) = ⊥
IsWholeEvent (event.Run name what) = ⊤
IsWholeEvent (event.Step name count) = ⊥
IsWholeEvent (event.Finish name) = ⊥
IsWholeEvent (event.Stop name) = ⊥
IsWholeEvent (event.Halt name) = ⊥
IsWholeEvent (event.Umount name) = ⊤
IsWholeEvent (event.Evict name line) = ⊤
IsWholeEvent (event.Leak name line mask) = ⊤
IsWholeEvent (event.Fetch name line mask) = ⊤

-- no event leaves a command half done
abbrev pub AreWhole : List Event → Type 0
AreWhole [] = ⊤
AreWhole (e ∷ events) = IsWholeEvent e × AreWhole events

-- The image, as the notes of events have it: a mkfs formats it, or puts its first lines where its maker halts, and an
-- acknowledged entry is written.

-- the image behind an append that is acknowledged: the pending entry is written
abbrev pub acknowledged_image : Image → State → ℕ → Image
acknowledged_image image (Bad origin damage gate) seq = image
acknowledged_image image (Sound p history None) seq = image
acknowledged_image image (Sound p history (Some f)) seq = written image p seq f.entry f.bytes

-- the image behind a reply: an append alone writes; by the class of the reply
abbrev pub replied_image_in : Image → State → ReplyClass → Image
replied_image_in image state (Appending seq) = acknowledged_image image state seq
replied_image_in image state (Declining refused) = image
replied_image_in image state (Showing m) = image
replied_image_in image state (Reporting report) = image
replied_image_in image state Faulty = image

-- so of a reply, by its class
abbrev pub replied_image : Image → State → Reply → Image
replied_image image state given = replied_image_in image state (reply_class given)

-- the image behind an answer
abbrev pub answered_image : Image → State → Answer → Image
answered_image image state (Replied given) = replied_image image state given
answered_image image state (MediaFault line) = image

-- the image behind a mkfs that asks for this, whose maker halted after so many operations: the lines that it had put by then
abbrev pub cut_by : Option HostPast → MkfsRequest → ℕ → Image → Image
cut_by None request k image = image
cut_by (Some host) request k image = halted_image k (asked request host.uuid (length image)) image

-- so it is by the event that notes it: only a mkfs does, and its host is the maker
abbrev pub cut_image : Event → Past → Image → (host k : ℕ) → Image
cut_image (event.Host name uuid) past image host k = image
cut_image (event.Mkfs name request) past image host k =
    cut_by (slice_get past.hosts host) request k image
cut_image (event.Begin name what) past image host k = image
cut_image (event.Run name what) past image host k = image
cut_image (event.Step name count) past image host k = image
cut_image (event.Finish name) past image host k = image
cut_image (event.Stop name) past image host k = image
cut_image (event.Halt name) past image host k = image
cut_image (event.Umount name) past image host k = image
cut_image (event.Evict name line) past image host k = image
cut_image (event.Leak name line mask) past image host k = image
cut_image (event.Fetch name line mask) past image host k = image

-- the image behind a note of an event
abbrev pub image_after : Event → Past → Image → Note → Image
image_after e past image (Host name uuid) = image
image_after e past image (Made host p) = formatted image p
image_after e past image (Cut host k) = cut_image e past image host k
image_after e past image (Start host cmd) = image
image_after e past image (Mark host) = image
image_after e past image (Found host n) = image
image_after e past image (Writes host seq entry) = image
image_after e past image (Answered host answer) = answered_image image past.state answer
image_after e past image (Stop host) = image
image_after e past image (Halt host) = image
image_after e past image (Umount host) = image
image_after e past image (Refused name cause) = image

-- the image behind some notes of an event
abbrev pub image_behind : Event → Past → Image → List Note → Image
image_behind e past image [] = image
image_behind e past image (note ∷ notes) = image_behind e (past_after past note) (image_after e past image note) notes

-- the image behind the notes of all events, one behind another
abbrev pub events_image : (files : Files) (events : List Event) (old : Session) (journal : List Note) (new : Session) → Follows files events old journal new → Past → Image → Image
events_image files [] old journal new follows past image = image
events_image files (e ∷ events) old journal new follows past image =
    events_image files events follows.0 follows.2 new follows.4 (past_behind past follows.1) (image_behind e past image follows.1)

-- What the notes settle.

-- nothing is pending
abbrev pub HasNothingPending : State → Type 0
HasNothingPending (Bad origin damage gate) = ⊤
HasNothingPending (Sound p history pending) = pending ≡ None

-- a damaged state is what the image reads as, where it is that of the image that was handed in. Where it is that of a mkfs
-- whose maker halted, it and the image say that there is no superblock
abbrev pub IsDamageOf : Origin → Damage → ℕ → Image → Type 0
IsDamageOf (Given own) damage gate image = Bad (Given own) damage gate ≡ first_state image
IsDamageOf Halted damage gate image = (damage ≡ NoSuperblock (super.NoSuper 0)) × (reading image ≡ read.NoSuperblock (super.NoSuper 0))

-- a state is what the image reads as
abbrev pub IsStateOf : State → Image → Type 0
IsStateOf (Bad origin damage gate) image = IsDamageOf origin damage gate image
IsStateOf (Sound p history pending) image = Sound p history pending ≡ first_state image

-- Answers.

-- an answer of entries is of the whole history
abbrev pub IsOfAll : Reply → State → Type 0
IsOfAll given state = (m : ℕ) → reply_count given ≡ Some m → m ≡ settled_length state

-- a report is the image's own, the slots past its gate included; another answer is of the whole history
abbrev pub IsWholeReply : Reply → State → Image → Type 0
IsWholeReply (reply.Reports report) state image = report ≡ report_of (line_at image) (line_bytes * length image)
IsWholeReply (reply.Appended seq) state image = IsOfAll (reply.Appended seq) state
IsWholeReply (reply.NotAppended refused) state image = IsOfAll (reply.NotAppended refused) state
IsWholeReply (reply.Played m tree) state image = IsOfAll (reply.Played m tree) state
IsWholeReply (reply.Mounted m) state image = IsOfAll (reply.Mounted m) state
IsWholeReply (reply.Same m) state image = IsOfAll (reply.Same m) state
IsWholeReply (reply.Differs m offset found wanted) state image = IsOfAll (reply.Differs m offset found wanted) state
IsWholeReply (reply.Length m size wanted) state image = IsOfAll (reply.Length m size wanted) state
IsWholeReply (reply.Bytes m bytes) state image = IsOfAll (reply.Bytes m bytes) state
IsWholeReply (reply.NotFound m) state image = IsOfAll (reply.NotFound m) state
IsWholeReply (reply.IsDirectory m) state image = IsOfAll (reply.IsDirectory m) state
IsWholeReply (reply.Checks m checked) state image = IsOfAll (reply.Checks m checked) state
IsWholeReply (reply.NoSuperblock fault) state image = IsOfAll (reply.NoSuperblock fault) state
IsWholeReply (reply.BadHeader fault) state image = IsOfAll (reply.BadHeader fault) state
IsWholeReply (reply.BadSlot seq reason) state image = IsOfAll (reply.BadSlot seq reason) state

-- and it is the rules' answer to the host's command, on the image that the command began with
pub record IsByRules (image : Image) (given : Reply) (host : HostPast) : Type 0 where
  pub cmd : Cmd
  pub told : host.cmd ≡ Some cmd
  pub is : given ≡ solo_reply image host.uuid cmd

-- a host's answer fits what is settled, and is by the rules, of the image as it stands
abbrev pub IsWholeAnswer : Answer → ℕ → Past → Image → Type 0
IsWholeAnswer (Replied given) host past image = IsWholeReply given past.state image × OfHost (slice_get past.hosts host) (IsByRules image given)
IsWholeAnswer (MediaFault line) host past image = ⊤

-- so it is of a note that is an answer; by the class of the note
abbrev pub IsWholeNoteIn : NoteClass → Past → Image → Type 0
IsWholeNoteIn (Declared name uuid) past image = ⊤
IsWholeNoteIn (Formatted host p) past image = ⊤
IsWholeNoteIn (Going host) past image = ⊤
IsWholeNoteIn (Answering host answer) past image = IsWholeAnswer answer host past image
IsWholeNoteIn (Refusing name cause) past image = ⊤

-- so of a note, by its class
abbrev pub IsWholeNote : Note → Past → Image → Type 0
IsWholeNote note past image = IsWholeNoteIn (note_class note) past image

-- so it is of each note of an event, of the image behind those before it
abbrev pub AreWholeNotes : Event → Past → Image → List Note → Type 0
AreWholeNotes e past image [] = ⊤
AreWholeNotes e past image (note ∷ notes) =
    IsWholeNote note past image × AreWholeNotes e (past_after past note) (image_after e past image note) notes

-- so it is of the notes of all events, of the image behind the events before them
abbrev pub AreWholeEvents : (files : Files) (events : List Event) (old : Session) (journal : List Note) (new : Session) → Follows files events old journal new → Past → Image → Type 0
AreWholeEvents files [] old journal new follows past image = ⊤
AreWholeEvents files (e ∷ events) old journal new follows past image =
    AreWholeNotes e past image follows.1 × AreWholeEvents files events follows.0 follows.2 new follows.4 (past_behind past follows.1) (image_behind e past image follows.1)

-- a run of whole events in which the media didn't fail
pub record WholeRun (files : Files) (events : List Event) (start : Image) : Type 0 where
  pub whole : AreWhole events
  pub journal : List Note
  pub last : Session
  pub follows : Follows files events (first_session start) journal last
  pub clean : IsFaultless journal

-- the image behind a run: the fold of its events' notes, from the image that was handed in
abbrev pub image_of : {files : Files} {events : List Event} {start : Image} → WholeRun files events start → Image
image_of {files} {events} {start} run = events_image files events (first_session start) run.journal run.last run.follows (first_past start) start

-- what holds of it; of each prefix of its events, since that is such a run too: the image is the fold of the notes, nothing
-- is pending, what the notes settle is what the image reads as, and each answer is of all of it
pub record IsExact {files : Files} {events : List Event} {start : Image} (run : WholeRun files events start) : Type 0 where
  pub image : run.last.machines.memory ≡ image_of run
  pub sure : HasNothingPending (past_of start run.journal).state
  pub settled : IsStateOf (past_of start run.journal).state run.last.machines.memory
  pub answers : AreWholeEvents files events (first_session start) run.journal run.last run.follows (first_past start) start

-- Caches' own moves.

-- an event that is a cache's own move
abbrev pub is_move : Event → Bool
is_move (event.Host name uuid) = false
is_move (event.Mkfs name request) = false
is_move (event.Begin name what) = false
is_move (event.Run name what) = false
is_move (event.Step name count) = false
is_move (event.Finish name) = false
is_move (event.Stop name) = false
is_move (event.Halt name) = false
is_move (event.Umount name) = false
is_move (event.Evict name line) = true
is_move (event.Leak name line mask) = true
is_move (event.Fetch name line mask) = true

-- the events but those
abbrev pub commands_in : List Event → List Event
commands_in [] = []
commands_in (e ∷ events) = if is_move e then commands_in events else e ∷ commands_in events

-- the notes of these events
abbrev pub notes_unless : Bool → List Note → List Note
notes_unless true notes = []
notes_unless false notes = notes

-- the notes of the events that are no moves
abbrev pub command_notes : (files : Files) (events : List Event) (old : Session) (journal : List Note) (new : Session) → Follows files events old journal new → List Note
command_notes files [] old journal new follows = []
command_notes files (e ∷ events) old journal new follows =
    notes_unless (is_move e) follows.1 ++ command_notes files events follows.0 follows.2 new follows.4

-- the notes of a run, but those of moves
abbrev pub notes_of_commands : {files : Files} {events : List Event} {start : Image} → WholeRun files events start → List Note
notes_of_commands {files} {events} {start} run = command_notes files events (first_session start) run.journal run.last run.follows

-- two runs have the same notes but for the refusals of caches' own moves, and leave the same image
pub record RunsAgree {files : Files} {one other : List Event} {start : Image} (a : WholeRun files one start) (b : WholeRun files other start) : Type 0 where
  pub notes : notes_of_commands a ≡ notes_of_commands b
  pub image : a.last.machines.memory ≡ b.last.machines.memory

-- a cache's own move notes nothing but that it was refused; by the class of the note
abbrev pub IsRefusalIn : NoteClass → Type 0
IsRefusalIn (Declared name uuid) = ⊥
IsRefusalIn (Formatted host p) = ⊥
IsRefusalIn (Going host) = ⊥
IsRefusalIn (Answering host answer) = ⊥
IsRefusalIn (Refusing name cause) = ⊤

-- so of a note, by its class
abbrev pub IsRefusal : Note → Type 0
IsRefusal note = IsRefusalIn (note_class note)

-- each note is a refusal
abbrev pub AreRefusals : List Note → Type 0
AreRefusals [] = ⊤
AreRefusals (note ∷ notes) = IsRefusal note × AreRefusals notes

-- The program's top call.

-- how a call ended: this text was put behind the bytes that stood there, this image is left, and this status was given
pub record EndsAs (out : Outside) (given : Status) (text : List ℕ) (left : Image) (own : Status) : Type 0 where
  pub put : out.sink.new.bytes ≡ option_map (with_piece text) out.sink.old.bytes
  pub left_is : out.media.new.image ≡ Some left
  pub status_is : given ≡ own

-- a script's events were all run, each command to its answer or refusal, and the run is exact. Its notes were put; the image
-- that is left is their fold; and the status is Done where every note alone is, and else Refused
pub record EndsExact (files : Files) (events : List Event) (start : Image) (out : Outside) (given : Status) : Type 0 where
  pub run : WholeRun files events start
  pub exact : IsExact run
  pub answered : RunsEnd files events (first_session start) run.journal run.last run.follows
  pub ends : EndsAs out given (render run.journal) (image_of run) (good_status (is_good run.journal))

-- The same while sink and shelf may fail and memory run out: events behind that weren't run.

-- no event was run, so the image is as it was; and why
pub record EndsNone (grammar : Grammar) (storms : Storms) (command : Option Command) (out : Outside) (given : Status) : Type 0 where
  pub text : List ℕ
  pub own : Status
  pub early : EndsEarly grammar storms command out text own
  pub put : IsPut own given text out

-- memory ran out in the command behind these notes, which noted a part of its own: the image that is left reads as what all of
-- them settle
pub record CommandCut (files : Files) (event : Event) (start : Image) (notes part : List Note) (before : Session) (left : Image) : Type 0 where
  pub last : Session
  pub does : PartOf files event before part last
  pub left_is : left ≡ last.machines.memory
  pub reads : ReadsAs (past_of start (notes ++ part)).state left

-- the image is the fold of the notes, and there is no part; or memory ran out in the command of this place
abbrev pub EndLeaves : Ending → (files : Files) (events : List Event) (start : Image) (count : ℕ) → WholeRun files (take count events) start → List Note → Image → Type 0
EndLeaves ending files events start count run part left =
    ((part ≡ []) × (left ≡ image_of run)) ⊎ ((ending ≡ EndsOutOfMemory) × (event : Event) × (slice_get events count ≡ Some event) × CommandCut files event start run.journal part run.last left)

-- the first events were run, all of them where nothing ended it early, and the run is exact; the journal is that run's, and a
-- part of the next event's
pub record FrontRun (files : Files) (events : List Event) (start : Image) (out : Outside) (ending : Ending) (journal : List Note) : Type 0 where
  pub count : ℕ
  pub run : WholeRun files (take count events) start
  pub exact : IsExact run
  pub part : List Note
  pub left : Image
  pub image : out.media.new.image ≡ Some left
  pub all : ending ≡ AllDone → take count events ≡ events
  pub is_left : EndLeaves ending files events start count run part left
  pub journal_is : journal ≡ run.journal ++ part

-- what was put is the text of a script's notes, and the line that ends it early; or a front of this where the sink failed
pub record EndsFront (files : Files) (events : List Event) (start : Image) (out : Outside) (given : Status) : Type 0 where
  pub ending : Ending
  pub journal : List Note
  pub front : FrontRun files events start out ending journal
  pub text : List ℕ
  pub shows : ScriptPuts ending journal text
  pub put : IsPut (script_status ending journal) given text out

-- Up to the first fault of the media.

-- the event behind the first ones, which told a fault of the media
pub record FaultsNext (files : Files) (events : List Event) (count : ℕ) (before : Session) (rest : List Note) : Type 0 where
  pub event : Event
  pub is : slice_get events count ≡ Some event
  pub notes : List Note
  pub more : List Note
  pub joined : rest ≡ notes ++ more
  pub behind : Session
  pub does : DoesEvent files event before notes behind
  pub faults : 1 ≤ faults_of notes

-- the first events of a run, all of them or up to the first one that tells a fault of the media, are an exact run
pub record UpToFault (files : Files) (events : List Event) (start : Image) (journal : List Note) : Type 0 where
  pub count : ℕ
  pub run : WholeRun files (take count events) start
  pub exact : IsExact run
  pub rest : List Note
  pub journal_is : journal ≡ run.journal ++ rest
  pub next : ((rest ≡ []) × (take count events ≡ events)) ⊎ FaultsNext files events count run.last rest
