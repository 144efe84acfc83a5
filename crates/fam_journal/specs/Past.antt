-- What a journal settles: a fold over its notes, from the image that was handed in. docs/MODEL.md, "The journal".
use Rattle.std.specs.Prelude.{ℕ, ◌+◌, ◌==◌, nat_lt, if◌then◌else◌, List, [], ◌∷◌, ◌++◌, length, map, slice_get, Option, Some, None}
use Rattle.fam_base.specs.declared.cmd.Cmd.{Cmd}
use Rattle.fam_base.specs.declared.entry.Params.{Params}
use Rattle.fam_base.specs.Image.{Image, line_at}
use Rattle.fam_format.specs.declared.faults.LogFault.{LogFault}
use Rattle.fam_format.specs.declared.faults.Reason.{Reason}
use Rattle.fam_format.specs.declared.faults.SuperFault.{SuperFault}
use Rattle.fam_format.specs.declared.faults.SuperFault.TheVariants as super
use Rattle.fam_format.specs.Layout.{least_lines}
use Rattle.fam_format.specs.Reading as read
use Rattle.fam_format.specs.Reading.{Reading, gate_in, reading}
use Rattle.fam_machine.specs.Mkfs.{first_sent}
use Rattle.fam_rules.specs.declared.answers.LogState.{LogState}
use Rattle.fam_rules.specs.declared.answers.LogState.TheVariants as log
use Rattle.fam_rules.specs.Solo.{content_of, held_file}
use Rattle.fam_rules.specs.Asks.{File}
use Rattle.fam_rules.specs.Content.{fill}
use Rattle.fam_rules.specs.Reply.{Reply}
use Rattle.fam_protocol.specs.After.{Named}
use Rattle.fam_journal.specs.Members.{changed_at}
use Rattle.fam_journal.specs.Notes.{Answer, Replied, MediaFault, Note, Host, Made, Cut, Start, Mark, Found, Writes, Answered, Stop, Halt, Umount, Refused}
use Rattle.fam_commands.specs.ReplyClasses.{ReplyClass, reply_class, Appending, Declining, Showing, Reporting, Faulty}

-- The settled state.

-- why an image has no history
pub data Damage : Type 0 where
  -- so few lines that there is no gate
  FewLines : (lines : ℕ) → Damage
  -- the first fault of its reading
  NoSuperblock : (fault : SuperFault) → Damage
  BadHeader : (fault : LogFault) → Damage
  BadSlot : (i : ℕ) (reason : Reason) → Damage

-- where a damaged state comes from: the image that was handed in; or a mkfs whose maker halted behind its first send, whatever
-- else that left
pub data Origin : Type 0 where
  Given : (image : Image) → Origin
  Halted : Origin

-- where the damage comes from, what it is, and what the image's gate says; or parameters, the entries that are settled with
-- their bytes, and one more of which no note has said yet whether it is. No note but `Cut` makes a damaged state
pub data State : Type 0 where
  Bad : (origin : Origin) (damage : Damage) (gate : ℕ) → State
  Sound : (params : Params) (history : List File) (pending : Option File) → State

-- by what an image says
abbrev pub state_read : Image → Reading → State
state_read image (read.NoSuperblock fault) = Bad (Given image) (NoSuperblock fault) (gate_in (line_at image))
state_read image (read.BadHeader fault) = Bad (Given image) (BadHeader fault) (gate_in (line_at image))
state_read image (read.BadSlot i reason) = Bad (Given image) (BadSlot i reason) (gate_in (line_at image))
state_read image (read.Sound p entries) = Sound p (map (held_file (line_at image)) entries) None

-- before the first note
abbrev pub first_state : Image → State
first_state image =
    if nat_lt (length image) least_lines then Bad (Given image) (FewLines (length image)) 0 else state_read image (reading image)

-- the history, and the pending entry behind it
abbrev pub with_pending : List File → Option File → List File
with_pending history None = history
with_pending history (Some f) = history ++ f ∷ []

-- the history's length
abbrev pub settled_length : State → ℕ
settled_length (Bad origin damage gate) = 0
settled_length (Sound p history pending) = length history

-- an entry is named, with the bytes of its command
abbrev pub pends : File → State → State
pends f (Bad origin damage gate) = Bad origin damage gate
pends f (Sound p history pending) = Sound p history (Some f)

-- the first m entries were shown: the pending one joins the history where it is one of them
abbrev pub shows : ℕ → State → State
shows m (Bad origin damage gate) = Bad origin damage gate
shows m (Sound p history pending) = if m == length history + 1 then Sound p (with_pending history pending) None else Sound p history pending

-- the master found n entries: the pending one is dropped where it isn't one of them, and else joins the history
abbrev pub finds : ℕ → State → State
finds n (Bad origin damage gate) = Bad origin damage gate
finds n (Sound p history pending) = if n == length history then Sound p history None else shows n (Sound p history pending)

-- entry seq is acknowledged: the pending one joins the history where it is this one
abbrev pub acknowledges : ℕ → State → State
acknowledges seq (Bad origin damage gate) = Bad origin damage gate
acknowledges seq (Sound p history pending) = if seq == length history then Sound p (with_pending history pending) None else Sound p history pending

-- how many entries a report is of, where its log is sound
abbrev pub reported_count : LogState → Option ℕ
reported_count (log.Sound entries slots) = Some entries
reported_count (log.BadLog field found wanted) = None
reported_count log.Unread = None

-- how many entries a reply is of; by the class of the reply
abbrev pub count_of_in : ReplyClass → Option ℕ
count_of_in (Appending seq) = None
count_of_in (Declining refused) = None
count_of_in (Showing m) = Some m
count_of_in (Reporting report) = reported_count report.log
count_of_in Faulty = None

-- so of a reply, by its class
abbrev pub reply_count : Reply → Option ℕ
reply_count given = count_of_in (reply_class given)

-- so many entries were shown, where any were
abbrev pub shows_count : Option ℕ → State → State
shows_count None state = state
shows_count (Some m) state = shows m state

-- the state after a reply; by the class of the reply
abbrev pub replied_in : ReplyClass → State → State
replied_in (Appending seq) state = acknowledges seq state
replied_in (Declining refused) state = state
replied_in (Showing m) state = shows m state
replied_in (Reporting report) state = shows_count (reported_count report.log) state
replied_in Faulty state = state

-- so of a reply, by its class
abbrev pub replied : Reply → State → State
replied given state = replied_in (reply_class given) state

-- the state after a task's end
abbrev pub ended_state : Answer → State → State
ended_state (Replied given) state = replied given state
ended_state (MediaFault line) state = state

-- the maker of a file system halted after so many operations: from its first send on there is no superblock, since word 0 of
-- line 0 is zero, and before it all is as it was
abbrev pub halted : ℕ → State → State
halted k state = if nat_lt k first_sent then state else Bad Halted (NoSuperblock (super.NoSuper 0)) 0

-- What is known of each host.

-- its name and UUID, its last command, how much was settled at that command's mark, and what it named
pub record HostPast : Type 0 where
  pub name : List ℕ
  pub uuid : List ℕ
  pub cmd : Option Cmd
  pub floor : Option ℕ
  pub wrote : Option Named

-- the image that was handed in, what is settled, and the declared hosts
pub record Past : Type 0 where
  pub start : Image
  pub state : State
  pub hosts : List HostPast

-- the bytes of a command's new file
abbrev pub filled_bytes : Option Cmd → ℕ → List ℕ
filled_bytes None size = []
filled_bytes (Some cmd) size = fill (content_of cmd) size

-- the last command of a host
abbrev pub cmd_of : Option HostPast → Option Cmd
cmd_of None = None
cmd_of (Some host) = host.cmd

-- the state after a note
abbrev pub state_after : Past → Note → State
state_after past (Host name uuid) = past.state
state_after past (Made h p) = Sound p [] None
state_after past (Cut h k) = halted k past.state
state_after past (Start h cmd) = past.state
state_after past (Mark h) = past.state
state_after past (Found h n) = finds n past.state
state_after past (Writes h seq e) = pends (record { entry = e; bytes = filled_bytes (cmd_of (slice_get past.hosts h)) e.size }) past.state
state_after past (Answered h answer) = ended_state answer past.state
state_after past (Stop h) = past.state
state_after past (Halt h) = past.state
state_after past (Umount h) = past.state
state_after past (Refused name cause) = past.state

-- a host before its first command
abbrev pub new_host : List ℕ → List ℕ → HostPast
new_host name uuid = record { name = name; uuid = uuid; cmd = None; floor = None; wrote = None }

-- the hosts after a note
abbrev pub hosts_after : Past → Note → List HostPast
hosts_after past (Host name uuid) = past.hosts ++ new_host name uuid ∷ []
hosts_after past (Made h p) = past.hosts
hosts_after past (Cut h k) = past.hosts
hosts_after past (Start h cmd) = changed_at h (λ x. record x { cmd = Some cmd; floor = None; wrote = None }) past.hosts
hosts_after past (Mark h) = changed_at h (λ x. record x { floor = Some (settled_length past.state) }) past.hosts
hosts_after past (Found h n) = past.hosts
hosts_after past (Writes h seq e) = changed_at h (λ x. record x { wrote = Some (record { seq = seq; entry = e }) }) past.hosts
hosts_after past (Answered h answer) = past.hosts
hosts_after past (Stop h) = past.hosts
hosts_after past (Halt h) = past.hosts
hosts_after past (Umount h) = past.hosts
hosts_after past (Refused name cause) = past.hosts

-- the past after a note
abbrev pub past_after : Past → Note → Past
past_after past note = record { start = past.start; state = state_after past note; hosts = hosts_after past note }

-- before the first note
abbrev pub first_past : Image → Past
first_past image = record { start = image; state = first_state image; hosts = [] }

-- after some notes more
abbrev pub past_behind : Past → List Note → Past
past_behind past [] = past
past_behind past (note ∷ notes) = past_behind (past_after past note) notes

-- after a journal
abbrev pub past_of : Image → List Note → Past
past_of image journal = past_behind (first_past image) journal
