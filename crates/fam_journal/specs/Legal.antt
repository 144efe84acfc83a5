-- Which notes the history before them allows: one row for each note and for each answer. docs/MODEL.md, "The journal".
use Rattle.std.specs.Prelude.{ℕ, ⊤, ◌≡◌, ◌≢◌, ◌⊎◌, ◌+◌, ◌*◌, ◌≤◌, List, [], ◌∷◌, length, take, slice_get, Option, Some, None, option_map, Result, Ok, Err}
use Rattle.fam_base.specs.declared.cmd.Cmd.{Cmd}
use Rattle.fam_base.specs.declared.entry.Entry.{Entry}
use Rattle.fam_base.specs.declared.entry.Params.{Params}
use Rattle.fam_base.specs.Image.{Image, line_at}
use Rattle.fam_format.specs.declared.faults.SuperFault.{SuperFault}
use Rattle.fam_format.specs.Reading.{super_in}
use Rattle.fam_rules.specs.declared.answers.Refused.{Refused as Cause}
use Rattle.fam_rules.specs.declared.answers.Refused.TheVariants as cause
use Rattle.fam_rules.specs.declared.answers.LogState.TheVariants as log
use Rattle.fam_rules.specs.declared.answers.Report.{Report}
use Rattle.fam_rules.specs.declared.answers.SuperState.TheVariants as superblock
use Rattle.fam_rules.specs.Asks.{File, ask, entries_of}
use Rattle.fam_rules.specs.Decide.{Wish, wish_of, decide}
use Rattle.fam_rules.specs.DecideLaws.{IsTooLong}
use Rattle.fam_rules.specs.Place.{line_bytes}
use Rattle.fam_rules.specs.Reply as reply
use Rattle.fam_rules.specs.Reply.{Reply}
use Rattle.fam_rules.specs.ReportLaws.{IsSoundReport}
use Rattle.fam_rules.specs.Reports.{report_of}
use Rattle.fam_journal.specs.Notes.{Answer, Replied, MediaFault, Note, Host, Made, Cut, Start, Mark, Found, Writes, Answered, Stop, Halt, Umount, Refused}
use Rattle.fam_journal.specs.Past.{Damage, FewLines, NoSuperblock, BadHeader, BadSlot, Origin, Given, Halted, State, Bad, Sound, HostPast, Past, acknowledges, first_past, past_after, with_pending}

-- The master's notes.

-- how many entries may be found: those that are settled, or one more where one is pending; or, where a slot is bad, as
-- many as the image's gate counts
abbrev pub FoundPending : ℕ → ℕ → Option File → Type 0
FoundPending n settled None = n ≡ settled
FoundPending n settled (Some f) = (n ≡ settled) ⊎ (n ≡ settled + 1)

-- on a damaged image the count that is found is the gate, where a slot is bad
abbrev pub FoundBad : ℕ → Damage → ℕ → Type 0
FoundBad n (FewLines lines) gate = ⊥
FoundBad n (NoSuperblock fault) gate = ⊥
FoundBad n (BadHeader fault) gate = ⊥
FoundBad n (BadSlot i reason) gate = n ≡ gate

-- a master may find so many entries
abbrev pub FoundAllowed : ℕ → State → Type 0
FoundAllowed n (Sound p history pending) = FoundPending n (length history) pending
FoundAllowed n (Bad origin damage gate) = FoundBad n damage gate

-- what a command that appends is decided to give on the history, with nothing pending
pub record IsDecided (p : Params) (host : HostPast) (history : List File) (pending : Option File) (decision : Result Entry Cause) : Type 0 where
  pub cmd : Cmd
  pub told : host.cmd ≡ Some cmd
  pub none : pending ≡ None
  pub is : decide p host.uuid (entries_of history) cmd ≡ Some decision

-- the rules decide so of the host's command, by the entries before it
abbrev pub DecideAllowed : HostPast → Result Entry Cause → State → Type 0
DecideAllowed host decision (Sound p history pending) = IsDecided p host history pending decision
DecideAllowed host decision (Bad origin damage gate) = ⊥

-- the entry that the rules decide on, numbered by what is settled
abbrev pub WritesAllowed : ℕ → Entry → HostPast → State → Type 0
WritesAllowed seq e host (Sound p history pending) = (seq ≡ length history) × IsDecided p host history pending (Ok e)
WritesAllowed seq e host (Bad origin damage gate) = ⊥

-- Answers of a command that appends.

-- the history's last entry is the one of this number that the host's task named; `state` is the one behind the answer
pub record IsAcknowledged (seq : ℕ) (host : HostPast) (history : List File) : Type 0 where
  pub entry : Entry
  pub named : host.wrote ≡ Some (record { seq = seq; entry = entry })
  pub count : length history ≡ seq + 1
  pub last : option_map (λ (f : File). f.entry) (slice_get history seq) ≡ Some entry

-- entry seq may be acknowledged: it is the host's own
abbrev pub AppendedAllowed : ℕ → HostPast → State → Type 0
AppendedAllowed seq host (Sound p history pending) = IsAcknowledged seq host history
AppendedAllowed seq host (Bad origin damage gate) = ⊥

-- the master that a superblock names
abbrev pub master_read : Result Params SuperFault → Option (List ℕ)
master_read (Ok p) = Some p.master
master_read (Err fault) = None

-- the UUID of the host that may append to a damaged image that was handed in, where its superblock reads
abbrev pub given_master : Image → Damage → Option (List ℕ)
given_master image (FewLines lines) = None
given_master image (NoSuperblock fault) = None
given_master image (BadHeader fault) = master_read (super_in (line_at image) (line_bytes * length image))
given_master image (BadSlot i reason) = master_read (super_in (line_at image) (line_bytes * length image))

-- the UUID of the host that may append to a damaged image: behind a mkfs whose maker halted there is no superblock
abbrev pub damaged_master : Origin → Damage → Option (List ℕ)
damaged_master (Given image) damage = given_master image damage
damaged_master Halted damage = None

-- the UUID of the host that may append, where there is one
abbrev pub master_of : State → Option (List ℕ)
master_of (Sound p history pending) = Some p.master
master_of (Bad origin damage gate) = damaged_master origin damage

-- the host isn't the one that the superblock names
pub record IsOther (me master : List ℕ) (host : HostPast) (state : State) : Type 0 where
  pub me_is : me ≡ host.uuid
  pub master_is : master_of state ≡ Some master
  pub other : me ≢ master

-- the superblock of a damaged image that was handed in reads as these parameters
abbrev pub GivenSuper : Params → Image → Damage → Type 0
GivenSuper p image (FewLines lines) = ⊥
GivenSuper p image (NoSuperblock fault) = ⊥
GivenSuper p image (BadHeader fault) = super_in (line_at image) (line_bytes * length image) ≡ Ok p
GivenSuper p image (BadSlot i reason) = super_in (line_at image) (line_bytes * length image) ≡ Ok p

-- so of a damaged image: behind a mkfs whose maker halted there is no superblock
abbrev pub DamagedSuper : Params → Origin → Damage → Type 0
DamagedSuper p (Given image) damage = GivenSuper p image damage
DamagedSuper p Halted damage = ⊥

-- the superblock has these parameters
abbrev pub HasParams : Params → State → Type 0
HasParams p (Sound q history pending) = p ≡ q
HasParams p (Bad origin damage gate) = DamagedSuper p origin damage

-- what the host's command wants to append has a path for which a slot has no room, and the host may append
pub record NamesLong (p : Params) (host : HostPast) (limit : ℕ) : Type 0 where
  pub cmd : Cmd
  pub told : host.cmd ≡ Some cmd
  pub wish : Wish
  pub wished : wish_of cmd ≡ Some wish
  pub is : IsTooLong p host.uuid wish limit

-- so it is by the superblock
pub record IsLong (limit : ℕ) (host : HostPast) (state : State) : Type 0 where
  pub params : Params
  pub super : HasParams params state
  pub names : NamesLong params host limit

-- an append may be refused so: another host may append alone, or the path is too long, or the rules decide it
abbrev pub CauseAllowed : Cause → HostPast → State → Type 0
CauseAllowed (cause.NotMaster me master) host state = IsOther me master host state
CauseAllowed (cause.LongPath limit) host state = IsLong limit host state
CauseAllowed cause.BadStripe host state = DecideAllowed host (Err cause.BadStripe) state
CauseAllowed (cause.Exists kind) host state = DecideAllowed host (Err (cause.Exists kind)) state
CauseAllowed cause.NoParent host state = DecideAllowed host (Err cause.NoParent) state
CauseAllowed cause.ParentIsFile host state = DecideAllowed host (Err cause.ParentIsFile) state
CauseAllowed (cause.LogFull slots) host state = DecideAllowed host (Err (cause.LogFull slots)) state
CauseAllowed (cause.NoSpace units) host state = DecideAllowed host (Err (cause.NoSpace units)) state

-- Answers of a command that reads.

-- so many entries were read: no fewer than were settled at the mark of this command, and no more than there are
pub record InBounds (host : HostPast) (m : ℕ) (all : List File) : Type 0 where
  pub floor : ℕ
  pub marked : host.floor ≡ Some floor
  pub low : floor ≤ m
  pub high : m ≤ length all

-- the question's answer on the first m entries
pub record IsAskedOf (host : HostPast) (m : ℕ) (all : List File) (given : Reply) : Type 0 where
  pub bounds : InBounds host m all
  pub cmd : Cmd
  pub told : host.cmd ≡ Some cmd
  pub is : ask (take m all) cmd ≡ Some given

-- a command that reads may reply so of the first m entries
abbrev pub AskAllowed : ℕ → Reply → HostPast → State → Type 0
AskAllowed m given host (Sound p history pending) = IsAskedOf host m (with_pending history pending) given
AskAllowed m given host (Bad origin damage gate) = ⊥

-- the report of a sound file system of the first m entries
pub record IsReportOf (p : Params) (host : HostPast) (all : List File) (report : Report) : Type 0 where
  pub m : ℕ
  pub bounds : InBounds host m all
  pub is : IsSoundReport p (entries_of (take m all)) report

-- the report of an image without a superblock, since word 0 of line 0 is zero: nothing more is looked at
abbrev pub cleared_report : Report
cleared_report = record {
  superblock = superblock.NoSuper 0;
  log = log.Unread;
  files = 0;
  directories = 0;
  used = 0;
  free = 0;
  overlap = None;
  bad = None;
  past = 0;
}

-- the report of a damaged image: of the one that was handed in, as it reads; or behind a mkfs whose maker halted
abbrev pub damaged_report : Origin → Report
damaged_report (Given image) = report_of (line_at image) (line_bytes * length image)
damaged_report Halted = cleared_report

-- a report may say so: of the settled entries, or of the damaged image
abbrev pub ReportAllowed : Report → HostPast → State → Type 0
ReportAllowed report host (Sound p history pending) = IsReportOf p host (with_pending history pending) report
ReportAllowed report host (Bad origin damage gate) = report ≡ damaged_report origin

-- a fault is the image's own
abbrev pub DamageAllowed : Damage → State → Type 0
DamageAllowed damage (Sound p history pending) = ⊥
DamageAllowed damage (Bad image own gate) = damage ≡ own

-- by the answer; `state` is the one before it
abbrev pub ReplyAllowed : Reply → HostPast → State → Type 0
ReplyAllowed (reply.Appended seq) host state = AppendedAllowed seq host (acknowledges seq state)
ReplyAllowed (reply.NotAppended why) host state = CauseAllowed why host state
ReplyAllowed (reply.Played m tree) host state = AskAllowed m (reply.Played m tree) host state
ReplyAllowed (reply.Mounted m) host state = AskAllowed m (reply.Mounted m) host state
ReplyAllowed (reply.Same m) host state = AskAllowed m (reply.Same m) host state
ReplyAllowed (reply.Differs m offset found wanted) host state = AskAllowed m (reply.Differs m offset found wanted) host state
ReplyAllowed (reply.Length m size wanted) host state = AskAllowed m (reply.Length m size wanted) host state
ReplyAllowed (reply.Bytes m bytes) host state = AskAllowed m (reply.Bytes m bytes) host state
ReplyAllowed (reply.NotFound m) host state = AskAllowed m (reply.NotFound m) host state
ReplyAllowed (reply.IsDirectory m) host state = AskAllowed m (reply.IsDirectory m) host state
ReplyAllowed (reply.Checks m checked) host state = AskAllowed m (reply.Checks m checked) host state
ReplyAllowed (reply.Reports report) host state = ReportAllowed report host state
ReplyAllowed (reply.NoSuperblock fault) host state = DamageAllowed (NoSuperblock fault) state
ReplyAllowed (reply.BadHeader fault) host state = DamageAllowed (BadHeader fault) state
ReplyAllowed (reply.BadSlot i reason) host state = DamageAllowed (BadSlot i reason) state

-- that the media failed is told by the machine alone
abbrev pub AnswerAllowed : Answer → HostPast → State → Type 0
AnswerAllowed (Replied given) host state = ReplyAllowed given host state
AnswerAllowed (MediaFault line) host state = ⊤

-- Notes.

-- the host is declared, and this holds of it
abbrev pub OfHost : Option HostPast → (HostPast → Type 0) → Type 0
OfHost None P = ⊥
OfHost (Some host) P = P host

-- what is allowed next. Where it says ⊤ the note is told by the machine alone
abbrev pub Allowed : Past → Note → Type 0
Allowed past (Host name uuid) = ⊤
Allowed past (Made h p) = ⊤
Allowed past (Cut h k) = ⊤
Allowed past (Start h cmd) = ⊤
Allowed past (Mark h) = ⊤
Allowed past (Found h n) = FoundAllowed n past.state
Allowed past (Writes h seq e) = OfHost (slice_get past.hosts h) (λ host. WritesAllowed seq e host past.state)
Allowed past (Answered h answer) = OfHost (slice_get past.hosts h) (λ host. AnswerAllowed answer host past.state)
Allowed past (Stop h) = ⊤
Allowed past (Halt h) = ⊤
Allowed past (Umount h) = ⊤
Allowed past (Refused name why) = ⊤

-- each of these notes is allowed behind those before it
abbrev pub LegalBehind : Past → List Note → Type 0
LegalBehind past [] = ⊤
LegalBehind past (note ∷ notes) = Allowed past note × LegalBehind (past_after past note) notes

-- a journal is legal from an image
abbrev pub Legal : Image → List Note → Type 0
Legal start journal = LegalBehind (first_past start) journal
