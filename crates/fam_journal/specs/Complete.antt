-- What a command may answer at last, by the rules: in each state, for each command. A master's append that the decision
-- doesn't refuse, unless the media fails, answers that it is done.
use Rattle.std.specs.Prelude.{ℕ, ⊤, ◌≡◌, ◌≢◌, ◌⊎◌, List, [], ◌∷◌, ◌++◌, take, slice_get, Option, Some, None, Err}
use Rattle.fam_base.specs.declared.cmd.Cmd.{Cmd}
use Rattle.fam_base.specs.declared.cmd.Cmd.TheVariants.{Logplay, Mount, Mkdir, Creat, Cp, Verify, Read, Check, Fsck}
use Rattle.fam_base.specs.declared.entry.Params.{Params}
use Rattle.fam_base.specs.Image.{Image}
use Rattle.fam_rules.specs.declared.answers.Refused.{Refused as Cause}
use Rattle.fam_rules.specs.declared.answers.Refused.TheVariants as cause
use Rattle.fam_rules.specs.declared.answers.Report.{Report}
use Rattle.fam_rules.specs.Asks.{File, ask, entries_of}
use Rattle.fam_rules.specs.Decide.{decide}
use Rattle.fam_rules.specs.Reply as reply
use Rattle.fam_rules.specs.Reply.{Reply}
use Rattle.fam_media.specs.Files.{Files}
use Rattle.fam_journal.specs.declared.event.Event.{Event}
use Rattle.fam_journal.specs.declared.event.Event.TheVariants as event
use Rattle.fam_journal.specs.declared.refusal.Refusal.{Refusal}
use Rattle.fam_journal.specs.Calls.{Completes}
use Rattle.fam_journal.specs.Events.{Session, first_session}
use Rattle.fam_journal.specs.Follows.{Follows}
use Rattle.fam_journal.specs.Ends.{IsFaultless}
use Rattle.fam_journal.specs.Machines.{Machines}
use Rattle.fam_journal.specs.Legal.{InBounds, IsReportOf, OfHost, NamesLong, DamagedSuper, damaged_master, damaged_report}
use Rattle.fam_journal.specs.Notes.{Answer, Replied, MediaFault, Note, Answered, Refused}
use Rattle.fam_journal.specs.Past.{first_past, Damage, FewLines, NoSuperblock, BadHeader, BadSlot, Origin, State, Bad, Sound, HostPast, Past, past_after, with_pending}
use Rattle.fam_commands.specs.Classes.{Class, class_of, Replays, Appends, Compares, Reads, Surveys}
use Rattle.fam_journal.specs.NoteClasses.{NoteClass, note_class, Declared, Formatted, Going, Answering, Refusing}
use Rattle.fam_commands.specs.ReplyClasses.{ReplyClass, reply_class, Appending, Declining, Showing, Reporting, Faulty}

-- Sound states.

-- another host than the master
pub record AnswersClient (p : Params) (host : HostPast) (why : Cause) : Type 0 where
  pub other : host.uuid ≢ p.master
  pub is : why ≡ cause.NotMaster host.uuid p.master

-- the master, and a slot has no room for the path
pub record AnswersLong (p : Params) (host : HostPast) (why : Cause) : Type 0 where
  pub limit : ℕ
  pub names : NamesLong p host limit
  pub is : why ≡ cause.LongPath limit

-- it is done; or its host is a client; or its path is too long; or the decision refuses it, with nothing pending; by the class of the reply
abbrev pub IsAppendAnswerIn : Params → List File → Option File → HostPast → Cmd → ReplyClass → Type 0
IsAppendAnswerIn p history pending host cmd (Appending seq) = ⊤
IsAppendAnswerIn p history pending host cmd (Declining why) =
    AnswersClient p host why ⊎ AnswersLong p host why ⊎ ((pending ≡ None) × (decide p host.uuid (entries_of history) cmd ≡ Some (Err why)))
IsAppendAnswerIn p history pending host cmd (Showing m) = ⊥
IsAppendAnswerIn p history pending host cmd (Reporting report) = ⊥
IsAppendAnswerIn p history pending host cmd Faulty = ⊥

-- so of a reply, by its class
abbrev pub IsAppendAnswer : Params → List File → Option File → HostPast → Cmd → Reply → Type 0
IsAppendAnswer p history pending host cmd given = IsAppendAnswerIn p history pending host cmd (reply_class given)

-- the question's answer on the first entries, of which there are so many as were settled at the mark, or more
pub record AsksPrefix (host : HostPast) (all : List File) (cmd : Cmd) (given : Reply) : Type 0 where
  pub m : ℕ
  pub bounds : InBounds host m all
  pub is : ask (take m all) cmd ≡ Some given

-- the answer is a report of these entries
pub record IsReportAnswer (p : Params) (host : HostPast) (all : List File) (given : Reply) : Type 0 where
  pub report : Report
  pub is : given ≡ reply.Reports report
  pub says : IsReportOf p host all report

-- an answer of the rules where the state is sound: of the command's own kind
abbrev pub IsSoundAnswer : Params → List File → Option File → HostPast → Cmd → Reply → Type 0
IsSoundAnswer p history pending host Logplay given = AsksPrefix host (with_pending history pending) Logplay given
IsSoundAnswer p history pending host Mount given = AsksPrefix host (with_pending history pending) Mount given
IsSoundAnswer p history pending host (Mkdir path attr) given = IsAppendAnswer p history pending host (Mkdir path attr) given
IsSoundAnswer p history pending host (Creat path size attr stripe fill) given =
    IsAppendAnswer p history pending host (Creat path size attr stripe fill) given
IsSoundAnswer p history pending host (Cp path attr stripe bytes) given = IsAppendAnswer p history pending host (Cp path attr stripe bytes) given
IsSoundAnswer p history pending host (Verify path against) given = AsksPrefix host (with_pending history pending) (Verify path against) given
IsSoundAnswer p history pending host (Read path offset count) given = AsksPrefix host (with_pending history pending) (Read path offset count) given
IsSoundAnswer p history pending host (Check entries) given = AsksPrefix host (with_pending history pending) (Check entries) given
IsSoundAnswer p history pending host Fsck given = IsReportAnswer p host (with_pending history pending) given

-- Damaged states.

-- the fault's own answer. Where there is no gate no command begins
abbrev pub IsFaultAnswer : Damage → Reply → Type 0
IsFaultAnswer (FewLines lines) given = ⊥
IsFaultAnswer (NoSuperblock fault) given = given ≡ reply.NoSuperblock fault
IsFaultAnswer (BadHeader fault) given = given ≡ reply.BadHeader fault
IsFaultAnswer (BadSlot i reason) given = given ≡ reply.BadSlot i reason

-- another host than the one that the superblock names, where it reads
pub record IsDamagedClient (origin : Origin) (damage : Damage) (host : HostPast) (given : Reply) : Type 0 where
  pub master : List ℕ
  pub master_is : damaged_master origin damage ≡ Some master
  pub other : host.uuid ≢ master
  pub is : given ≡ reply.NotAppended (cause.NotMaster host.uuid master)

-- the host that the superblock names, where it reads, and a slot has no room for its path
pub record IsDamagedLong (origin : Origin) (damage : Damage) (host : HostPast) (given : Reply) : Type 0 where
  pub params : Params
  pub super : DamagedSuper params origin damage
  pub limit : ℕ
  pub names : NamesLong params host limit
  pub is : given ≡ reply.NotAppended (cause.LongPath limit)

-- the fault; and whose command appends is the one that the superblock names, where it reads, with a path that fits
pub record IsDamagedMaster (origin : Origin) (damage : Damage) (host : HostPast) (given : Reply) : Type 0 where
  pub is : IsFaultAnswer damage given
  pub own : (master : List ℕ) → damaged_master origin damage ≡ Some master → host.uuid ≡ master
  pub fits : (p : Params) (limit : ℕ) → DamagedSuper p origin damage → NamesLong p host limit → ⊥

-- an append answers that its host is a client, just where it is one; that its path is too long, just where it is; and else
-- the fault
abbrev pub IsDamagedAppend : Origin → Damage → HostPast → Reply → Type 0
IsDamagedAppend origin damage host given =
    IsDamagedMaster origin damage host given ⊎ IsDamagedClient origin damage host given ⊎ IsDamagedLong origin damage host given

-- a check of the whole file system reports; another command that reads answers the fault, whoever asks; by the class of the command
abbrev pub IsDamagedAnswerIn : Origin → Damage → HostPast → Class → Reply → Type 0
IsDamagedAnswerIn origin damage host Surveys given = given ≡ reply.Reports (damaged_report origin)
IsDamagedAnswerIn origin damage host Replays given = IsFaultAnswer damage given
IsDamagedAnswerIn origin damage host Appends given = IsDamagedAppend origin damage host given
IsDamagedAnswerIn origin damage host (Compares path against) given = IsFaultAnswer damage given
IsDamagedAnswerIn origin damage host (Reads path offset count) given = IsFaultAnswer damage given

-- so of a command, by its class
abbrev pub IsDamagedAnswer : Origin → Damage → HostPast → Cmd → Reply → Type 0
IsDamagedAnswer origin damage host cmd given = IsDamagedAnswerIn origin damage host (class_of cmd) given

-- an answer of the rules, in a state
abbrev pub IsRuled : State → HostPast → Cmd → Reply → Type 0
IsRuled (Sound p history pending) host cmd given = IsSoundAnswer p history pending host cmd given
IsRuled (Bad origin damage gate) host cmd given = IsDamagedAnswer origin damage host cmd given

-- Journals.

-- of the host's last command
pub record HasRuled (past : Past) (given : Reply) (host : HostPast) : Type 0 where
  pub cmd : Cmd
  pub told : host.cmd ≡ Some cmd
  pub is : IsRuled past.state host cmd given

-- a host's answer is one of the rules, or tells a media fault
abbrev pub IsRuledAnswer : Answer → ℕ → Past → Type 0
IsRuledAnswer (Replied given) host past = OfHost (slice_get past.hosts host) (HasRuled past given)
IsRuledAnswer (MediaFault line) host past = ⊤

-- so it is of a note that is an answer; by the class of the note
abbrev pub IsRuledNoteIn : NoteClass → Past → Type 0
IsRuledNoteIn (Declared name uuid) past = ⊤
IsRuledNoteIn (Formatted host p) past = ⊤
IsRuledNoteIn (Going host) past = ⊤
IsRuledNoteIn (Answering host answer) past = IsRuledAnswer answer host past
IsRuledNoteIn (Refusing name cause) past = ⊤

-- so of a note, by its class
abbrev pub IsRuledNote : Note → Past → Type 0
IsRuledNote note past = IsRuledNoteIn (note_class note) past

-- every answer is one of the rules
abbrev pub AreRuled : Past → List Note → Type 0
AreRuled past [] = ⊤
AreRuled past (note ∷ notes) = IsRuledNote note past × AreRuled (past_after past note) notes

-- notes end in an answer of the rules
pub record EndsInAnswer (notes : List Note) : Type 0 where
  pub prefix : List Note
  pub host : ℕ
  pub given : Reply
  pub is : notes ≡ prefix ++ Answered host (Replied given) ∷ []

-- operations of a host, served by memory, up to its answer
pub record CanEnd (h : ℕ) (state : Machines) : Type 0 where
  pub notes : List Note
  pub left : Machines
  pub completes : Completes h state notes left
  pub clean : IsFaultless notes

-- Runs in which no count rose.

-- a command that is run and isn't refused ends in an answer
abbrev pub RunAnswers : Event → List Note → Type 0
RunAnswers (event.Host name uuid) notes = ⊤
RunAnswers (event.Mkfs name request) notes = ⊤
RunAnswers (event.Begin name what) notes = ⊤
RunAnswers (event.Run name what) notes = EndsInAnswer notes ⊎ ((why : Refusal) × (notes ≡ Refused name why ∷ []))
RunAnswers (event.Step name count) notes = ⊤
RunAnswers (event.Finish name) notes = ⊤
RunAnswers (event.Stop name) notes = ⊤
RunAnswers (event.Halt name) notes = ⊤
RunAnswers (event.Umount name) notes = ⊤
RunAnswers (event.Evict name line) notes = ⊤
RunAnswers (event.Leak name line mask) notes = ⊤
RunAnswers (event.Fetch name line mask) notes = ⊤

-- each run of a script's events has ended in its answer
abbrev pub RunsEnd : (files : Files) (events : List Event) (old : Session) (journal : List Note) (new : Session) → Follows files events old journal new → Type 0
RunsEnd files [] old journal new follows = ⊤
RunsEnd files (e ∷ events) old journal new follows = RunAnswers e follows.1 × RunsEnd files events follows.0 follows.2 new follows.4

-- all events are done, no note tells a fault, every answer is one of the rules, and every command that is run ends in one or
-- is refused
pub record IsComplete (files : Files) (events : List Event) (start : Image) (journal : List Note) : Type 0 where
  pub last : Session
  pub follows : Follows files events (first_session start) journal last
  pub clean : IsFaultless journal
  pub ruled : AreRuled (first_past start) journal
  pub ends : RunsEnd files events (first_session start) journal last follows
