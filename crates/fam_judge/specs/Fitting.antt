-- Which notes fit what is told before them: as `Allowed` of fam_journal says, but that a byte or an entry of a source, which isn't told,
-- may be any. docs/MODEL.md, "Recorded histories".
use Rattle.std.specs.Prelude.{ℕ, ⊤, ◌≡◌, ◌≢◌, ◌⊎◌, ◌<◌, List, length, take, slice_get, slice_index, Option, Some, None}
use Rattle.fam_base.specs.declared.cmd.Cmd.{Cmd}
use Rattle.fam_base.specs.declared.cmd.Cmd.TheVariants.{Logplay, Mount, Mkdir, Creat, Cp, Verify, Read, Check, Fsck}
use Rattle.fam_base.specs.declared.cmd.Content.{Content}
use Rattle.fam_base.specs.declared.cmd.Content.TheVariants as content
use Rattle.fam_base.specs.declared.entry.Entry.{Entry}
use Rattle.fam_base.specs.declared.entry.Kind.{Kind}
use Rattle.fam_base.specs.declared.entry.Kind.TheVariants as kind
use Rattle.fam_format.specs.Tree.{Tree, replay}
use Rattle.fam_rules.specs.declared.answers.Checked.{Checked}
use Rattle.fam_rules.specs.Asks.{File, ask, entries_of, file_at, file_bytes_from}
use Rattle.fam_rules.specs.Checks.{checked}
use Rattle.fam_rules.specs.Content.{content_byte}
use Rattle.fam_rules.specs.Reply as reply
use Rattle.fam_rules.specs.Reply.{Reply}
use Rattle.fam_journal.specs.Legal.{AppendedAllowed, CauseAllowed, DamageAllowed, FoundAllowed, InBounds, OfHost, ReportAllowed, WritesAllowed}
use Rattle.fam_journal.specs.Notes.{Answer, Replied, MediaFault, Note, Host, Made, Cut, Start, Mark, Found, Writes, Answered, Stop, Halt, Umount, Refused}
use Rattle.fam_journal.specs.Past.{BadHeader, BadSlot, NoSuperblock, HostPast, Past, State, Bad, Sound, acknowledges, with_pending}
use Rattle.fam_judge.specs.Formed.{IsSoundCommand}
use Rattle.fam_judge.specs.Untold.{untold, untold_cmd}

-- Bytes.

-- a byte that may stand where this is told
abbrev pub FitsByte : ℕ → ℕ → Type 0
FitsByte told byte = (byte < 256) × ((told ≡ byte) ⊎ (told ≡ untold))

-- bytes that may stand where these are told
pub record FitBytes (told bytes : List ℕ) : Type 0 where
  pub count : length bytes ≡ length told
  pub each : (i : ℕ) → i < length told → FitsByte (slice_index told i) (slice_index bytes i)

-- at offset i a file's byte may be that of a content
abbrev pub MayAgree : List ℕ → Content → ℕ → Type 0
MayAgree bytes against i =
    (slice_index bytes i ≡ content_byte against i) ⊎ (slice_index bytes i ≡ untold) ⊎ (content_byte against i ≡ untold)

-- a byte that is wanted, where this is told of a content
abbrev pub FitsWanted : ℕ → ℕ → Type 0
FitsWanted told wanted = (told ≡ wanted) ⊎ (told ≡ untold)

-- a file's bytes beside a content, of as many bytes where these are given

-- they may be the same
abbrev pub MayBeSame : List ℕ → Content → Type 0
MayBeSame bytes against = (i : ℕ) → i < length bytes → MayAgree bytes against i

-- they may first differ at this offset, where the one has this byte and the other that
pub record MayDiffer (bytes : List ℕ) (against : Content) (offset found wanted : ℕ) : Type 0 where
  pub within : offset < length bytes
  pub before : (i : ℕ) → i < offset → MayAgree bytes against i
  pub found_fits : FitsByte (slice_index bytes offset) found
  pub wanted_fits : FitsWanted (content_byte against offset) wanted
  pub other : found ≢ wanted

-- how many bytes a content has, where they are given
abbrev pub given_count : Content → Option ℕ
given_count content.Zero = None
given_count (content.Seed seed) = None
given_count (content.Bytes given) = Some (length given)

-- a content has any size, or so many bytes
abbrev pub AllowsSize : Option ℕ → ℕ → Type 0
AllowsSize None size = ⊤
AllowsSize (Some count) size = count ≡ size

-- what a verify of the first m entries may give of a file
abbrev pub VerifiedFits : ℕ → List ℕ → Content → Reply → Type 0
VerifiedFits m bytes against (reply.Same n) = (n ≡ m) × AllowsSize (given_count against) (length bytes) × MayBeSame bytes against
VerifiedFits m bytes against (reply.Differs n offset found wanted) =
    (n ≡ m) × AllowsSize (given_count against) (length bytes) × MayDiffer bytes against offset found wanted
VerifiedFits m bytes against (reply.Length n size wanted) =
    (n ≡ m) × (size ≡ length bytes) × (given_count against ≡ Some wanted) × (wanted ≢ size)
VerifiedFits m bytes against (reply.Appended seq) = ⊥
VerifiedFits m bytes against (reply.NotAppended why) = ⊥
VerifiedFits m bytes against (reply.Played n tree) = ⊥
VerifiedFits m bytes against (reply.Mounted n) = ⊥
VerifiedFits m bytes against (reply.Bytes n given) = ⊥
VerifiedFits m bytes against (reply.NotFound n) = ⊥
VerifiedFits m bytes against (reply.IsDirectory n) = ⊥
VerifiedFits m bytes against (reply.Checks n counts) = ⊥
VerifiedFits m bytes against (reply.Reports report) = ⊥
VerifiedFits m bytes against (reply.NoSuperblock fault) = ⊥
VerifiedFits m bytes against (reply.BadHeader fault) = ⊥
VerifiedFits m bytes against (reply.BadSlot seq reason) = ⊥

-- what a read of the first m entries may give of a file
abbrev pub ReadFits : ℕ → List ℕ → ℕ → ℕ → Reply → Type 0
ReadFits m bytes offset count given =
    (found : List ℕ) × (given ≡ reply.Bytes m found) × FitBytes (file_bytes_from offset count bytes) found

-- by what stands at the path
abbrev pub KindFits : ℕ → Kind → Reply → Type 0 → Type 0
KindFits m kind.Directory given fits = given ≡ reply.IsDirectory m
KindFits m kind.File given fits = fits

-- a question about a file
abbrev pub FileFits : ℕ → Option File → Reply → (List ℕ → Type 0) → Type 0
FileFits m None given FitsNext = given ≡ reply.NotFound m
FileFits m (Some f) given FitsNext = KindFits m f.entry.kind given (FitsNext f.bytes)

-- how a tree may differ from a listing of which so much is told
pub record CheckFits (tree : Tree) (told : Cmd) (counts : Checked) : Type 0 where
  pub listing : List Entry
  pub alike : untold_cmd (Check listing) ≡ told
  pub sound : IsSoundCommand (Check listing)
  pub is : counts ≡ checked tree listing

-- what a reading command may answer of these entries
abbrev pub AskFits : List File → Cmd → Reply → Type 0
AskFits files Logplay given = ask files Logplay ≡ Some given
AskFits files Mount given = ask files Mount ≡ Some given
AskFits files (Mkdir path attr) given = ⊥
AskFits files (Creat path size attr stripe fill) given = ⊥
AskFits files (Cp path attr stripe bytes) given = ⊥
AskFits files (Verify path against) given =
    FileFits (length files) (file_at files path) given (λ bytes. VerifiedFits (length files) bytes against given)
AskFits files (Read path offset count) given =
    FileFits (length files) (file_at files path) given (λ bytes. ReadFits (length files) bytes offset count given)
AskFits files (Check listing) given =
    (counts : Checked) × (given ≡ reply.Checks (length files) counts) × CheckFits (replay (entries_of files)) (Check listing) counts
AskFits files Fsck given = ⊥

-- Answers.

-- the question may be answered so on the first m entries
pub record IsFitting (host : HostPast) (m : ℕ) (all : List File) (given : Reply) : Type 0 where
  pub bounds : InBounds host m all
  pub cmd : Cmd
  pub told : host.cmd ≡ Some cmd
  pub fits : AskFits (take m all) cmd given

-- so of a state
abbrev pub QuestionFits : ℕ → Reply → HostPast → State → Type 0
QuestionFits m given host (Sound p history pending) = IsFitting host m (with_pending history pending) given
QuestionFits m given host (Bad origin damage gate) = ⊥

-- by the answer; `state` is the one before it
abbrev pub ReplyFits : Reply → HostPast → State → Type 0
ReplyFits (reply.Appended seq) host state = AppendedAllowed seq host (acknowledges seq state)
ReplyFits (reply.NotAppended why) host state = CauseAllowed why host state
ReplyFits (reply.Played m tree) host state = QuestionFits m (reply.Played m tree) host state
ReplyFits (reply.Mounted m) host state = QuestionFits m (reply.Mounted m) host state
ReplyFits (reply.Same m) host state = QuestionFits m (reply.Same m) host state
ReplyFits (reply.Differs m offset found wanted) host state = QuestionFits m (reply.Differs m offset found wanted) host state
ReplyFits (reply.Length m size wanted) host state = QuestionFits m (reply.Length m size wanted) host state
ReplyFits (reply.Bytes m bytes) host state = QuestionFits m (reply.Bytes m bytes) host state
ReplyFits (reply.NotFound m) host state = QuestionFits m (reply.NotFound m) host state
ReplyFits (reply.IsDirectory m) host state = QuestionFits m (reply.IsDirectory m) host state
ReplyFits (reply.Checks m counts) host state = QuestionFits m (reply.Checks m counts) host state
ReplyFits (reply.Reports report) host state = ReportAllowed report host state
ReplyFits (reply.NoSuperblock fault) host state = DamageAllowed (NoSuperblock fault) state
ReplyFits (reply.BadHeader fault) host state = DamageAllowed (BadHeader fault) state
ReplyFits (reply.BadSlot i reason) host state = DamageAllowed (BadSlot i reason) state

-- that the media failed is told by the machine alone
abbrev pub AnswerFits : Answer → HostPast → State → Type 0
AnswerFits (Replied given) host state = ReplyFits given host state
AnswerFits (MediaFault line) host state = ⊤

-- what fits next. Where it says ⊤ any such note does
abbrev pub FitsNext : Past → Note → Type 0
FitsNext past (Host name uuid) = ⊤
FitsNext past (Made h p) = ⊤
FitsNext past (Cut h k) = ⊤
FitsNext past (Start h cmd) = ⊤
FitsNext past (Mark h) = ⊤
FitsNext past (Found h n) = FoundAllowed n past.state
FitsNext past (Writes h seq e) = OfHost (slice_get past.hosts h) (λ host. WritesAllowed seq e host past.state)
FitsNext past (Answered h answer) = OfHost (slice_get past.hosts h) (λ host. AnswerFits answer host past.state)
FitsNext past (Stop h) = ⊤
FitsNext past (Halt h) = ⊤
FitsNext past (Umount h) = ⊤
FitsNext past (Refused name cause) = ⊤
