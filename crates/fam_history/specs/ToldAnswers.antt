-- What the first line of an answer tells. A listing and the lines of a report follow it.
use Rattle.std.specs.Prelude.{ℕ, ⊤, Bool, true, false, ◌==◌, ◌≢◌, ◌^◌, ◌<◌, IsTrue, if◌then◌else◌, List, [], ◌∷◌, ◌++◌, codes, Option, Some, None}
use Rattle.fam_base.specs.Escapes.{AreBytes}
use Rattle.fam_base.specs.Paths.{is_path}
use Rattle.fam_format.specs.declared.faults.LogFault.{LogFault}
use Rattle.fam_format.specs.declared.faults.LogFault.TheVariants.{BadLog}
use Rattle.fam_format.specs.declared.faults.Reason.{Reason}
use Rattle.fam_format.specs.declared.faults.Reason.TheVariants as reason
use Rattle.fam_format.specs.declared.faults.SuperFault.{SuperFault}
use Rattle.fam_format.specs.declared.faults.SuperFault.TheVariants.{NoSuper, BadSuper}
use Rattle.fam_format.specs.Params.{IsUuid}
use Rattle.fam_rules.specs.declared.answers.Checked.{Checked}
use Rattle.fam_rules.specs.declared.answers.Refused.{Refused as Cause}
use Rattle.fam_rules.specs.declared.answers.Refused.TheVariants as cause
use Rattle.fam_rules.specs.declared.answers.Report.{Report}
use Rattle.fam_rules.specs.Reply as reply
use Rattle.fam_rules.specs.Reply.{Reply}
use Rattle.fam_tree.specs.Lines.{listing}
use Rattle.fam_journal.specs.Notes.{Answer, Replied, MediaFault}
use Rattle.fam_outcomes.specs.Texts.{bad_text, byte_text, bytes_text, cause_text, checked_text, fault_text, is_sound_report, line, log_state_text, log_text, number, overlap_text, slot_text, super_state_text, super_text}
use Rattle.fam_history.specs.Answers.{none_differs}
use Rattle.fam_history.specs.declared.answer.ToldAnswer.{ToldAnswer}
use Rattle.fam_history.specs.declared.answer.ToldAnswer.TheVariants as told

-- the first path, where no path differs: its text `-` tells none
abbrev pub none_told : Option (List ℕ) → Option (List ℕ)
none_told None = None
none_told (Some []) = Some []
none_told (Some (a ∷ [])) = if a == 45 then None else Some (a ∷ [])
none_told (Some (a ∷ b ∷ rest)) = Some (a ∷ b ∷ rest)

-- and where one does: its text `-` tells the path `-`
abbrev pub path_told : Option (List ℕ) → Option (List ℕ)
path_told None = Some (45 ∷ [])
path_told (Some path) = Some path

-- the first path, where none differs or where one does
abbrev pub first_told : Bool → Option (List ℕ) → Option (List ℕ)
first_told true first = none_told first
first_told false first = path_told first

-- what is told of how a tree differs
abbrev pub checked_told : Checked → Checked
checked_told c = record c { first = first_told (none_differs c.missing c.extra c.changed) c.first }

-- what the first line tells of a reply
abbrev pub reply_told : Reply → ToldAnswer
reply_told (reply.Appended seq) = told.Ok seq
reply_told (reply.NotAppended why) = told.NotAppended why
reply_told (reply.Played m tree) = told.Played m
reply_told (reply.Mounted m) = told.Mounted m
reply_told (reply.Same m) = told.Same m
reply_told (reply.Differs m offset found wanted) = told.Differs m offset found wanted
reply_told (reply.Length m size wanted) = told.Length m size wanted
reply_told (reply.Bytes m bytes) = told.Bytes m bytes
reply_told (reply.NotFound m) = told.NotFound m
reply_told (reply.IsDirectory m) = told.IsDirectory m
reply_told (reply.Checks m checked) = told.Checked m (checked_told checked)
reply_told (reply.Reports report) = told.Report (is_sound_report report)
reply_told (reply.NoSuperblock fault) = told.NoSuperblock fault
reply_told (reply.BadHeader fault) = told.BadHeader fault
reply_told (reply.BadSlot seq why) = told.BadSlot seq why

-- what it tells of an answer
abbrev pub answer_told : Answer → ToldAnswer
answer_told (Replied given) = reply_told given
answer_told (MediaFault at) = told.MediaFault at

-- the first line
abbrev pub told_answer_text : ToldAnswer → List ℕ
told_answer_text (told.Ok seq) = codes "ok" ++ number seq
told_answer_text (told.NotAppended why) = cause_text why
told_answer_text (told.Played m) = codes "played" ++ number m
told_answer_text (told.Mounted m) = codes "mounted" ++ number m
told_answer_text (told.Same m) = codes "same" ++ number m
told_answer_text (told.Differs m offset found wanted) = codes "differs" ++ number m ++ number offset ++ codes " " ++ byte_text found ++ codes " " ++ byte_text wanted
told_answer_text (told.Length m size wanted) = codes "length differs" ++ number m ++ number size ++ number wanted
told_answer_text (told.Bytes m bytes) = codes "bytes" ++ number m ++ codes " " ++ bytes_text bytes
told_answer_text (told.NotFound m) = codes "not found" ++ number m
told_answer_text (told.IsDirectory m) = codes "is a directory" ++ number m
told_answer_text (told.Checked m checked) = checked_text m checked
told_answer_text (told.Report sound) = if sound then codes "fsck sound" else codes "fsck damaged"
told_answer_text (told.NoSuperblock fault) = super_text fault
told_answer_text (told.BadHeader fault) = log_text fault
told_answer_text (told.BadSlot seq why) = slot_text seq why
told_answer_text (told.MediaFault at) = fault_text at

-- the seven other lines of a report
abbrev pub report_lines : Report → List ℕ
report_lines r =
    line (super_state_text r.superblock)
    ++ (line (log_state_text r.log)
    ++ (line (codes "files" ++ number r.files ++ codes " directories" ++ number r.directories)
    ++ (line (codes "units used" ++ number r.used ++ codes " free" ++ number r.free)
    ++ (line (overlap_text r.overlap) ++ (line (bad_text r.bad) ++ line (codes "past gate" ++ number r.past))))))

-- the lines that follow it
abbrev pub reply_lines : Reply → List ℕ
reply_lines (reply.Appended seq) = []
reply_lines (reply.NotAppended why) = []
reply_lines (reply.Played m tree) = listing tree
reply_lines (reply.Mounted m) = []
reply_lines (reply.Same m) = []
reply_lines (reply.Differs m offset found wanted) = []
reply_lines (reply.Length m size wanted) = []
reply_lines (reply.Bytes m bytes) = []
reply_lines (reply.NotFound m) = []
reply_lines (reply.IsDirectory m) = []
reply_lines (reply.Checks m checked) = []
reply_lines (reply.Reports report) = report_lines report
reply_lines (reply.NoSuperblock fault) = []
reply_lines (reply.BadHeader fault) = []
reply_lines (reply.BadSlot seq why) = []

-- so of an answer
abbrev pub answer_lines : Answer → List ℕ
answer_lines (Replied given) = reply_lines given
answer_lines (MediaFault at) = []

-- Answers whose numbers are those of the code's types, and whose UUIDs, paths and bytes are such.

-- why nothing is appended
abbrev pub IsTellingCause : Cause → Type 0
IsTellingCause (cause.NotMaster me master) = IsUuid me × IsUuid master
IsTellingCause (cause.LongPath limit) = limit < 2 ^ 64
IsTellingCause cause.BadStripe = ⊤
IsTellingCause (cause.Exists kind) = ⊤
IsTellingCause cause.NoParent = ⊤
IsTellingCause cause.ParentIsFile = ⊤
IsTellingCause (cause.LogFull slots) = slots < 2 ^ 64
IsTellingCause (cause.NoSpace units) = units < 2 ^ 64

-- a superblock's fault
abbrev pub IsTellingSuper : SuperFault → Type 0
IsTellingSuper (NoSuper word) = word < 2 ^ 64
IsTellingSuper (BadSuper f found wanted) = (found < 2 ^ 64) × (wanted < 2 ^ 64)

-- a log's fault
abbrev pub IsTellingLog : LogFault → Type 0
IsTellingLog (BadLog f found wanted) = (found < 2 ^ 64) × (wanted < 2 ^ 64)

-- a reason
abbrev pub IsTellingReason : Reason → Type 0
IsTellingReason (reason.Crc found wanted) = (found < 2 ^ 64) × (wanted < 2 ^ 64)
IsTellingReason (reason.Seq found wanted) = (found < 2 ^ 64) × (wanted < 2 ^ 64)
IsTellingReason (reason.BadKind word) = word < 2 ^ 64
IsTellingReason (reason.Attribute index) = index < 2 ^ 64
IsTellingReason reason.BadPath = ⊤
IsTellingReason reason.Map = ⊤
IsTellingReason (reason.Rest index) = index < 2 ^ 64
IsTellingReason (reason.Exists kind) = ⊤
IsTellingReason reason.NoParent = ⊤
IsTellingReason reason.ParentIsFile = ⊤
IsTellingReason (reason.Overlap unit) = unit < 2 ^ 64

-- a path, where one differs; else none, or a path that isn't `-`
abbrev pub IfTellingPath : Bool → Option (List ℕ) → Type 0
IfTellingPath true None = ⊤
IfTellingPath true (Some path) = IsTrue (is_path path) × (path ≢ 45 ∷ [])
IfTellingPath false None = ⊥
IfTellingPath false (Some path) = IsTrue (is_path path)

-- how a tree differs
pub record IsTellingChecked (c : Checked) : Type 0 where
  pub missing : c.missing < 2 ^ 64
  pub extra : c.extra < 2 ^ 64
  pub changed : c.changed < 2 ^ 64
  pub first : IfTellingPath (none_differs c.missing c.extra c.changed) c.first

-- what is told of an answer
abbrev pub IsTellingAnswer : ToldAnswer → Type 0
IsTellingAnswer (told.Ok seq) = seq < 2 ^ 64
IsTellingAnswer (told.NotAppended why) = IsTellingCause why
IsTellingAnswer (told.Played m) = m < 2 ^ 64
IsTellingAnswer (told.Mounted m) = m < 2 ^ 64
IsTellingAnswer (told.Same m) = m < 2 ^ 64
IsTellingAnswer (told.Differs m offset found wanted) = (m < 2 ^ 64) × (offset < 2 ^ 64) × (found < 256) × (wanted < 256)
IsTellingAnswer (told.Length m size wanted) = (m < 2 ^ 64) × (size < 2 ^ 64) × (wanted < 2 ^ 64)
IsTellingAnswer (told.Bytes m bytes) = (m < 2 ^ 64) × AreBytes bytes
IsTellingAnswer (told.NotFound m) = m < 2 ^ 64
IsTellingAnswer (told.IsDirectory m) = m < 2 ^ 64
IsTellingAnswer (told.Checked m checked) = (m < 2 ^ 64) × IsTellingChecked checked
IsTellingAnswer (told.Report sound) = ⊤
IsTellingAnswer (told.NoSuperblock fault) = IsTellingSuper fault
IsTellingAnswer (told.BadHeader fault) = IsTellingLog fault
IsTellingAnswer (told.BadSlot seq why) = (seq < 2 ^ 64) × IsTellingReason why
IsTellingAnswer (told.MediaFault at) = at < 2 ^ 64
