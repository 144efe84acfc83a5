-- What a host keeps anew behind an answer, of what its task has read.
use Rattle.std.specs.Prelude.{◌≡◌, Bool, true, false, if◌then◌else◌, length, Option, Some, None}
use Rattle.fam_base.specs.declared.cmd.Cmd.{Cmd}
use Rattle.fam_commands.specs.Classes.{is_mount}
use Rattle.fam_commands.specs.Keeping.{read_by}
use Rattle.fam_commands.specs.Kept.{Kept}
use Rattle.fam_commands.specs.Task.{Task}
use Rattle.fam_commands.specs.declared.phase.Phase.{Phase}
use Rattle.fam_commands.specs.declared.phase.Phase.TheVariants as at
use Rattle.fam_format.specs.Stop.{or_else}
use Rattle.fam_rules.specs.Reply.{Reply, Appended, NotAppended, Played, Mounted, Same, Differs, Length, Bytes, NotFound, IsDirectory, Checks, Reports, NoSuperblock, BadHeader, BadSlot}
use Rattle.fam_tasks.specs.declared.answer.Answer.{Answer}
use Rattle.fam_tasks.specs.declared.answer.Answer.TheVariants as answer

-- that of a mount or of a logplay
abbrev pub is_keeping : Answer → Bool
is_keeping (answer.Ok seq) = false
is_keeping (answer.Played m tree) = true
is_keeping (answer.Mounted m) = true
is_keeping (answer.Same m) = false
is_keeping (answer.Bytes m bytes) = false
is_keeping (answer.Checked m checked) = false
is_keeping (answer.Report report) = false
is_keeping (answer.NoSuper word) = false
is_keeping (answer.BadSuper field found wanted) = false
is_keeping (answer.BadLog field found wanted) = false
is_keeping (answer.BadEntry seq reason) = false
is_keeping (answer.NotMaster me master) = false
is_keeping (answer.LongPath limit) = false
is_keeping answer.BadStripe = false
is_keeping (answer.Exists kind) = false
is_keeping answer.NoParent = false
is_keeping answer.ParentIsFile = false
is_keeping (answer.LogFull slots) = false
is_keeping (answer.NoSpace units) = false
is_keeping (answer.NotFound m) = false
is_keeping (answer.IsDirectory m) = false
is_keeping (answer.Differs m offset found wanted) = false
is_keeping (answer.Length m size wanted) = false
is_keeping (answer.MediaFault line) = false

-- what stands as a mount that decides has all that it read
abbrev pub has_left : Phase → Cmd → Bool
has_left at.Decide cmd = is_mount cmd
has_left phase cmd = false

-- what is kept of a task behind a logplay or a mount: what its host keeps, and where that is nothing, what a logplay has left
abbrev pub kept_left : Task → Option Kept
kept_left t = or_else t.kept (if has_left t.phase t.cmd then Some (read_by t) else None)

-- a task that stood so has replied, and this is kept anew: behind a logplay or a mount the parameters and all entries that it has
-- read, as many as the reply says; nothing behind any other reply
abbrev pub KeepsAnew : Reply → Task → Option Kept → Type 0
KeepsAnew (Played m tree) t anew = (m ≡ length t.entries) × (anew ≡ Some (read_by t))
KeepsAnew (Mounted m) t anew = (m ≡ length t.entries) × (anew ≡ Some (read_by t))
KeepsAnew (Appended seq) t anew = anew ≡ None
KeepsAnew (NotAppended refused) t anew = anew ≡ None
KeepsAnew (Same m) t anew = anew ≡ None
KeepsAnew (Differs m offset found wanted) t anew = anew ≡ None
KeepsAnew (Length m size wanted) t anew = anew ≡ None
KeepsAnew (Bytes m bytes) t anew = anew ≡ None
KeepsAnew (NotFound m) t anew = anew ≡ None
KeepsAnew (IsDirectory m) t anew = anew ≡ None
KeepsAnew (Checks m checked) t anew = anew ≡ None
KeepsAnew (Reports report) t anew = anew ≡ None
KeepsAnew (NoSuperblock fault) t anew = anew ≡ None
KeepsAnew (BadHeader fault) t anew = anew ≡ None
KeepsAnew (BadSlot seq reason) t anew = anew ≡ None
