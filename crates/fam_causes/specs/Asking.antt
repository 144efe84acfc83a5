-- Which notes a command may give at all, however far it has come.
use Rattle.std.specs.Prelude.{ℕ, ◌||◌, Bool, true, false, not, Option, Some, None}
use Rattle.fam_base.specs.declared.cmd.Cmd.{Cmd}
use Rattle.fam_base.specs.declared.cmd.Cmd.TheVariants as cmd
use Rattle.fam_history.specs.declared.command.ToldCommand.{ToldCommand}
use Rattle.fam_history.specs.declared.command.ToldCommand.TheVariants as told
use Rattle.fam_journal.specs.declared.refusal.Refusal.{Refusal}
use Rattle.fam_journal.specs.declared.refusal.Refusal.TheVariants as why
use Rattle.fam_lines.specs.declared.answer.HostAnswer.{HostAnswer}
use Rattle.fam_lines.specs.declared.answer.HostAnswer.TheVariants as given
use Rattle.fam_lines.specs.declared.line.Line.{Line}
use Rattle.fam_lines.specs.declared.line.Line.TheVariants as line
use Rattle.fam_causes.specs.declared.asking.Asking.{Asking}
use Rattle.fam_causes.specs.declared.asking.Asking.TheVariants as asking

-- what a command asks for
abbrev pub asking_plain : Cmd → Asking
asking_plain cmd.Logplay = asking.Tree
asking_plain cmd.Mount = asking.Mount
asking_plain (cmd.Mkdir path attr) = asking.Append
asking_plain (cmd.Creat path size attr stripe fill) = asking.Append
asking_plain (cmd.Cp path attr stripe bytes) = asking.Append
asking_plain (cmd.Verify path against) = asking.Verify
asking_plain (cmd.Read path offset count) = asking.Read
asking_plain (cmd.Check listing) = asking.Check
asking_plain cmd.Fsck = asking.Survey

-- so of one that is told
abbrev pub asking_of : ToldCommand → Asking
asking_of (told.Plain c) = asking_plain c
asking_of (told.Cp path size attr stripe) = asking.Append
asking_of (told.VerifySource path count) = asking.Verify
asking_of (told.Check count) = asking.Check

-- it lists the tree
abbrev pub asks_tree : Asking → Bool
asks_tree asking.Tree = true
asks_tree asking.Mount = false
asks_tree asking.Append = false
asks_tree asking.Verify = false
asks_tree asking.Read = false
asks_tree asking.Check = false
asks_tree asking.Survey = false

-- it mounts
abbrev pub asks_mount : Asking → Bool
asks_mount asking.Tree = false
asks_mount asking.Mount = true
asks_mount asking.Append = false
asks_mount asking.Verify = false
asks_mount asking.Read = false
asks_mount asking.Check = false
asks_mount asking.Survey = false

-- it appends
abbrev pub asks_append : Asking → Bool
asks_append asking.Tree = false
asks_append asking.Mount = false
asks_append asking.Append = true
asks_append asking.Verify = false
asks_append asking.Read = false
asks_append asking.Check = false
asks_append asking.Survey = false

-- it compares a file's bytes
abbrev pub asks_verify : Asking → Bool
asks_verify asking.Tree = false
asks_verify asking.Mount = false
asks_verify asking.Append = false
asks_verify asking.Verify = true
asks_verify asking.Read = false
asks_verify asking.Check = false
asks_verify asking.Survey = false

-- it reads bytes of a file
abbrev pub asks_read : Asking → Bool
asks_read asking.Tree = false
asks_read asking.Mount = false
asks_read asking.Append = false
asks_read asking.Verify = false
asks_read asking.Read = true
asks_read asking.Check = false
asks_read asking.Survey = false

-- it compares the tree
abbrev pub asks_check : Asking → Bool
asks_check asking.Tree = false
asks_check asking.Mount = false
asks_check asking.Append = false
asks_check asking.Verify = false
asks_check asking.Read = false
asks_check asking.Check = true
asks_check asking.Survey = false

-- it checks the file system
abbrev pub asks_survey : Asking → Bool
asks_survey asking.Tree = false
asks_survey asking.Mount = false
asks_survey asking.Append = false
asks_survey asking.Verify = false
asks_survey asking.Read = false
asks_survey asking.Check = false
asks_survey asking.Survey = true

-- it asks for something of a file
abbrev pub asks_file : Asking → Bool
asks_file a = asks_verify a || asks_read a

-- an answer is of such a command. Any may find that the media failed, and any but one that checks the file system may find it damaged
abbrev pub may_be_answered : Asking → HostAnswer → Bool
may_be_answered a (given.Appended seq) = asks_append a
may_be_answered a (given.NotAppended cause) = asks_append a
may_be_answered a (given.Played m entries) = asks_tree a
may_be_answered a (given.Mounted m) = asks_mount a
may_be_answered a (given.Same m) = asks_verify a
may_be_answered a (given.Differs m offset found wanted) = asks_verify a
may_be_answered a (given.Length m size wanted) = asks_verify a
may_be_answered a (given.Bytes m bytes) = asks_read a
may_be_answered a (given.NotFound m) = asks_file a
may_be_answered a (given.IsDirectory m) = asks_file a
may_be_answered a (given.Checks m checked) = asks_check a
may_be_answered a (given.Reports report) = asks_survey a
may_be_answered a (given.NoSuperblock fault) = not (asks_survey a)
may_be_answered a (given.BadHeader fault) = not (asks_survey a)
may_be_answered a (given.BadSlot seq reason) = not (asks_survey a)
may_be_answered a (given.MediaFault at) = true

-- so it is of a line; one that appends alone finds and names entries
abbrev pub may_give : Asking → Line → Bool
may_give a (line.Host name uuid) = true
may_give a (line.Made h p) = true
may_give a (line.Cut h k) = true
may_give a (line.Start h c) = true
may_give a (line.Mark h) = true
may_give a (line.Found h n) = asks_append a
may_give a (line.Writes h seq e) = asks_append a
may_give a (line.Answered h answer) = may_be_answered a answer
may_give a (line.Stop h) = true
may_give a (line.Halt h) = true
may_give a (line.Umount h) = true
may_give a (line.Refused name cause) = true

-- the host whose running command gives a line, or is stopped by it
abbrev pub giver_of : Line → Option ℕ
giver_of (line.Host name uuid) = None
giver_of (line.Made h p) = None
giver_of (line.Cut h k) = None
giver_of (line.Start h c) = None
giver_of (line.Mark h) = Some h
giver_of (line.Found h n) = Some h
giver_of (line.Writes h seq e) = Some h
giver_of (line.Answered h answer) = Some h
giver_of (line.Stop h) = Some h
giver_of (line.Halt h) = None
giver_of (line.Umount h) = None
giver_of (line.Refused name cause) = None

-- a refusal of a call for a declared host
abbrev pub is_of_declared : Refusal → Bool
is_of_declared why.NoHost = false
is_of_declared (why.SameHost host) = false
is_of_declared why.TooManyHosts = false
is_of_declared (why.BadGeometry unit log) = true
is_of_declared (why.TooSmall need have) = true
is_of_declared (why.ImageSmall lines) = true
is_of_declared (why.Busy host) = true
is_of_declared (why.Dirty host) = true
is_of_declared (why.HasSuper uuid) = true
is_of_declared why.Idle = true
is_of_declared why.Mounted = true
is_of_declared why.NotMounted = true
is_of_declared (why.NoLine at lines) = true
is_of_declared (why.NoFile name) = true
is_of_declared (why.CopyLimit sum) = true
is_of_declared (why.BadListing at) = true
is_of_declared (why.MediaFault at) = true

-- a refusal of a call for a host that runs no command
abbrev pub is_of_idle : Refusal → Bool
is_of_idle why.NoHost = false
is_of_idle (why.SameHost host) = false
is_of_idle why.TooManyHosts = false
is_of_idle (why.BadGeometry unit log) = false
is_of_idle (why.TooSmall need have) = false
is_of_idle (why.ImageSmall lines) = false
is_of_idle (why.Busy host) = false
is_of_idle (why.Dirty host) = false
is_of_idle (why.HasSuper uuid) = false
is_of_idle why.Idle = true
is_of_idle why.Mounted = true
is_of_idle why.NotMounted = true
is_of_idle (why.NoLine at lines) = false
is_of_idle (why.NoFile name) = true
is_of_idle (why.CopyLimit sum) = true
is_of_idle (why.BadListing at) = true
is_of_idle (why.MediaFault at) = false

-- a refusal where a file system would be made, for which no host may run a command
abbrev pub is_of_making : Refusal → Bool
is_of_making why.NoHost = false
is_of_making (why.SameHost host) = false
is_of_making why.TooManyHosts = false
is_of_making (why.BadGeometry unit log) = false
is_of_making (why.TooSmall need have) = false
is_of_making (why.ImageSmall lines) = false
is_of_making (why.Busy host) = false
is_of_making (why.Dirty host) = true
is_of_making (why.HasSuper uuid) = true
is_of_making why.Idle = false
is_of_making why.Mounted = false
is_of_making why.NotMounted = false
is_of_making (why.NoLine at lines) = false
is_of_making (why.NoFile name) = false
is_of_making (why.CopyLimit sum) = false
is_of_making (why.BadListing at) = false
is_of_making (why.MediaFault at) = false
