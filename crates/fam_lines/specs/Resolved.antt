-- The line with numbers in place of names, case by case. `specs/Behind.antt` says what it has to be.
use Rattle.std.specs.Prelude.{ℕ, ◌&&◌, ◌||◌, Bool, true, false, List, [], ◌∷◌, Option, Some, None, Vec, if◌then◌else◌, is_none, not, option_map, slice_get}
use Rattle.std.specs.Global.{Global}
use Rattle.std.specs.Ordering.{is_lt}
use Rattle.fam_base.specs.declared.cmd.Cmd.{Cmd}
use Rattle.fam_base.specs.declared.cmd.Cmd.TheVariants as cmd
use Rattle.fam_base.specs.declared.cmd.Content.{Content}
use Rattle.fam_base.specs.declared.cmd.Content.TheVariants as content
use Rattle.fam_base.specs.declared.entry.Entry.{Entry}
use Rattle.fam_base.specs.declared.entry.Params.{Params}
use Rattle.fam_base.specs.PathOrder.{path_cmp}
use Rattle.fam_format.specs.Layout.{slots_of}
use Rattle.fam_rules.specs.declared.answers.Checked.{Checked}
use Rattle.fam_rules.specs.declared.answers.Report.{Report}
use Rattle.fam_journal.specs.declared.refusal.Refusal.{Refusal}
use Rattle.fam_journal.specs.declared.refusal.Refusal.TheVariants as why
use Rattle.fam_outcomes.specs.Texts.{is_sound_report}
use Rattle.fam_history.specs.Answers.{none_differs}
use Rattle.fam_history.specs.declared.answer.ToldAnswer.{ToldAnswer}
use Rattle.fam_history.specs.declared.answer.ToldAnswer.TheVariants as answer
use Rattle.fam_history.specs.declared.command.ToldCommand.{ToldCommand}
use Rattle.fam_history.specs.declared.command.ToldCommand.TheVariants as command
use Rattle.fam_history.specs.declared.note.LineNote.{LineNote}
use Rattle.fam_history.specs.declared.note.LineNote.TheVariants as told
use Rattle.fam_history.specs.declared.note.ToldLine.{ToldLine}
use Rattle.fam_history.specs.declared.note.ToldParams.{ToldParams}
use Rattle.fam_history.specs.declared.refusal.ToldRefusal.{ToldRefusal}
use Rattle.fam_history.specs.declared.refusal.ToldRefusal.TheVariants as refusal
use Rattle.fam_judge.specs.Standing.{host_number_in}
use Rattle.fam_lines.specs.declared.answer.HostAnswer.{HostAnswer}
use Rattle.fam_lines.specs.declared.answer.HostAnswer.TheVariants as given
use Rattle.fam_lines.specs.declared.host.SeenHost.{SeenHost}
use Rattle.fam_lines.specs.declared.line.Line.{Line}
use Rattle.fam_lines.specs.declared.line.Line.TheVariants as line
use Rattle.fam_lines.specs.Hosts.{faces_of}

-- Further lines.

-- there are no entries
abbrev pub is_empty : List Entry → Bool
is_empty [] = true
is_empty (e ∷ es) = false

-- nothing follows the first line
abbrev pub has_no_further : List Entry → Option Report → Bool
has_no_further entries report = is_empty entries && is_none report

-- a path stands behind another one, if any
abbrev pub is_behind : Option (List ℕ) → List ℕ → Bool
is_behind None path = true
is_behind (Some before) path = is_lt (path_cmp before path)

-- the paths rise behind another one, if any
abbrev pub rise_behind : Option (List ℕ) → List Entry → Bool
rise_behind before [] = true
rise_behind before (e ∷ es) = is_behind before e.path && rise_behind (Some e.path) es

-- Answers.

-- an answer that is one line
abbrev pub alone : List Entry → Option Report → HostAnswer → Option HostAnswer
alone entries report x = if has_no_further entries report then Some x else None

-- the entries of a tree follow
abbrev pub played : ℕ → Vec Entry Global → Option Report → Option HostAnswer
played m entries report = if is_none report && rise_behind None entries.items then Some (given.Played m entries) else None

-- a report is sound as its first line says
abbrev pub agrees : Bool → Report → Bool
agrees true report = is_sound_report report
agrees false report = not (is_sound_report report)

-- the report follows
abbrev pub reported : Bool → List Entry → Option Report → Option HostAnswer
reported sound entries None = None
reported sound entries (Some report) = if is_empty entries && agrees sound report then Some (given.Reports report) else None

-- a first path is named just where some path differs
abbrev pub names_first : Bool → Option (List ℕ) → Bool
names_first true None = true
names_first true (Some path) = false
names_first false None = false
names_first false (Some path) = true

-- so of how a tree differs
abbrev pub is_whole_checked : Checked → Bool
is_whole_checked c = names_first (none_differs c.missing c.extra c.changed) c.first

-- how a tree differs
abbrev pub compared_answer : ℕ → Checked → List Entry → Option Report → Option HostAnswer
compared_answer m c entries report = if is_whole_checked c then alone entries report (given.Checks m c) else None

-- an answer by its first line and what follows
abbrev pub answer_with : ToldAnswer → Vec Entry Global → Option Report → Option HostAnswer
answer_with (answer.Ok seq) entries report = alone entries.items report (given.Appended seq)
answer_with (answer.NotAppended why) entries report = alone entries.items report (given.NotAppended why)
answer_with (answer.Played m) entries report = played m entries report
answer_with (answer.Mounted m) entries report = alone entries.items report (given.Mounted m)
answer_with (answer.Same m) entries report = alone entries.items report (given.Same m)
answer_with (answer.Differs m offset found wanted) entries report = alone entries.items report (given.Differs m offset found wanted)
answer_with (answer.Length m size wanted) entries report = alone entries.items report (given.Length m size wanted)
answer_with (answer.Bytes m bytes) entries report = alone entries.items report (given.Bytes m bytes)
answer_with (answer.NotFound m) entries report = alone entries.items report (given.NotFound m)
answer_with (answer.IsDirectory m) entries report = alone entries.items report (given.IsDirectory m)
answer_with (answer.Checked m c) entries report = compared_answer m c entries.items report
answer_with (answer.Report sound) entries report = reported sound entries.items report
answer_with (answer.NoSuperblock fault) entries report = alone entries.items report (given.NoSuperblock fault)
answer_with (answer.BadHeader fault) entries report = alone entries.items report (given.BadHeader fault)
answer_with (answer.BadSlot seq why) entries report = alone entries.items report (given.BadSlot seq why)
answer_with (answer.MediaFault at) entries report = alone entries.items report (given.MediaFault at)

-- Commands, parameters, refusals.

-- no bytes of a source
abbrev pub is_told_content : Content → Bool
is_told_content content.Zero = true
is_told_content (content.Seed seed) = true
is_told_content (content.Bytes bytes) = false

-- a command that is told as a whole
abbrev pub is_told_cmd : Cmd → Bool
is_told_cmd cmd.Logplay = true
is_told_cmd cmd.Mount = true
is_told_cmd (cmd.Mkdir path attr) = true
is_told_cmd (cmd.Creat path size attr stripe fill) = true
is_told_cmd (cmd.Cp path attr stripe bytes) = false
is_told_cmd (cmd.Verify path against) = is_told_content against
is_told_cmd (cmd.Read path offset count) = true
is_told_cmd (cmd.Check listing) = false
is_told_cmd cmd.Fsck = true

-- some command is told so
abbrev pub is_told : ToldCommand → Bool
is_told (command.Plain cmd) = is_told_cmd cmd
is_told (command.Cp path size attr stripe) = true
is_told (command.VerifySource path count) = true
is_told (command.Check count) = true

-- the parameters of a file system that the host of this UUID made
abbrev pub whole_params : List ℕ → ToldParams → Params
whole_params me p =
    record { format = p.format; log_length = p.log_length; slots = slots_of p.format p.log_length; unit = p.unit; device = p.device; fs = p.fs; master = me }

-- the number of the host of a name
abbrev pub seen_number : List SeenHost → List ℕ → Option ℕ
seen_number hosts name = host_number_in name (faces_of hosts)

-- a refusal
abbrev pub resolved_refusal : List SeenHost → ToldRefusal → Option Refusal
resolved_refusal hosts refusal.NoHost = Some why.NoHost
resolved_refusal hosts (refusal.SameHost name) = option_map (λ h. why.SameHost (record { 0 = h })) (seen_number hosts name)
resolved_refusal hosts refusal.TooManyHosts = Some why.TooManyHosts
resolved_refusal hosts (refusal.BadGeometry unit log) = Some (why.BadGeometry unit log)
resolved_refusal hosts (refusal.TooSmall need have) = Some (why.TooSmall need have)
resolved_refusal hosts (refusal.ImageSmall lines) = Some (why.ImageSmall lines)
resolved_refusal hosts (refusal.Busy name) = option_map (λ h. why.Busy (record { 0 = h })) (seen_number hosts name)
resolved_refusal hosts (refusal.Dirty name) = option_map (λ h. why.Dirty (record { 0 = h })) (seen_number hosts name)
resolved_refusal hosts (refusal.HasSuper uuid) = Some (why.HasSuper uuid)
resolved_refusal hosts refusal.Idle = Some why.Idle
resolved_refusal hosts refusal.Mounted = Some why.Mounted
resolved_refusal hosts refusal.NotMounted = Some why.NotMounted
resolved_refusal hosts (refusal.NoLine at lines) = Some (why.NoLine at lines)
resolved_refusal hosts (refusal.NoFile name) = Some (why.NoFile name)
resolved_refusal hosts (refusal.CopyLimit sum) = Some (why.CopyLimit sum)
resolved_refusal hosts (refusal.BadListing at) = Some (why.BadListing at)
resolved_refusal hosts (refusal.MediaFault at) = Some (why.MediaFault (record { 0 = at }))

-- Lines.

-- host `at` made a file system
abbrev pub line_of_made : List SeenHost → Option ℕ → ToldParams → Option Line
line_of_made hosts None p = None
line_of_made hosts (Some h) p = option_map (λ host. line.Made h (whole_params host.uuid p)) (slice_get hosts h)

-- it begins a command
abbrev pub start_line : Option ℕ → ToldCommand → Option Line
start_line at cmd = if is_told cmd then option_map (λ h. line.Start h cmd) at else None

-- it was answered
abbrev pub answered_line : Option ℕ → Option HostAnswer → Option Line
answered_line None answer = None
answered_line (Some h) answer = option_map (line.Answered h) answer

-- a line of the host of a name, whose number is `at`; only what was answered is told by what follows
abbrev pub row_line : List SeenHost → Option ℕ → List ℕ → LineNote → Vec Entry Global → Option Report → Option Line
row_line hosts at name (told.Host uuid) entries report = Some (line.Host name uuid)
row_line hosts at name (told.Made p) entries report = line_of_made hosts at p
row_line hosts at name (told.Cut k) entries report = option_map (λ h. line.Cut h k) at
row_line hosts at name (told.Start cmd) entries report = start_line at cmd
row_line hosts at name told.Mark entries report = option_map line.Mark at
row_line hosts at name (told.Found n) entries report = option_map (λ h. line.Found h n) at
row_line hosts at name (told.Writes seq entry) entries report = option_map (λ h. line.Writes h seq entry) at
row_line hosts at name (told.Answered answer) entries report = answered_line at (answer_with answer entries report)
row_line hosts at name told.Stop entries report = option_map line.Stop at
row_line hosts at name told.Halt entries report = option_map line.Halt at
row_line hosts at name told.Umount entries report = option_map line.Umount at
row_line hosts at name (told.Refused why) entries report = option_map (line.Refused name) (resolved_refusal hosts why)

-- an answer
abbrev pub is_answer : LineNote → Bool
is_answer (told.Host uuid) = false
is_answer (told.Made p) = false
is_answer (told.Cut k) = false
is_answer (told.Start cmd) = false
is_answer told.Mark = false
is_answer (told.Found n) = false
is_answer (told.Writes seq entry) = false
is_answer (told.Answered answer) = true
is_answer told.Stop = false
is_answer told.Halt = false
is_answer told.Umount = false
is_answer (told.Refused why) = false

-- by what is told and what follows: something follows an answer alone
abbrev pub line_with : List SeenHost → Option ℕ → List ℕ → LineNote → Vec Entry Global → Option Report → Option Line
line_with hosts at name note entries report =
    if is_answer note || has_no_further entries.items report then row_line hosts at name note entries report else None

-- so of a line
abbrev pub resolved : List SeenHost → ToldLine → Vec Entry Global → Option Report → Option Line
resolved hosts told entries report = line_with hosts (seen_number hosts told.name) told.name told.note entries report
