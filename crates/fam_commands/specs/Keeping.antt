-- What a host keeps behind an operation of its command: what a mount read; and where it keeps something already, what a
-- logplay read.
-- docs/MODEL.md, "What a host keeps".
use Rattle.std.specs.Prelude.{ℕ, List, Option, Some, option_map}
use Rattle.fam_base.specs.declared.cmd.Cmd.{Cmd}
use Rattle.fam_rules.specs.Reply.{Reply, Appended, NotAppended, Played, Mounted, Same, Differs, Length, Bytes, NotFound, IsDirectory, Checks, NoSuperblock, BadHeader, BadSlot, Reports}
use Rattle.fam_commands.specs.Counts.{told_entries, used_told}
use Rattle.fam_commands.specs.Kept.{Kept}
use Rattle.fam_commands.specs.Table.{RowNote, Quiet, Mark, Found, Writing, Answer, fed_super, params_or}
use Rattle.fam_commands.specs.Task.{Task, no_params}
use Rattle.fam_commands.specs.Turns.{Turn, Goes, Marks, Finds, Writes, Ends}

-- what a task has read of the log
abbrev pub read_by : Task → Kept
read_by t = record { params = t.params; entries = t.entries }

-- the same as the words tell it that the command's loads gave, on a host that kept this when the command began
abbrev pub read_told : Option Kept → Cmd → List ℕ → ℕ → Kept
read_told kept cmd words lines =
    record { params = params_or no_params (fed_super words lines); entries = told_entries (used_told kept cmd words lines) words lines }

-- what a host keeps behind a reply, of what was read and of what it kept
abbrev pub kept_by : Reply → Kept → Option Kept → Option Kept
kept_by (Played m tree) read kept = option_map (λ (k : Kept). read) kept
kept_by (Mounted m) read kept = Some read
kept_by (Appended seq) read kept = kept
kept_by (NotAppended refused) read kept = kept
kept_by (Same m) read kept = kept
kept_by (Differs m offset found wanted) read kept = kept
kept_by (Length m size wanted) read kept = kept
kept_by (Bytes m bytes) read kept = kept
kept_by (NotFound m) read kept = kept
kept_by (IsDirectory m) read kept = kept
kept_by (Checks m checked) read kept = kept
kept_by (Reports report) read kept = kept
kept_by (NoSuperblock fault) read kept = kept
kept_by (BadHeader fault) read kept = kept
kept_by (BadSlot seq reason) read kept = kept

-- behind what comes with an operation
abbrev pub kept_behind : RowNote → Kept → Option Kept → Option Kept
kept_behind Quiet read kept = kept
kept_behind Mark read kept = kept
kept_behind (Found n) read kept = kept
kept_behind (Writing seq e) read kept = kept
kept_behind (Answer reply) read kept = kept_by reply read kept

-- behind a turn of this task
abbrev pub kept_after : Turn → Task → Option Kept → Option Kept
kept_after (Goes next) t kept = kept
kept_after (Marks next) t kept = kept
kept_after (Finds n next) t kept = kept
kept_after (Writes seq e next) t kept = kept
kept_after (Ends reply) t kept = kept_by reply (read_by t) kept
