-- Listings whose entries come in the order of their paths.
use Rattle.std.specs.Prelude.{⊤, ◌≡◌, true, None}
use Rattle.fam_lines.specs.declared.answer.HostAnswer.{HostAnswer}
use Rattle.fam_lines.specs.declared.answer.HostAnswer.TheVariants as given
use Rattle.fam_lines.specs.declared.line.Line.{Line}
use Rattle.fam_lines.specs.declared.line.Line.TheVariants as line
use Rattle.fam_lines.specs.Resolved.{rise_behind}

-- of a log that was played the paths of the entries rise; no other answer lists any
abbrev pub RisesIn : HostAnswer → Type 0
RisesIn (given.Appended seq) = ⊤
RisesIn (given.NotAppended why) = ⊤
RisesIn (given.Played m entries) = rise_behind None entries.items ≡ true
RisesIn (given.Mounted m) = ⊤
RisesIn (given.Same m) = ⊤
RisesIn (given.Differs m offset found wanted) = ⊤
RisesIn (given.Length m size wanted) = ⊤
RisesIn (given.Bytes m bytes) = ⊤
RisesIn (given.NotFound m) = ⊤
RisesIn (given.IsDirectory m) = ⊤
RisesIn (given.Checks m checked) = ⊤
RisesIn (given.Reports report) = ⊤
RisesIn (given.NoSuperblock fault) = ⊤
RisesIn (given.BadHeader fault) = ⊤
RisesIn (given.BadSlot seq why) = ⊤
RisesIn (given.MediaFault at) = ⊤

-- so it is of what a line says that a host was answered
abbrev pub ListsRising : Line → Type 0
ListsRising (line.Host name uuid) = ⊤
ListsRising (line.Made host p) = ⊤
ListsRising (line.Cut host k) = ⊤
ListsRising (line.Start host cmd) = ⊤
ListsRising (line.Mark host) = ⊤
ListsRising (line.Found host n) = ⊤
ListsRising (line.Writes host seq entry) = ⊤
ListsRising (line.Answered host answer) = RisesIn answer
ListsRising (line.Stop host) = ⊤
ListsRising (line.Halt host) = ⊤
ListsRising (line.Umount host) = ⊤
ListsRising (line.Refused name cause) = ⊤
