-- Answers but those to questions, and ones to questions that list nothing.
use Rattle.std.specs.Prelude.{ℕ, ⊤}
use Rattle.fam_lines.specs.declared.answer.HostAnswer.{HostAnswer}
use Rattle.fam_lines.specs.declared.answer.HostAnswer.TheVariants as given

-- an answer that appends, declines, reports or tells of damage
abbrev pub IsPlainAnswer : HostAnswer → Type 0
IsPlainAnswer (given.Appended seq) = ⊤
IsPlainAnswer (given.NotAppended why) = ⊤
IsPlainAnswer (given.Played m entries) = ⊥
IsPlainAnswer (given.Mounted m) = ⊥
IsPlainAnswer (given.Same m) = ⊥
IsPlainAnswer (given.Differs m offset found wanted) = ⊥
IsPlainAnswer (given.Length m size wanted) = ⊥
IsPlainAnswer (given.Bytes m bytes) = ⊥
IsPlainAnswer (given.NotFound m) = ⊥
IsPlainAnswer (given.IsDirectory m) = ⊥
IsPlainAnswer (given.Checks m checked) = ⊥
IsPlainAnswer (given.Reports report) = ⊤
IsPlainAnswer (given.NoSuperblock fault) = ⊤
IsPlainAnswer (given.BadHeader fault) = ⊤
IsPlainAnswer (given.BadSlot seq why) = ⊤
IsPlainAnswer (given.MediaFault at) = ⊥

-- an answer that shows something of the first entries and lists none of them
abbrev pub IsShownAnswer : HostAnswer → Type 0
IsShownAnswer (given.Appended seq) = ⊥
IsShownAnswer (given.NotAppended why) = ⊥
IsShownAnswer (given.Played m entries) = ⊥
IsShownAnswer (given.Mounted m) = ⊤
IsShownAnswer (given.Same m) = ⊤
IsShownAnswer (given.Differs m offset found wanted) = ⊤
IsShownAnswer (given.Length m size wanted) = ⊤
IsShownAnswer (given.Bytes m bytes) = ⊤
IsShownAnswer (given.NotFound m) = ⊤
IsShownAnswer (given.IsDirectory m) = ⊤
IsShownAnswer (given.Checks m checked) = ⊤
IsShownAnswer (given.Reports report) = ⊥
IsShownAnswer (given.NoSuperblock fault) = ⊥
IsShownAnswer (given.BadHeader fault) = ⊥
IsShownAnswer (given.BadSlot seq why) = ⊥
IsShownAnswer (given.MediaFault at) = ⊥

-- of how many entries an answer is that shows something of them
abbrev pub entries_in : HostAnswer → ℕ
entries_in (given.Appended seq) = 0
entries_in (given.NotAppended why) = 0
entries_in (given.Played m entries) = m
entries_in (given.Mounted m) = m
entries_in (given.Same m) = m
entries_in (given.Differs m offset found wanted) = m
entries_in (given.Length m size wanted) = m
entries_in (given.Bytes m bytes) = m
entries_in (given.NotFound m) = m
entries_in (given.IsDirectory m) = m
entries_in (given.Checks m checked) = m
entries_in (given.Reports report) = 0
entries_in (given.NoSuperblock fault) = 0
entries_in (given.BadHeader fault) = 0
entries_in (given.BadSlot seq why) = 0
entries_in (given.MediaFault at) = 0
