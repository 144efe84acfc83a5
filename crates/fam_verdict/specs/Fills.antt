-- Lines whose command, where one begins, has no bytes of a source: a creat is filled with zeros or by a seed.
use Rattle.std.specs.Prelude.{⊤}
use Rattle.fam_history.specs.declared.note.LineNote.{LineNote}
use Rattle.fam_history.specs.declared.note.LineNote.TheVariants as told
use Rattle.fam_lines.specs.declared.line.Line.{Line}
use Rattle.fam_lines.specs.declared.line.Line.TheVariants as line
use Rattle.fam_settled.specs.Told.{HasToldFill}

-- by what a note's first line tells
abbrev pub HasToldFillIn : LineNote → Type 0
HasToldFillIn (told.Host uuid) = ⊤
HasToldFillIn (told.Made p) = ⊤
HasToldFillIn (told.Cut k) = ⊤
HasToldFillIn (told.Start cmd) = HasToldFill cmd
HasToldFillIn told.Mark = ⊤
HasToldFillIn (told.Found n) = ⊤
HasToldFillIn (told.Writes seq entry) = ⊤
HasToldFillIn (told.Answered answer) = ⊤
HasToldFillIn told.Stop = ⊤
HasToldFillIn told.Halt = ⊤
HasToldFillIn told.Umount = ⊤
HasToldFillIn (told.Refused why) = ⊤

-- by the line
abbrev pub BeginsFilled : Line → Type 0
BeginsFilled (line.Host name uuid) = ⊤
BeginsFilled (line.Made h p) = ⊤
BeginsFilled (line.Cut h k) = ⊤
BeginsFilled (line.Start h cmd) = HasToldFill cmd
BeginsFilled (line.Mark h) = ⊤
BeginsFilled (line.Found h n) = ⊤
BeginsFilled (line.Writes h seq e) = ⊤
BeginsFilled (line.Answered h answer) = ⊤
BeginsFilled (line.Stop h) = ⊤
BeginsFilled (line.Halt h) = ⊤
BeginsFilled (line.Umount h) = ⊤
BeginsFilled (line.Refused name why) = ⊤
