-- Lines that no running command gives.
use Rattle.std.specs.Prelude.{⊤, ◌≡◌, false}
use Rattle.fam_format.specs.Params.{IsUuid, SoundParams}
use Rattle.fam_journal.specs.Notes.{Answer, MediaFault, Replied}
use Rattle.fam_judge.specs.Standing.{is_own}
use Rattle.fam_lines.specs.declared.line.Line.{Line}
use Rattle.fam_lines.specs.declared.line.Line.TheVariants as line
use Rattle.fam_lines.specs.Lines.{answer_of, note_of_line}

-- the media failed
abbrev pub IsFault : Answer → Type 0
IsFault (Replied given) = ⊥
IsFault (MediaFault at) = ⊤

-- no running command gives the line
abbrev pub IsPlainLine : Line → Type 0
IsPlainLine l = is_own (note_of_line l) ≡ false

-- a file system that the line says was made has sound parameters
abbrev pub HasSoundMade : Line → Type 0
HasSoundMade (line.Host name uuid) = ⊤
HasSoundMade (line.Made h p) = SoundParams p
HasSoundMade (line.Cut h k) = ⊤
HasSoundMade (line.Start h cmd) = ⊤
HasSoundMade (line.Mark h) = ⊤
HasSoundMade (line.Found h n) = ⊤
HasSoundMade (line.Writes h seq e) = ⊤
HasSoundMade (line.Answered h answer) = ⊤
HasSoundMade (line.Stop h) = ⊤
HasSoundMade (line.Halt h) = ⊤
HasSoundMade (line.Umount h) = ⊤
HasSoundMade (line.Refused name why) = ⊤

-- of one that it says was made the master has a UUID
abbrev pub HasUuid : Line → Type 0
HasUuid (line.Host name uuid) = ⊤
HasUuid (line.Made h p) = IsUuid p.master
HasUuid (line.Cut h k) = ⊤
HasUuid (line.Start h cmd) = ⊤
HasUuid (line.Mark h) = ⊤
HasUuid (line.Found h n) = ⊤
HasUuid (line.Writes h seq e) = ⊤
HasUuid (line.Answered h answer) = ⊤
HasUuid (line.Stop h) = ⊤
HasUuid (line.Halt h) = ⊤
HasUuid (line.Umount h) = ⊤
HasUuid (line.Refused name why) = ⊤

-- the line tells no reply
abbrev pub TellsNoReply : Line → Type 0
TellsNoReply (line.Host name uuid) = ⊤
TellsNoReply (line.Made h p) = ⊤
TellsNoReply (line.Cut h k) = ⊤
TellsNoReply (line.Start h cmd) = ⊤
TellsNoReply (line.Mark h) = ⊤
TellsNoReply (line.Found h n) = ⊤
TellsNoReply (line.Writes h seq e) = ⊤
TellsNoReply (line.Answered h answer) = IsFault (answer_of answer)
TellsNoReply (line.Stop h) = ⊤
TellsNoReply (line.Halt h) = ⊤
TellsNoReply (line.Umount h) = ⊤
TellsNoReply (line.Refused name why) = ⊤
