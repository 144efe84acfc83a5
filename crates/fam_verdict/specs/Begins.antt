-- What a line asks for before the hosts go on by it: a host is declared, or begins a command, only where the tables let it.
use Rattle.std.specs.Prelude.{ℕ, ⊤, List}
use Rattle.fam_history.specs.Told.{told_of_command}
use Rattle.fam_judge.specs.Standing.{MayDeclare, MayStart}
use Rattle.fam_lines.specs.declared.host.SeenHost.{SeenHost}
use Rattle.fam_lines.specs.declared.line.Line.{Line}
use Rattle.fam_lines.specs.declared.line.Line.TheVariants as line
use Rattle.fam_lines.specs.Hosts.{faces_of}
use Rattle.fam_lines.specs.Lines.{untold_of}

-- on a media of so many lines, behind lines that tell so much of the hosts
abbrev pub MayBegin : ℕ → List SeenHost → Line → Type 0
MayBegin lines hosts (line.Host name uuid) = MayDeclare (faces_of hosts) name uuid
MayBegin lines hosts (line.Made h p) = ⊤
MayBegin lines hosts (line.Cut h k) = ⊤
MayBegin lines hosts (line.Start h cmd) = MayStart lines (faces_of hosts) h (told_of_command (untold_of cmd))
MayBegin lines hosts (line.Mark h) = ⊤
MayBegin lines hosts (line.Found h n) = ⊤
MayBegin lines hosts (line.Writes h seq e) = ⊤
MayBegin lines hosts (line.Answered h answer) = ⊤
MayBegin lines hosts (line.Stop h) = ⊤
MayBegin lines hosts (line.Halt h) = ⊤
MayBegin lines hosts (line.Umount h) = ⊤
MayBegin lines hosts (line.Refused name why) = ⊤
