-- The command that a noted one is.
use Rattle.fam_base.specs.declared.cmd.Cmd.{Cmd}
use Rattle.fam_base.specs.declared.cmd.Cmd.TheVariants as cmd
use Rattle.fam_notes.specs.declared.noted_command.NotedCommand.{NotedCommand}
use Rattle.fam_notes.specs.declared.noted_command.NotedCommand.TheVariants as noted

-- the command that a noted one is
abbrev pub command_of : NotedCommand → Cmd
command_of noted.Logplay = cmd.Logplay
command_of noted.Mount = cmd.Mount
command_of (noted.Mkdir path attr) = cmd.Mkdir path attr
command_of (noted.Creat path size attr stripe fill) = cmd.Creat path size attr stripe fill
command_of (noted.Cp path attr stripe bytes) = cmd.Cp path attr stripe bytes
command_of (noted.Verify path against) = cmd.Verify path against
command_of (noted.Read path offset count) = cmd.Read path offset count
command_of (noted.Check listing) = cmd.Check listing
command_of noted.Fsck = cmd.Fsck
