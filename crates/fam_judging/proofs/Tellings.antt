-- Which told commands are told as a whole.
use Rattle.std.proofs.Common.{◌≡◌, true, refl}
use Rattle.fam_base.specs.declared.cmd.Cmd.{Cmd}
use Rattle.fam_base.specs.declared.cmd.Cmd.TheVariants as cmd
use Rattle.fam_base.specs.declared.cmd.Content.TheVariants as content
use Rattle.fam_history.specs.declared.command.ToldCommand.{ToldCommand}
use Rattle.fam_history.specs.declared.command.ToldCommand.TheVariants as told
use Rattle.fam_judge.specs.Untold.{untold_cmd}
use Rattle.fam_lines.specs.Lines.{untold_of}
use Rattle.fam_lines.specs.Resolved.{is_told, is_told_cmd}
use Rattle.fam_settled.specs.Told.{bare_cmd}

-- a command that is told as a whole
whole : (c : Cmd) → is_told_cmd c ≡ true → untold_cmd c ≡ c
whole cmd.Logplay is = refl
whole cmd.Mount is = refl
whole (cmd.Mkdir path attr) is = refl
whole (cmd.Creat path size attr stripe fill) is = refl
whole (cmd.Cp path attr stripe bytes) is = absurd cc
whole (cmd.Verify path content.Zero) is = refl
whole (cmd.Verify path (content.Seed seed)) is = refl
whole (cmd.Verify path (content.Bytes bytes)) is = absurd cc
whole (cmd.Read path offset count) is = refl
whole (cmd.Check listing) is = absurd cc
whole cmd.Fsck is = refl

-- what a line tells of such a command is all that is told
pub told_same : (c : ToldCommand) → is_told c ≡ true → bare_cmd c ≡ untold_of c
told_same (told.Plain cmd) is = whole cmd is
told_same (told.Cp path size attr stripe) is = refl
told_same (told.VerifySource path count) is = refl
told_same (told.Check count) is = refl
