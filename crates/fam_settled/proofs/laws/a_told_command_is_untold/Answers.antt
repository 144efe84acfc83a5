use Rattle.std.proofs.Common.{◌≡◌, refl}
use Rattle.fam_base.specs.declared.cmd.Cmd.{Cmd}
use Rattle.fam_base.specs.declared.cmd.Cmd.TheVariants.{Verify}
use Rattle.fam_base.specs.declared.cmd.Content.TheVariants as content
use Rattle.fam_history.specs.Told.{told_of_command}
use Rattle.fam_judge.specs.Untold.{untold_cmd}
use Rattle.fam_settled.specs.Told.{bare_cmd}
use Rattle.fam_settled.proofs.laws.a_told_command_is_untold.Goals as goal

untold_told : (c : Cmd) → bare_cmd (told_of_command c) ≡ untold_cmd c
untold_told (Verify path content.Zero) = refl
untold_told (Verify path (content.Seed seed)) = refl
untold_told (Verify path (content.Bytes bytes)) = refl
untold_told c = refl

pub returns : goal.returns
returns c = untold_told
