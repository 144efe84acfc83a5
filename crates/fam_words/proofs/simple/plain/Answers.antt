use Rattle.std.proofs.Common.{true, ap, ◌∙◌}
use Rattle.clap.specs.Simple.{App, app_of_fields, on_top}
use Rattle.clap.specs.declared.builder.command.Command.{Command}
use Rattle.clap.specs.declared.builder.command.Command.TheOpen.{Command-F}
use Rattle.fam_words.specs.Simple.{plain_app}
use Rattle.fam_words.proofs.simple.plain.Goals as goal

-- the three settings, one after the other
pub returns : goal.returns
unfolding plain_app
returns c =
    ap app_of_fields
    (c.disable_version_flag.ensures
    ∙ ap (λ (f : Command-F Command). record f { disable_version_flag = true }) (c.disable_help_flag.ensures
    ∙ ap (λ (f : Command-F Command). record f { disable_help_flag = true }) c.no_binary_name.ensures))
    ∙ ap (λ (app : App). on_top (λ s. record s { no_binary_name = true; disable_help_flag = true; disable_version_flag = true }) app) c.new.ensures.app
