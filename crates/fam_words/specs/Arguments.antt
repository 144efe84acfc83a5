-- The arguments of a command, one after the other.
use Rattle.std.specs.Prelude.{Some, None}
use Rattle.clap.specs.Simple.{App, with_rule}
use Rattle.clap.specs.Walk.{Rule}
use Rattle.fam_words.specs.declared.simple.Argument.{Argument}
use Rattle.fam_words.specs.declared.simple.Argument.TheVariants as argument
use Rattle.fam_words.specs.Simple.{word_rule, optional_rule, option_rule, flag_rule}

-- an argument, as clap has it
abbrev pub rule_for : Argument → Rule
rule_for (argument.Word id) = word_rule id.now
rule_for (argument.Optional id) = optional_rule id.now
rule_for (argument.Long id needed) = option_rule id.now None needed
rule_for (argument.Short id letter needed) = option_rule id.now (Some letter) needed
rule_for (argument.Flag id letter) = flag_rule id.now letter

-- a command with one more argument
unfoldable pub with_argument : App → Argument → App
with_argument app argument = with_rule app (rule_for argument)
