use Rattle.std.proofs.Common.{◌≡◌, fold, take}
use Rattle.clap.specs.Simple.{app_of}
use Rattle.fam_words.specs.Arguments.{with_argument}
use Rattle.fam_words.specs.Simple.{plain_app}
use Rattle.fam_words.proofs.simple.command.Given as goal

abbrev pub invariant-loop-argument : goal.invariant-loop-argument
invariant-loop-argument l = app_of l.command ≡ fold with_argument (plain_app l.name) (take l.argument-index l.arguments)
