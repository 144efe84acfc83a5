use Rattle.clap.specs.Simple.{app_of}
use Rattle.fam_words.specs.Simple.{plain_app}
use Rattle.fam_words.proofs.Given.{one_more}
use Rattle.fam_words.proofs.simple.command.Goals as goal

pub loop-argument-preserved : goal.loop-argument-preserved
loop-argument-preserved c =
    one_more (plain_app c.args.name.now) (app_of c.loop-argument.command) (app_of c.in_ok-command.command) c.args.arguments.now
    c.loop-argument.argument-index _ c.loop-argument-test.true c.loop-argument.invariant c.in_ok-command.ensures
