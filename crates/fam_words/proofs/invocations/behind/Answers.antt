use Rattle.std.proofs.Common.{ap, ◌∙◌}
use Rattle.clap.specs.Faults.{is_simple_and_free}
use Rattle.fam_words.proofs.SimpleApps.{named_simple}
use Rattle.fam_words.proofs.invocations.behind.Goals as goal

-- each command is simple, and its arguments have no rules on others
pub found-requires : goal.found-requires
found-requires c = ap is_simple_and_free c.words_of.ensures ∙ named_simple c.args.name
