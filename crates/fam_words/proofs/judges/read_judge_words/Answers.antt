use Rattle.std.proofs.Common.{ap, ◌∙◌}
use Rattle.clap.specs.Faults.{is_simple_and_free}
use Rattle.fam_words.proofs.SimpleApps.{judge_simple}
use Rattle.fam_words.proofs.judges.read_judge_words.Goals as goal

-- the command is simple, and its arguments have no rules on others
pub found-requires : goal.found-requires
found-requires c = ap is_simple_and_free c.judge.ensures ∙ judge_simple
