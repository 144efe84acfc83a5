use Rattle.std.proofs.Common.{ap, ◌∙◌}
use Rattle.clap.specs.Faults.{is_simple_and_free}
use Rattle.fam_words.proofs.simple.found.Goals as goal

pub matches-requires : goal.matches-requires
matches-requires c = ap is_simple_and_free c.in-Ok.ensures ∙ c.requires
