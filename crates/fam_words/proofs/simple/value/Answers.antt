use Rattle.std.proofs.Common.{◌∙◌}
use Rattle.clap.specs.Matches.{found_of}
use Rattle.clap.proofs.WalkLemmas.{first_value-rows}
use Rattle.fam_words.specs.Simple.{value_in}
use Rattle.fam_words.proofs.simple.value.Goals as goal

pub returns : goal.returns
unfolding value_in
returns c = c.get_str.ensures ∙ first_value-rows (found_of c.args.found.now) c.args.id.now
