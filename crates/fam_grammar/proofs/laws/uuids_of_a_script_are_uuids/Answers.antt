use Rattle.fam_grammar.proofs.UuidLaw.{script_uuids}
use Rattle.fam_grammar.proofs.laws.uuids_of_a_script_are_uuids.Goals as goal

pub returns : goal.returns
returns c = script_uuids
