use Rattle.fam_rules.proofs.FilePlaces.{place_once}
use Rattle.fam_rules.proofs.place.bytes_of_a_file_are_apart.Goals as goal

pub returns : goal.returns
returns c = place_once
