use Rattle.fam_rules.proofs.ListPlaces.{bytes_apart}
use Rattle.fam_rules.proofs.place.bytes_of_files_are_apart.Goals as goal

pub returns : goal.returns
returns c = bytes_apart
