use Rattle.fam_rules.proofs.FilePlaces.{line_place}
use Rattle.fam_rules.proofs.place.a_line_of_a_file_is_a_line.Goals as goal

pub returns : goal.returns
returns c = line_place
