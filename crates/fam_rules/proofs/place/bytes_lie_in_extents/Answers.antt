use Rattle.fam_rules.proofs.FilePlaces.{place_in, place_behind, place_before}
use Rattle.fam_rules.proofs.place.bytes_lie_in_extents.Goals as goal

pub returns : goal.returns
returns c = record { within = place_in; behind = place_behind; before = place_before }
