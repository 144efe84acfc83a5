use Rattle.fam_rules.proofs.SimplePlaces.{simple_is_byte}
use Rattle.fam_rules.proofs.place.simple_bytes_lie_end_to_end.Goals as goal

pub returns : goal.returns
returns c = simple_is_byte
