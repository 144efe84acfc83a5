use Rattle.fam_dup.proofs.Following.{only_room}
use Rattle.fam_dup.proofs.laws.only_room_stops_a_copy.Goals as goal

pub returns : goal.returns
returns c = λ p q entries seq refused sound log is. only_room p q entries sound log seq refused is
