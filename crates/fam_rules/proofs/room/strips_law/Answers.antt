use Rattle.fam_rules.proofs.RoomLaws.{strips_first, strips_only}
use Rattle.fam_rules.proofs.room.strips_law.Goals as goal

pub returns : goal.returns
returns c = record { first = strips_first; only = strips_only }
