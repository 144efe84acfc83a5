use Rattle.fam_rules.proofs.RoomLaws.{room_least, room_only}
use Rattle.fam_rules.proofs.room.room_law.Goals as goal

pub returns : goal.returns
returns c = record { least = room_least; only = room_only }
