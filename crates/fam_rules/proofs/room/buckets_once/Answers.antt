use Rattle.fam_rules.proofs.RoomLaws.{bucket_has_turn}
use Rattle.fam_rules.proofs.room.buckets_once.Goals as goal

pub returns-clause-each : goal.returns-clause-each
returns-clause-each c = bucket_has_turn
