use Rattle.std.proofs.Common.{arith}
use Rattle.fam_format.proofs.Formats.{slot_long}
use Rattle.fam_fsck.proofs.fsck.Fsck.add.Goals as goal

pub is_short-requires : goal.is_short-requires
is_short-requires c = omega (arith, slot_long c.args.self.now.params, c.requires.count)

pub add_short-requires-clause-long : goal.add_short-requires-clause-long
add_short-requires-clause-long c = omega (arith, slot_long c.args.self.now.params, c.requires.count)
