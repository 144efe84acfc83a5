use Rattle.std.proofs.Common.{arith}
use Rattle.fam_format.proofs.Formats.{slot_long}
use Rattle.fam_replay.proofs.replay.Replay.judge.Goals as goal

pub is_short-requires : goal.is_short-requires
is_short-requires c = omega (arith, slot_long c.args.params.now, c.requires.count)

pub judge_short-requires-clause-long : goal.judge_short-requires-clause-long
judge_short-requires-clause-long c = omega (arith, slot_long c.args.params.now, c.requires.count)
