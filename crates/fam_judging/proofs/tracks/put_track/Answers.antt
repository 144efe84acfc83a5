use Rattle.std.proofs.Common.{arith}
use Rattle.fam_judging.proofs.Keeping.{no_place, put_one}
use Rattle.fam_judging.proofs.tracks.put_track.Goals as goal

pub returns-then-at-len : goal.returns-then-at-len
returns-then-at-len c = put_one c.args.at c.args.tracks.now.items c.args.track.now

pub returns-else-at-len : goal.returns-else-at-len
returns-else-at-len c = no_place c.args.at _ c.args.tracks.now.items (omega (arith, c.if-at-len.false, c.len.ensures))
