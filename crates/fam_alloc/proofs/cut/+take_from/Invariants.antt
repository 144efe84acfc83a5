use Rattle.std.proofs.Common.{◌-◌, length}
use Rattle.fam_alloc.proofs.cut.+take_from.Given as goal

abbrev pub decreases-take_from : goal.decreases-take_from
decreases-take_from l = length l.extents.now - l.i
