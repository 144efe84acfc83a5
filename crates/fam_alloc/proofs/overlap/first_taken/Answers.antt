use Rattle.std.proofs.Common.{take}
use Rattle.fam_format.specs.Units.{units_in}
use Rattle.fam_alloc.specs.Taken.{holds}
use Rattle.fam_alloc.proofs.NextLemmas.{next_either}
use Rattle.fam_alloc.proofs.overlap.first_taken.Goals as goal

pub returns : goal.returns
returns g c =
    next_either (g.M.Occupied.is_used c.args.map.now) (holds (units_in c.args.unit (take c.args.count c.args.extents.now)))
    c.args.run.start c.args.run.end c.next_used-end.result c.first_shared.result c.next_used-end.ensures c.first_shared.ensures
