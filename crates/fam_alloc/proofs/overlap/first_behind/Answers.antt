use Rattle.std.proofs.Common.{nat_lt, take}
use Rattle.fam_format.specs.Units.{units_in}
use Rattle.fam_alloc.specs.Taken.{holds}
use Rattle.fam_alloc.proofs.NextLemmas.{next_either}
use Rattle.fam_alloc.proofs.overlap.first_behind.Goals as goal

pub returns : goal.returns
returns c =
    next_either (λ u. nat_lt u c.args.head) (holds (units_in c.args.unit (take c.args.count c.args.extents.now)))
    c.args.run.start c.args.run.end c.first_below.result c.first_shared.result c.first_below.ensures c.first_shared.ensures
