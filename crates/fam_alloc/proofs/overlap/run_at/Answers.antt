use Rattle.fam_alloc.proofs.OverlapLemmas.{run_ends}
use Rattle.fam_alloc.proofs.overlap.run_at.Goals as goal

pub returns-clause-within : goal.returns-clause-within
returns-clause-within c =
    rw c.extent_at-extent.ensures (run_ends c.args.unit c.args.units c.args.extents.now c.args.i c.requires.unit c.requires.within)
