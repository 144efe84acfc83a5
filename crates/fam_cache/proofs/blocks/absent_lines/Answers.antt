use Rattle.std.proofs.Common.{arith}
use Rattle.fam_cache.proofs.BlockLemmas.{absent_above, absent_within}
use Rattle.fam_cache.proofs.blocks.absent_lines.Goals as goal

pub returns-then-first-cache-clause-absent : goal.returns-then-first-cache-clause-absent
returns-then-first-cache-clause-absent c = λ k below. absent_above c.args.cache.now c.requires c.args.first k (omega (arith, c.if-first-cache.true))

pub returns-in-None-clause-absent : goal.returns-in-None-clause-absent
returns-in-None-clause-absent c = λ k below.
    absent_within c.args.cache.now.blocks.items c.args.first k (rw c.in-None.is at c.seek.ensures) (omega (arith, below, c.min.ensures))
