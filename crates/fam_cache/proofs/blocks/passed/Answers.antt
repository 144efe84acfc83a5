use Rattle.std.proofs.Common.{arith}
use Rattle.fam_cache.proofs.InOrder.{all_below}
use Rattle.fam_cache.proofs.blocks.passed.Goals as goal

pub returns-then-areas-count-clause-before : goal.returns-then-areas-count-clause-before
returns-then-areas-count-clause-before c = λ j below. all_below c.args.areas.now c.requires _ c.args.number (omega arith) c.if-areas-count.true j (omega (arith, below))

pub returns-then-areas-count-2-clause-before : goal.returns-then-areas-count-2-clause-before
returns-then-areas-count-2-clause-before c = λ j below. all_below c.args.areas.now c.requires _ c.args.number (omega arith) c.if-areas-count-2.true j (omega (arith, below))
