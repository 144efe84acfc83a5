use Rattle.std.proofs.Common.{arith}
use Rattle.fam_cache.proofs.InOrder.{all_below, all_from}
use Rattle.fam_cache.proofs.blocks.bisect.Goals as goal

pub loop-low-preserved-then-areas-mid : goal.loop-low-preserved-then-areas-mid
loop-low-preserved-then-areas-mid c = record {
  ordered = omega arith;
  within = c.loop-low.invariant.within;
  before = all_below c.args.areas.now c.requires _ c.args.number (omega arith) c.if-areas-mid.true;
  from = c.loop-low.invariant.from;
}

pub loop-low-preserved : goal.loop-low-preserved
loop-low-preserved c = record {
  ordered = omega arith;
  within = omega arith;
  before = c.loop-low.invariant.before;
  from = all_from c.args.areas.now c.requires _ c.args.number (omega arith) c.if-areas-mid.false;
}
