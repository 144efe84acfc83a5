use Rattle.std.proofs.Common.{arith}
use Rattle.fam_alloc.proofs.OverlapLemmas.{count_more}
use Rattle.fam_alloc.proofs.overlap.count_units.Goals as goal

pub loop-i-preserved : goal.loop-i-preserved
loop-i-preserved c =
    let extents = c.args.extents.now in
    let run = c.run_at-run.result in
    record {
      small = omega arith;
      count = count_more c.args.unit extents c.loop-i.i run.start run.end c.loop-i.count (omega arith) c.run_at-run.ensures.end c.loop-i.invariant.count;
    }
