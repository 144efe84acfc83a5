use Rattle.std.proofs.Common.{arith}
use Rattle.fam_cache.specs.Blocks.{lines_of}
use Rattle.fam_cache.proofs.CleanRuns.{clean_both}
use Rattle.fam_cache.proofs.cache.rows.all_clean.Goals as goal

pub loop-done-preserved : goal.loop-done-preserved
loop-done-preserved c =
    record {
      few = omega (arith, c.part_of-part.ensures.most, c.loop-done.invariant.few);
      clean = clean_both (lines_of c.args.places.now) c.args.first c.loop-done.done c.part_of-part.result c.loop-done.invariant.clean (c.are_clean.ensures c.if-not-are_clean.false);
    }
