use Rattle.std.proofs.Common.{◌∙◌, arith}
use Rattle.fam_alloc.specs.Next.{is_bit_set}
use Rattle.fam_alloc.proofs.OverlapLemmas.{marked_more}
use Rattle.fam_alloc.proofs.overlap.cover_all.Goals as goal

pub loop-i-preserved : goal.loop-i-preserved
loop-i-preserved c =
    let run = c.run_at-run.result in
    record {
      len = c.cover.ensures.len ∙ c.loop-i.invariant.len;
      marked = λ u.
          c.cover.ensures.marked u
          ∙ marked_more (is_bit_set c.args.layers.now) (is_bit_set c.loop-i.layers u) c.args.unit c.args.extents.now c.loop-i.i run.start run.end u (omega arith)
          c.run_at-run.ensures.start c.run_at-run.ensures.end (c.loop-i.invariant.marked u);
    }
