use Rattle.std.proofs.Common.{◌∙◌, arith}
use Rattle.fam_alloc.specs.Next.{is_bit_set}
use Rattle.fam_alloc.proofs.LayerLemmas.{cover_more}
use Rattle.fam_alloc.proofs.layers.Layers.cover.Goals as goal

pub loop-unit-preserved : goal.loop-unit-preserved
loop-unit-preserved c =
    record {
      low = omega (arith, c.loop-unit.invariant.low, c.next_free-start.ensures.low, c.next-end.ensures.low);
      high = omega (arith, c.next-end.ensures.high);
      len = c.mark.ensures.len ∙ c.loop-unit.invariant.len;
      marked = λ u.
          c.mark.ensures.marked u
          ∙ cover_more (is_bit_set c.args.self.now) (is_bit_set c.loop-unit.self) c.args.from c.loop-unit.unit c.next_free-start.result c.next-end.result c.args.to
          c.loop-unit.invariant.low c.loop-unit.invariant.marked c.next_free-start.ensures c.next-end.ensures.low u;
    }
