use Rattle.std.proofs.Common.{◌≡◌, ◌∙◌, ap, arith}
use Rattle.fam_alloc.specs.Next.{is_bit_set}
use Rattle.fam_alloc.proofs.MapLemmas.{passing}
use Rattle.fam_alloc.proofs.CountLemmas.{run_counted, counted_units}
use Rattle.fam_alloc.proofs.used_units.count_used.Goals as goal

pub loop-unit-preserved : goal.loop-unit-preserved
loop-unit-preserved c = record {
  within = omega (arith, c.next-end.ensures.high);
  counted = run_counted (is_bit_set c.args.words.now.items) c.loop-unit.unit c.args.units c.next-start.result c.next-end.result c.loop-unit.count
      c.loop-unit.invariant.counted c.next-start.ensures c.next-end.ensures;
  few = omega (arith, c.loop-unit.invariant.few, c.next-start.ensures.low, c.next-end.ensures.low);
}

pub returns : goal.returns
returns c =
    let last : c.loop-unit.unit ≡ c.args.units = omega (arith, c.loop-unit.invariant.within, c.loop-unit-test.false) in
    counted_units c.args.words.now.items c.args.units c.loop-unit.count
    (c.loop-unit.invariant.counted ∙ ap (passing (is_bit_set c.args.words.now.items)) last)
