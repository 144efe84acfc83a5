use Rattle.std.proofs.Common.{arith}
use Rattle.fam_alloc.proofs.LayerLemmas.{empty_layers}
use Rattle.fam_alloc.proofs.layers.Layers.new.Goals as goal

pub invariant_of-result : goal.invariant_of-result
invariant_of-result c =
    let words = c.in_ok-zeros.ensures in
    let full = c.in_ok-zeros-2.ensures in
    let blocks = c.in_ok-zeros-3.ensures in
    let tops = c.in_ok-zeros-4.ensures in
    rw (words, full, blocks, tops)
    (empty_layers c.args.words c.div_ceil-full.result c.div_ceil-blocks.result c.div_ceil-tops.result (omega (arith, c.div_ceil-full.ensures))
    (omega (arith, c.div_ceil-blocks.ensures)) (omega (arith, c.div_ceil-tops.ensures)))
