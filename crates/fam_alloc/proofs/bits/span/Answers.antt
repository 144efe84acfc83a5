use Rattle.std.proofs.Common.{◌*◌}
use Rattle.fam_alloc.proofs.BitLemmas.{has_bit-and, within_word}
use Rattle.fam_alloc.proofs.bits.span.Goals as goal

pub returns : goal.returns
returns c = λ i below.
    rw (has_bit-and c.low_ones.result c.flipped.result i, c.low_ones.ensures i below, c.flipped.ensures i below, c.low_ones-2.ensures i below)
    (within_word c.saturating_sub.result c.saturating_sub-2.result c.args.from c.args.to (64 * c.args.word) i c.saturating_sub.ensures c.saturating_sub-2.ensures)
