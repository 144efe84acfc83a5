use Rattle.fam_alloc.proofs.BitLemmas.{has_bit_shl, has_bit_all}
use Rattle.fam_alloc.proofs.bits.low_ones.Goals as goal

pub returns-then-count-lt64 : goal.returns-then-count-lt64
returns-then-count-lt64 c = λ i below. has_bit_shl c.args.count i c.if-count-lt64.true

pub returns-else-count-lt64 : goal.returns-else-count-lt64
returns-else-count-lt64 c = λ i below. has_bit_all c.args.count i c.if-count-lt64.false below
