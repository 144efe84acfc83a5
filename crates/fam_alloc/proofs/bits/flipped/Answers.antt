use Rattle.fam_alloc.proofs.BitLemmas.{has_bit-not}
use Rattle.fam_alloc.proofs.bits.flipped.Goals as goal

pub returns : goal.returns
returns c = λ i below. has_bit-not c.args.word i c.ranges.word.fits below
