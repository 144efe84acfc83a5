use Rattle.std.proofs.Common.{arith}
use Rattle.std.proofs.lemmas.Nat.{shr_le}
use Rattle.fam_alloc.proofs.BitLemmas.{no_bits, first_of_rest}
use Rattle.fam_alloc.proofs.bits.first_one.Goals as goal

pub returns-then-rest-eq0 : goal.returns-then-rest-eq0
returns-then-rest-eq0 c = no_bits c.args.word c.args.from 64 c.if-rest-eq0.true (omega arith)

pub returns : goal.returns
returns c =
    first_of_rest c.args.word c.args.from c.ranges.word.fits c.requires (omega arith)
    (omega (arith, c.ranges.word.fits, shr_le c.args.word c.args.from))
