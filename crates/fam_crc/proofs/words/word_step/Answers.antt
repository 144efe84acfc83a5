use Rattle.std.proofs.Common.{arith}
use Rattle.fam_crc.proofs.Steps.{half_split, word_split, top_fits}
use Rattle.fam_crc.proofs.words.word_step.Goals as goal

pub overflow_cast-x-9 : goal.overflow_cast-x-9
overflow_cast-x-9 c = omega (arith, top_fits c.args.word c.args.register c.ranges.word.fits c.ranges.register.fits)

pub returns : goal.returns
returns c = word_split c.args.register c.args.word _ _ _ _ _ _ _ _ c.ranges.register.fits c.ranges.word.fits c.after_64.ensures c.after_56.ensures
    c.after_48.ensures c.after_40.ensures c.after_32.ensures c.after_24.ensures c.after_16.ensures c.after_8.ensures

pub returns-then-x-lt-HALF : goal.returns-then-x-lt-HALF
returns-then-x-lt-HALF c = half_split c.args.register c.args.word _ _ _ _ c.ranges.register.fits c.ranges.word.fits c.if-x-lt-HALF.true
    c.after_64.ensures c.after_56.ensures c.after_48.ensures c.after_40.ensures
