use Rattle.std.proofs.Common.{◌≡◌, fold, length}
use Rattle.fam_crc.specs.Crc.{all_ones, after_byte, bytes_of_words}
use Rattle.fam_crc.specs.Zeros.{IsSeen}
use Rattle.fam_crc.proofs.words.sum_words.Given as goal

abbrev pub invariant-loop-next : goal.invariant-loop-next
invariant-loop-next l = record {
  after : fold after_byte l.pass.register (bytes_of_words l.pass.rest.now) ≡ fold after_byte all_ones (bytes_of_words l.words);
  seen : IsSeen l.words l.pass.tail.now l.pass.rest.now;
}

abbrev pub decreases-loop-next : goal.decreases-loop-next
decreases-loop-next l = length l.pass.rest.now
