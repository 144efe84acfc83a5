use Rattle.std.proofs.Common.{◌≡◌, fold, take}
use Rattle.fam_crc.specs.Crc.{all_ones, after_byte, bytes_of_words}
use Rattle.fam_plain.proofs.crc.plain_crc_words.Given as goal

abbrev pub invariant-loop-word : goal.invariant-loop-word
invariant-loop-word l = l.register ≡ fold after_byte all_ones (bytes_of_words (take l.word-index l.words))
