use Rattle.std.proofs.Common.{◌≡◌, fold, take}
use Rattle.fam_crc.specs.Crc.{all_ones, after_byte}
use Rattle.fam_plain.proofs.crc.plain_crc.Given as goal

abbrev pub invariant-loop-byte : goal.invariant-loop-byte
invariant-loop-byte l = l.register ≡ fold after_byte all_ones (take l.byte-index l.bytes)
