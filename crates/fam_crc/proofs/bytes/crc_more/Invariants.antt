use Rattle.std.proofs.Common.{◌≡◌, bit_xor, fold, take}
use Rattle.fam_crc.specs.Crc.{all_ones, after_byte}
use Rattle.fam_crc.proofs.bytes.crc_more.Given as goal

abbrev pub invariant-loop-byte : goal.invariant-loop-byte
invariant-loop-byte l = l.register ≡ fold after_byte (bit_xor l.crc all_ones) (take l.byte-index l.bytes)
