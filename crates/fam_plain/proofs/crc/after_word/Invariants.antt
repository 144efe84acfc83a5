use Rattle.std.proofs.Common.{◌≡◌, fold, take}
use Rattle.fam_crc.specs.Crc.{after_byte}
use Rattle.fam_plain.proofs.crc.after_word.Given as goal

abbrev pub invariant-loop-byte : goal.invariant-loop-byte
invariant-loop-byte l = l.register ≡ fold after_byte l.initial.register (take l.byte-index l.byte-items)
