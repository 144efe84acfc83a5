use Rattle.std.proofs.Common.{◌≡◌, ◌<◌, ℕ, length, get_or}
use Rattle.fam_format.specs.Words.{byte_from, uuid_bytes}
use Rattle.fam_super.proofs.read.uuid_from.Given as goal

-- the bytes below the index are those of the words
abbrev pub invariant-loop-i : goal.invariant-loop-i
invariant-loop-i l =
    record { long : length l.bytes ≡ uuid_bytes; filled : (k : ℕ) → k < l.i → get_or l.bytes k 0 ≡ byte_from l.first l.words k }
