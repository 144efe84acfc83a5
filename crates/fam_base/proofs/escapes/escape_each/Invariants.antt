use Rattle.std.proofs.Common.{◌≡◌, ◌++◌, take}
use Rattle.fam_base.specs.Escapes.{escaped}
use Rattle.fam_base.proofs.escapes.escape_each.Given as goal

abbrev pub invariant-loop-byte : goal.invariant-loop-byte
invariant-loop-byte l = l.into.items ≡ l.initial.into.items ++ escaped (take l.byte-index l.bytes)
