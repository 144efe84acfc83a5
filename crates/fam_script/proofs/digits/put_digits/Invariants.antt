use Rattle.std.proofs.Common.{◌≡◌, ◌++◌, take}
use Rattle.std.specs.List.{flat_map}
use Rattle.fam_outcomes.specs.Texts.{byte_text}
use Rattle.fam_script.proofs.digits.put_digits.Given as goal

abbrev pub invariant-loop-byte : goal.invariant-loop-byte
invariant-loop-byte l = l.into.items ≡ l.initial.into.items ++ flat_map byte_text (take l.byte-index l.bytes)
