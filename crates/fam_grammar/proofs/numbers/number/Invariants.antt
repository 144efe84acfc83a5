use Rattle.std.proofs.Common.{◌≡◌, Some, drop}
use Rattle.fam_grammar.proofs.Digits.{read_on}
use Rattle.fam_grammar.proofs.numbers.number.Given as goal

abbrev pub invariant-loop-byte : goal.invariant-loop-byte
invariant-loop-byte l = read_on (Some l.number) (drop l.byte-index l.text) ≡ read_on (Some 0) l.text
