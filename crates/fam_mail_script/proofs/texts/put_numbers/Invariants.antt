use Rattle.std.proofs.Common.{◌≡◌, ◌++◌, take}
use Rattle.fam_mail_script.specs.Texts.{numbers_text}
use Rattle.fam_mail_script.proofs.texts.put_numbers.Given as goal

abbrev pub invariant-loop-number : goal.invariant-loop-number
invariant-loop-number l = l.into.items ≡ l.initial.into.items ++ numbers_text (take l.number-index l.numbers)
