use Rattle.std.proofs.Common.{◌∙◌, refl, sym, arith}
use Rattle.std.proofs.lemmas.Bool.Decides.{nat_tests}
use Rattle.fam_grammar.proofs.Digits.{reads_byte, ends_at_byte, reads_all, number_is}
use Rattle.fam_grammar.proofs.numbers.number.Goals as goal

pub loop-byte-init : goal.loop-byte-init
loop-byte-init c = refl

pub loop-byte-preserved : goal.loop-byte-preserved
loop-byte-preserved c =
    reads_byte c.loop-byte.number _ c.loop-byte.byte-index c.args.text.now _ c.loop-byte-test.true (sym c.with_digit.ensures ∙ c.in_ok-number.was) c.loop-byte.invariant

pub returns-in_err-number : goal.returns-in_err-number
returns-in_err-number c =
    c.from_residual.ensures
    ∙ ends_at_byte c.loop-byte.number c.loop-byte.byte-index c.args.text.now _ c.loop-byte-test.true (sym c.with_digit.ensures ∙ c.in_err-number.was) c.loop-byte.invariant
    ∙ number_is c.args.text.now (grind (arith, nat_tests)) (omega arith)

pub returns : goal.returns
returns c =
    reads_all c.loop-byte.number c.loop-byte.byte-index c.args.text.now _ c.loop-byte-test.false c.loop-byte.invariant
    ∙ number_is c.args.text.now (grind (arith, nat_tests)) (omega arith)
