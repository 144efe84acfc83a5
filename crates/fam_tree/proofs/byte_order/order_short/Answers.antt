use Rattle.std.proofs.Common.{◌∙◌, arith}
use Rattle.fam_tree.proofs.ByteOrder.{byte_decides, ended}
use Rattle.fam_tree.proofs.byte_order.order_short.Goals as goal

pub returns-then-x-y : goal.returns-then-x-y
returns-then-x-y c =
    c.cmp.ensures
    ∙ byte_decides c.args.a.now c.args.b.now c.loop-i.i (omega (arith, c.min-both.ensures, c.loop-i-test.true)) (omega (arith, c.min-both.ensures, c.loop-i-test.true)) c.loop-i.invariant c.if-x-y.true

pub returns : goal.returns
returns c = c.cmp-2.ensures ∙ ended c.args.a.now c.args.b.now c.loop-i.i (omega (arith, c.min-both.ensures, c.loop-i-test.false, c.loop-i.auto.i-end)) c.loop-i.invariant
