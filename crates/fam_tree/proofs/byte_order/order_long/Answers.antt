use Rattle.std.proofs.Common.{◌∙◌, ◌+◌, ◌-◌, arith, rules, ℕ}
use Rattle.fam_base.proofs.FieldOrder.{AreBytes}
use Rattle.fam_tree.proofs.ByteOrder.{SameFront, ended, shorter, word_decides, word_same}
use Rattle.fam_tree.proofs.byte_order.order_long.Goals as goal

pub returns-then-x-y : goal.returns-then-x-y
returns-then-x-y c =
    let a = c.args.a.now in
    let b = c.args.b.now in
    let are : AreBytes a = search rules in
    let be : AreBytes b = search rules in
    c.cmp.ensures
    ∙ word_decides a b c.loop-at.at (omega (arith, c.min-both.ensures, c.loop-at-test.true)) (omega (arith, c.min-both.ensures, c.loop-at-test.true)) are be
    c.word-x.result c.word-y.result c.word-x.ensures c.word-y.ensures c.loop-at.invariant.same c.if-x-y.true

pub loop-at-preserved : goal.loop-at-preserved
loop-at-preserved c =
    let a = c.args.a.now in
    let b = c.args.b.now in
    let are : AreBytes a = search rules in
    let be : AreBytes b = search rules in
    record {
      same = word_same a b c.loop-at.at (omega (arith, c.min-both.ensures, c.loop-at-test.true)) (omega (arith, c.min-both.ensures, c.loop-at-test.true)) are be
          c.word-x.result c.word-y.result c.word-x.ensures c.word-y.ensures c.loop-at.invariant.same c.if-x-y.false;
      within = omega (arith, c.loop-at-test.true);
    }

pub returns-then-x-y-2 : goal.returns-then-x-y-2
returns-then-x-y-2 c =
    let a = c.args.a.now in
    let b = c.args.b.now in
    let last : ℕ = c.min-both.result - 8 in
    let are : AreBytes a = search rules in
    let be : AreBytes b = search rules in
    let same : SameFront a b last = shorter a b last c.loop-at.at (omega (arith, c.loop-at-test.false)) c.loop-at.invariant.same in
    c.cmp-then-x-y-2.ensures
    ∙ word_decides a b last (omega (arith, c.min-both.ensures, c.requires.a, c.requires.b)) (omega (arith, c.min-both.ensures, c.requires.a, c.requires.b)) are be
    c.word-x-2.result c.word-y-2.result c.word-x-2.ensures c.word-y-2.ensures same c.if-x-y-2.true

pub returns : goal.returns
returns c =
    let a = c.args.a.now in
    let b = c.args.b.now in
    let last : ℕ = c.min-both.result - 8 in
    let are : AreBytes a = search rules in
    let be : AreBytes b = search rules in
    let same : SameFront a b last = shorter a b last c.loop-at.at (omega (arith, c.loop-at-test.false)) c.loop-at.invariant.same in
    let all : SameFront a b (last + 8) =
    word_same a b last (omega (arith, c.min-both.ensures, c.requires.a, c.requires.b)) (omega (arith, c.min-both.ensures, c.requires.a, c.requires.b)) are be
    c.word-x-2.result c.word-y-2.result c.word-x-2.ensures c.word-y-2.ensures same c.if-x-y-2.false in
    c.cmp-2.ensures ∙ ended a b (last + 8) (omega (arith, c.min-both.ensures, c.requires.a, c.requires.b)) all
