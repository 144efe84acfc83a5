use Rattle.std.proofs.Common.{◌∙◌, ◌+◌, ◌-◌, arith, rules, ℕ}
use Rattle.fam_base.proofs.FieldOrder.{AreBytes}
use Rattle.fam_tree.proofs.ByteOrder.{SameFront, ended, no_front, shorter, word_decides, word_same}
use Rattle.fam_tree.proofs.byte_order.order.Goals as goal

pub returns-then-x-y : goal.returns-then-x-y
returns-then-x-y c =
    let a = c.args.a.now in
    let b = c.args.b.now in
    let are : AreBytes a = search rules in
    let be : AreBytes b = search rules in
    c.cmp.ensures
    ∙ word_decides a b 0 (omega (arith, c.min-both.ensures, c.if-both-lt-WORD.false)) (omega (arith, c.min-both.ensures, c.if-both-lt-WORD.false)) are be
    c.word-x.result c.word-y.result c.word-x.ensures c.word-y.ensures (no_front a b) c.if-x-y.true

pub returns-then-x-y-2 : goal.returns-then-x-y-2
returns-then-x-y-2 c =
    let a = c.args.a.now in
    let b = c.args.b.now in
    let last : ℕ = c.min-both.result - 8 in
    let are : AreBytes a = search rules in
    let be : AreBytes b = search rules in
    let first : SameFront a b (0 + 8) =
    word_same a b 0 (omega (arith, c.min-both.ensures, c.if-both-lt-WORD.false)) (omega (arith, c.min-both.ensures, c.if-both-lt-WORD.false)) are be
    c.word-x.result c.word-y.result c.word-x.ensures c.word-y.ensures (no_front a b) c.if-x-y.false in
    let same : SameFront a b last = shorter a b last (0 + 8) (omega (arith, c.if-both.false)) first in
    c.cmp-then-x-y-2.ensures
    ∙ word_decides a b last (omega (arith, c.min-both.ensures, c.if-both-lt-WORD.false)) (omega (arith, c.min-both.ensures, c.if-both-lt-WORD.false)) are be
    c.word-x-2.result c.word-y-2.result c.word-x-2.ensures c.word-y-2.ensures same c.if-x-y-2.true

pub returns : goal.returns
returns c =
    let a = c.args.a.now in
    let b = c.args.b.now in
    let last : ℕ = c.min-both.result - 8 in
    let are : AreBytes a = search rules in
    let be : AreBytes b = search rules in
    let first : SameFront a b (0 + 8) =
    word_same a b 0 (omega (arith, c.min-both.ensures, c.if-both-lt-WORD.false)) (omega (arith, c.min-both.ensures, c.if-both-lt-WORD.false)) are be
    c.word-x.result c.word-y.result c.word-x.ensures c.word-y.ensures (no_front a b) c.if-x-y.false in
    let same : SameFront a b last = shorter a b last (0 + 8) (omega (arith, c.if-both.false)) first in
    let all : SameFront a b (last + 8) =
    word_same a b last (omega (arith, c.min-both.ensures, c.if-both-lt-WORD.false)) (omega (arith, c.min-both.ensures, c.if-both-lt-WORD.false)) are be
    c.word-x-2.result c.word-y-2.result c.word-x-2.ensures c.word-y-2.ensures same c.if-x-y-2.false in
    c.cmp-2.ensures ∙ ended a b (last + 8) (omega (arith, c.min-both.ensures, c.if-both-lt-WORD.false)) all
