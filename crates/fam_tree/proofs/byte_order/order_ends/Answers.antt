use Rattle.std.proofs.Common.{◌≡◌, ◌∙◌, ◌+◌, ◌-◌, length, ap, arith, rules, ℕ}
use Rattle.std.specs.Prelude.{slice_range}
use Rattle.fam_base.proofs.FieldOrder.{AreBytes}
use Rattle.fam_base.specs.PathOrder.{big}
use Rattle.fam_tree.proofs.ByteOrder.{SameFront, ended, no_front, shorter, word_decides, word_same}
use Rattle.fam_tree.proofs.byte_order.order_ends.Goals as goal

pub returns-then-x-ends : goal.returns-then-x-ends
returns-then-x-ends c =
    let a = c.args.a.now in
    let b = c.args.b.now in
    let are : AreBytes a = search rules in
    let be : AreBytes b = search rules in
    c.cmp.ensures
    ∙ word_decides a b 0 (omega (arith, c.requires.long, c.requires.ends.some)) (omega (arith, c.requires.ends.some)) are be
    c.word-x.result c.args.ends.first c.word-x.ensures c.requires.ends.first_word (no_front a b) c.if-x-ends.true

pub returns-then-x-ends-2 : goal.returns-then-x-ends-2
returns-then-x-ends-2 c =
    let a = c.args.a.now in
    let b = c.args.b.now in
    let last : ℕ = length b - 8 in
    let are : AreBytes a = search rules in
    let be : AreBytes b = search rules in
    let first : SameFront a b (0 + 8) =
    word_same a b 0 (omega (arith, c.requires.long, c.requires.ends.some)) (omega (arith, c.requires.ends.some)) are be
    c.word-x.result c.args.ends.first c.word-x.ensures c.requires.ends.first_word (no_front a b) c.if-x-ends.false in
    let same : SameFront a b last = shorter a b last (0 + 8) (omega (arith, c.requires.ends.few)) first in
    let end : length b ≡ last + 8 = omega (arith, c.requires.ends.some) in
    c.cmp-then-x-ends-2.ensures
    ∙ word_decides a b last (omega (arith, c.requires.long, c.requires.ends.some)) (omega (arith, c.requires.ends.some)) are be
    c.word-x-2.result c.args.ends.last c.word-x-2.ensures (c.requires.ends.last_word ∙ ap (λ (n : ℕ). big 0 (slice_range b last n)) end) same c.if-x-ends-2.true

pub returns : goal.returns
returns c =
    let a = c.args.a.now in
    let b = c.args.b.now in
    let last : ℕ = length b - 8 in
    let are : AreBytes a = search rules in
    let be : AreBytes b = search rules in
    let first : SameFront a b (0 + 8) =
    word_same a b 0 (omega (arith, c.requires.long, c.requires.ends.some)) (omega (arith, c.requires.ends.some)) are be
    c.word-x.result c.args.ends.first c.word-x.ensures c.requires.ends.first_word (no_front a b) c.if-x-ends.false in
    let same : SameFront a b last = shorter a b last (0 + 8) (omega (arith, c.requires.ends.few)) first in
    let end : length b ≡ last + 8 = omega (arith, c.requires.ends.some) in
    let all : SameFront a b (last + 8) =
    word_same a b last (omega (arith, c.requires.long, c.requires.ends.some)) (omega (arith, c.requires.ends.some)) are be
    c.word-x-2.result c.args.ends.last c.word-x-2.ensures (c.requires.ends.last_word ∙ ap (λ (n : ℕ). big 0 (slice_range b last n)) end) same c.if-x-ends-2.false in
    c.cmp-2.ensures ∙ ended a b (last + 8) (omega (arith, c.requires.long, c.requires.ends.some)) all
