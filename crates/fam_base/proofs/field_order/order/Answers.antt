use Rattle.std.proofs.Common.{rules, ◌≡◌, ◌∙◌, length, sym}
use Rattle.fam_base.proofs.FieldOrder.{AreBytes, decides, goes_on}
use Rattle.fam_base.proofs.field_order.order.Goals as goal

pub returns-then-x-y : goal.returns-then-x-y
returns-then-x-y c =
    let la : length c.args.a.now ≡ 512 = search rules in
    let lb : length c.args.b.now ≡ 512 = search rules in
    let ba : AreBytes c.args.a.now = search rules in
    let bb : AreBytes c.args.b.now = search rules in
    c.cmp.ensures ∙ decides c.args.a.now c.args.b.now c.loop-i.i c.word-x.result c.word-y.result la lb (search rules) ba bb c.word-x.ensures c.word-y.ensures (search rules) ∙ sym c.loop-i.invariant

pub loop-i-preserved : goal.loop-i-preserved
loop-i-preserved c =
    let la : length c.args.a.now ≡ 512 = search rules in
    let lb : length c.args.b.now ≡ 512 = search rules in
    let ba : AreBytes c.args.a.now = search rules in
    let bb : AreBytes c.args.b.now = search rules in
    c.loop-i.invariant ∙ goes_on c.args.a.now c.args.b.now c.loop-i.i c.word-x.result c.word-y.result la lb (search rules) ba bb c.word-x.ensures c.word-y.ensures (search rules)
