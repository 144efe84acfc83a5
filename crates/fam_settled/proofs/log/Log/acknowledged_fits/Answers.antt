use Rattle.std.proofs.Common.{sym, ◌∙◌, arith}
use Rattle.fam_settled.proofs.Choices.{both}
use Rattle.fam_settled.proofs.OwnEntries.{ends_told, pends_told}
use Rattle.fam_settled.proofs.log.Log.acknowledged_fits.Goals as goal

pub returns-then-seq-count : goal.returns-then-seq-count
returns-then-seq-count c host wrote =
    let a = c.args in
    let t = pends_told host a.seq a.named a.entry.now wrote (omega (arith, c.if-named-seq.false)) a.self.now (c.if-seq-count.true ∙ c.count.ensures) in
    both c.pends_so.result c.pends_so.ensures (t.1, t.0)

pub returns : goal.returns
returns c host wrote =
    let a = c.args in
    let t = ends_told host a.seq a.named a.entry.now wrote (omega (arith, c.if-named-seq.false)) a.self.now (λ at. c.if-seq-count.false (at ∙ sym c.count.ensures)) in
    both c.ends_so.result c.ends_so.ensures (t.1, t.0)
