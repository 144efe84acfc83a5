use Rattle.std.proofs.Common.{◌<◌, length, sym, ◌∙◌, arith}
use Rattle.fam_settled.proofs.Counts.{file_more, other_more}
use Rattle.fam_settled.proofs.reports.files_in.Goals as goal
use Rattle.fam_settled.proofs.reports.files_in.Goals.{then-is_file, else-is_file}

pub loop-i-preserved : goal.loop-i-preserved
loop-i-preserved c =
    let list = c.args.plan.now.entries in
    let e = c.entry_in.result in
    let below : c.loop-i.i < length list = omega (arith, c.loop-i-test.true, c.count-i-end.ensures.count) in
    elim c.if-is_file.branch [
      | then-is_file w ↦ record {
        counted = omega (arith, w.files-is, file_more list c.loop-i.i e below c.entry_in.ensures.value (sym c.is_file.ensures ∙ w.if-is_file.true), c.loop-i.invariant.counted);
        few = omega (arith, w.files-is, c.loop-i.invariant.few);
      }
      | else-is_file w ↦ record {
        counted = omega (arith, w.files-is, other_more list c.loop-i.i e below c.entry_in.ensures.value (sym c.is_file.ensures ∙ w.if-is_file.false), c.loop-i.invariant.counted);
        few = omega (arith, w.files-is, c.loop-i.invariant.few);
      }
    ]
