use Rattle.std.proofs.Common.{sym, ◌∙◌, arith}
use Rattle.fam_rules.specs.Reports.{is_file}
use Rattle.fam_fsck.proofs.FoundLists.{count_no, count_past, count_yes}
use Rattle.fam_fsck.proofs.found.count_files.Goals as goal
use Rattle.fam_fsck.proofs.found.count_files.Goals.{then-is_file, else-is_file}

pub loop-place-preserved : goal.loop-place-preserved
loop-place-preserved c =
    let found = c.args.found.now in
    let place = c.loop-place.place in
    elim c.if-is_file.branch [
      | then-is_file w ↦ record {
        counted = omega (arith, w.count-is, count_yes is_file found place c.kind_at.result c.kind_at.ensures (sym c.is_file.ensures ∙ w.if-is_file.true), c.loop-place.invariant.counted);
        few = omega (arith, w.count-is, c.loop-place.invariant.few);
      }
      | else-is_file w ↦ record {
        counted = omega (arith, w.count-is, count_no is_file found place c.kind_at.result c.kind_at.ensures (sym c.is_file.ensures ∙ w.if-is_file.false), c.loop-place.invariant.counted);
        few = omega (arith, w.count-is, c.loop-place.invariant.few);
      }
    ]

pub returns : goal.returns
returns c =
    omega (arith, count_past is_file c.args.found.now c.loop-place.place (omega (arith, c.loop-place-test.false, c.len-place-end.ensures)), c.loop-place.invariant.counted)
