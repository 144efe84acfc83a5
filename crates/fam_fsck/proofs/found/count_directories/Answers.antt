use Rattle.std.proofs.Common.{sym, ◌∙◌, arith}
use Rattle.fam_rules.specs.Reports.{is_directory}
use Rattle.fam_fsck.proofs.FoundLists.{count_no, count_past, count_yes}
use Rattle.fam_fsck.proofs.found.count_directories.Goals as goal
use Rattle.fam_fsck.proofs.found.count_directories.Goals.{then-is_directory, else-is_directory}

pub loop-place-preserved : goal.loop-place-preserved
loop-place-preserved c =
    let found = c.args.found.now in
    let place = c.loop-place.place in
    elim c.if-is_directory.branch [
      | then-is_directory w ↦ record {
        counted = omega (
          arith,
          w.count-is,
          count_yes is_directory found place c.kind_at.result c.kind_at.ensures
              (sym c.is_directory.ensures ∙ w.if-is_directory.true),
          c.loop-place.invariant.counted,
        );
        few = omega (arith, w.count-is, c.loop-place.invariant.few);
      }
      | else-is_directory w ↦ record {
        counted = omega (
          arith,
          w.count-is,
          count_no is_directory found place c.kind_at.result c.kind_at.ensures
              (sym c.is_directory.ensures ∙ w.if-is_directory.false),
          c.loop-place.invariant.counted,
        );
        few = omega (arith, w.count-is, c.loop-place.invariant.few);
      }
    ]

pub returns : goal.returns
returns c =
    omega (arith, count_past is_directory c.args.found.now c.loop-place.place (omega (arith, c.loop-place-test.false, c.len-place-end.ensures)), c.loop-place.invariant.counted)
