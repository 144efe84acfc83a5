use Rattle.fam_content.proofs.Rows.{left_further, row_in_extent}
use Rattle.fam_content.proofs.places.simple_row.Goals as goal

pub returns-then-left-extent : goal.returns-then-left-extent
returns-then-left-extent c =
    row_in_extent c.args.extents.now c.args.offset c.loop-extent.extent-index c.loop-extent.left c.loop-extent-test.true c.loop-extent.invariant c.if-left-extent.true

pub loop-extent-preserved : goal.loop-extent-preserved
loop-extent-preserved c =
    left_further c.args.extents.now c.args.offset c.loop-extent.extent-index c.loop-extent.left c.loop-extent-test.true c.loop-extent.invariant c.if-left-extent.false
