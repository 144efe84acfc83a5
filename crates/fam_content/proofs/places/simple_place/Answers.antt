use Rattle.std.proofs.Common.{arith, sym, ◌∙◌}
use Rattle.fam_content.proofs.Along.{here, further}
use Rattle.fam_content.proofs.places.simple_place.Goals as goal

pub overflow_add-result : goal.overflow_add-result
overflow_add-result c =
    omega (arith, here c.args.extents.now c.loop-extent.extent-index c.loop-extent.left c.loop-extent-test.true c.if-left-extent.true, c.loop-extent.invariant)

pub returns-then-left-extent : goal.returns-then-left-extent
returns-then-left-extent c =
    sym (here c.args.extents.now c.loop-extent.extent-index c.loop-extent.left c.loop-extent-test.true c.if-left-extent.true) ∙ c.loop-extent.invariant

pub loop-extent-preserved : goal.loop-extent-preserved
loop-extent-preserved c =
    further c.args.extents.now c.loop-extent.extent-index c.loop-extent.left c.loop-extent-test.true c.if-left-extent.false ∙ c.loop-extent.invariant
