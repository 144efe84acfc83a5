use Rattle.std.proofs.Common.{true, ◌+◌, take, arith}
use Rattle.fam_format.specs.Units.{units_in}
use Rattle.fam_alloc.specs.Next.{is_between}
use Rattle.fam_alloc.specs.Taken.{holds}
use Rattle.fam_alloc.proofs.NextLemmas.{next_either, next_same}
use Rattle.fam_alloc.proofs.OverlapLemmas.{holds_more}
use Rattle.fam_alloc.proofs.overlap.first_shared.Goals as goal

pub loop-i-preserved : goal.loop-i-preserved
loop-i-preserved c =
    let extents = c.args.extents.now in
    let run = c.run_at.result in
    next_same _ (holds (units_in c.args.unit (take (c.loop-i.i + 1) extents))) true c.args.run.start c.args.run.end c.first_in-first.result
    (holds_more c.args.unit extents c.loop-i.i run.start run.end (omega arith) c.run_at.ensures.start c.run_at.ensures.end)
    (next_either (holds (units_in c.args.unit (take c.loop-i.i extents))) (is_between run.start run.end) c.args.run.start c.args.run.end c.loop-i.first c.first_in-first.result
    c.loop-i.invariant c.first_in-first.ensures)
