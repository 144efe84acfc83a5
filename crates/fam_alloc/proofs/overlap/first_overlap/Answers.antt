use Rattle.std.proofs.Common.{◌||◌, ◌∙◌, take, arith}
use Rattle.fam_format.specs.Units.{units_in}
use Rattle.fam_alloc.specs.Taken.{holds}
use Rattle.fam_alloc.proofs.OverlapLemmas.{found_at, passed_at}
use Rattle.fam_alloc.proofs.overlap.first_overlap.Goals as goal

pub returns-then-first-run : goal.returns-then-first-run
returns-then-first-run g c =
    let extents = c.args.extents.now in
    let run = c.run_at-run.result in
    found_at (λ u. g.M.Occupied.is_used c.args.map.now u || holds (units_in c.args.unit (take c.loop-i.i extents)) u)
    c.args.unit extents c.loop-i.i run.start run.end c.first_taken-first.result (omega arith)
    c.run_at-run.ensures.start c.run_at-run.ensures.end c.first_taken-first.ensures c.if-first-run.true
    ∙ c.loop-i.invariant

pub loop-i-preserved : goal.loop-i-preserved
loop-i-preserved g c =
    let extents = c.args.extents.now in
    let run = c.run_at-run.result in
    passed_at (g.M.Occupied.is_used c.args.map.now)
    c.args.unit extents c.loop-i.i run.start run.end c.first_taken-first.result (omega arith)
    c.run_at-run.ensures.start c.run_at-run.ensures.end c.first_taken-first.ensures c.if-first-run.false
    ∙ c.loop-i.invariant
