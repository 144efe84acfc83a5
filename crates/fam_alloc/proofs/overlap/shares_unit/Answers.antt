use Rattle.std.proofs.Common.{◌∙◌, arith}
use Rattle.fam_format.specs.Units.{units_in}
use Rattle.fam_alloc.specs.Taken.{holds}
use Rattle.fam_alloc.proofs.AnyLemmas.{any_at, none_at}
use Rattle.fam_alloc.proofs.overlap.shares_unit.Goals as goal

pub returns-then-first_held-run : goal.returns-then-first_held-run
returns-then-first_held-run c =
    let before = c.args.before.now in
    let run = c.run_at-run.result in
    any_at (holds (units_in c.args.unit before)) c.args.unit c.args.extents.now c.loop-i.i run.start run.end c.first_held.result (omega arith)
    c.run_at-run.ensures.start c.run_at-run.ensures.end
    c.first_held.ensures c.if-first_held-run.true
    ∙ c.loop-i.invariant

pub loop-i-preserved : goal.loop-i-preserved
loop-i-preserved c =
    let before = c.args.before.now in
    let run = c.run_at-run.result in
    none_at (holds (units_in c.args.unit before)) c.args.unit c.args.extents.now c.loop-i.i run.start run.end c.first_held.result (omega arith)
    c.run_at-run.ensures.start c.run_at-run.ensures.end
    c.first_held.ensures c.if-first_held-run.false
    ∙ c.loop-i.invariant
