use Rattle.std.proofs.Common.{false, ap, take, ◌∙◌, arith}
use Rattle.fam_format.specs.Units.{units_in}
use Rattle.fam_rules.specs.Reports.{is_overlap}
use Rattle.fam_alloc.specs.Taken.{holds}
use Rattle.fam_alloc.proofs.OverlapLemmas.{found_at, passed_at}
use Rattle.fam_alloc.proofs.overlap.repeats_unit.Goals as goal

pub returns-then-first_shared-run : goal.returns-then-first_shared-run
returns-then-first_shared-run c =
    let extents = c.args.extents.now in
    let run = c.run_at-run.result in
    ap is_overlap (found_at (holds (units_in c.args.unit (take c.loop-i.i extents)))
    c.args.unit extents c.loop-i.i run.start run.end c.first_shared.result (omega arith)
    c.run_at-run.ensures.start c.run_at-run.ensures.end c.first_shared.ensures c.if-first_shared-run.true
    ∙ c.loop-i.invariant)

pub loop-i-preserved : goal.loop-i-preserved
loop-i-preserved c =
    let extents = c.args.extents.now in
    let run = c.run_at-run.result in
    passed_at (λ _. false)
    c.args.unit extents c.loop-i.i run.start run.end c.first_shared.result (omega arith)
    c.run_at-run.ensures.start c.run_at-run.ensures.end c.first_shared.ensures c.if-first_shared-run.false
    ∙ c.loop-i.invariant
