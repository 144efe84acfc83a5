use Rattle.std.proofs.Common.{arith}
use Rattle.fam_settled.specs.Settled.{settled_and_pending}
use Rattle.fam_settled.proofs.Counts.{report_told}
use Rattle.fam_settled.proofs.log.Log.counted_fits.Goals as goal

pub returns : goal.returns
returns c =
    let s = c.args.self.now in
    let plan = c.in_ok-plan.plan in
    report_told s.params (settled_and_pending s) c.args.m c.args.floor c.args.report.now plan c.in_ok-plan.ensures.params c.in_ok-plan.ensures.entries (omega (arith, c.if-m-floor.false))
    (omega (arith, c.if-m-all.false, c.all.ensures)) c.requires c.is_report_of.result c.is_report_of.ensures
