use Rattle.std.proofs.Common.{◌≡◌, ◌-◌, length, arith}
use Rattle.fam_settled.proofs.Counts.{files_among, kinds_told}
use Rattle.fam_settled.proofs.reports.kinds_fit.Goals as goal

pub returns : goal.returns
returns c =
    let list = c.args.plan.now.entries in
    let wanted : c.saturating_sub.result ≡ length list - files_among list = omega (arith, c.saturating_sub.ensures, c.count.ensures.count, c.files_in-files.ensures) in
    kinds_told list c.args.report.now c.saturating_sub.result (omega (arith, c.if-report-files.false, c.files_in-files.ensures)) wanted
