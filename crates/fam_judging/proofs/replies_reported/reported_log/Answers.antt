use Rattle.std.proofs.Common.{ap}
use Rattle.fam_journal.specs.Past.{reported_count}
use Rattle.fam_judging.proofs.Leaves.{ok_map}
use Rattle.fam_judging.proofs.Reporting.{log_leaves}
use Rattle.fam_judging.proofs.replies_reported.reported_log.Goals as goal

pub returns : goal.returns
returns c =
    ok_map c.shown_log.result _ _ c.shown_log.ensures (λ lefts is given seen.
    log_leaves given seen c.args.cmd.now c.args.log.now c.args.track.now c.args.report.now c.requires c.in-Sound.entries (ap reported_count c.in-Sound.is)
    ((c.in_ok-log_reports.ensures seen).0 c.if-not-branch.false) lefts is)
