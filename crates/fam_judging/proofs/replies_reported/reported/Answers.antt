use Rattle.std.proofs.Common.{sym, subst}
use Rattle.fam_rules.specs.Reply as reply
use Rattle.fam_judging.specs.declared.candidate.Settled.{Settled}
use Rattle.fam_judging.specs.Lefts.{LeavesEndings}
use Rattle.fam_judging.proofs.Leaves.{ok_is, ok_map}
use Rattle.fam_judging.proofs.Reporting.{begun_leaves, damaged_leaves, no_log, place_begun}
use Rattle.fam_judging.proofs.replies_reported.reported.Goals as goal

pub returns-then-not-is_of_mark : goal.returns-then-not-is_of_mark
returns-then-not-is_of_mark c =
    ok_is c.kept.result _ _ c.kept.ensures (begun_leaves c.args.given.now c.args.seen.now c.args.cmd.now c.args.settled.now c.args.track.now c.args.report.now
    c.reports_begun-stands.result c.reports_begun-stands.ensures (place_begun _ _ c.is_of_mark.ensures.begun c.if-not-is_of_mark.true))

pub returns-in-Log : goal.returns-in-Log
returns-in-Log c =
    ok_map c.reported_log.result _ _ c.reported_log.ensures (λ lefts is.
    subst (λ (s : Settled). LeavesEndings c.args.given.now c.args.seen.now c.args.cmd.now s c.args.track.now (reply.Reports c.args.report.now) lefts) (sym c.in-Log.is)
    (is c.args.given.now c.args.seen.now))

pub returns-in-Given : goal.returns-in-Given
returns-in-Given c =
    let bad = no_log c.args.given.now c.args.settled.now c.in-Given.is in
    ok_is c.kept-in-Given.result _ _ c.kept-in-Given.ensures (damaged_leaves c.args.given.now c.args.seen.now c.args.cmd.now c.args.settled.now c.args.track.now c.args.report.now bad.0 bad.1
    c.reports_marked-stands.result c.reports_marked-stands.ensures (c.is_of_mark.ensures.mark.0 c.if-not-is_of_mark.false))
