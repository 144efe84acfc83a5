use Rattle.std.proofs.Common.{ap}
use Rattle.fam_rules.specs.declared.answers.Report.{Report}
use Rattle.fam_judging.proofs.Reporting.{same_report}
use Rattle.fam_judging.proofs.replies_reported.is_same.Goals as goal

pub returns : goal.returns
returns c = (
  λ t. same_report c.args.left.now c.args.right.now (c.same_states.ensures.0 c.if-not-same_states.false) (c.same_counts.ensures.0 c.if-not-same_counts.false) (c.same_findings.ensures.0 t),
  λ e. c.same_findings.ensures.1 (ap (λ (r : Report). r.overlap) e, ap (λ (r : Report). r.bad) e),
)
