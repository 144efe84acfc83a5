use Rattle.std.proofs.Common.{◌∙◌, ap}
use Rattle.fam_rules.specs.Reports.{used_count}
use Rattle.fam_fsck.specs.Found.{Finds, found_entries}
use Rattle.fam_fsck.proofs.Surveys.{used_counted}
use Rattle.fam_fsck.proofs.findings.Findings.used.Goals as goal

pub returns-clause-count : goal.returns-clause-count
returns-clause-count c =
    let own = c.self.inside in
    c.count.ensures.count ∙ used_counted own.params (found_entries own.found) own.used c.self.invariant.units c.self.invariant.used
    ∙ ap (λ (s : Finds). used_count s.params (found_entries s.found)) c.self.view_is
