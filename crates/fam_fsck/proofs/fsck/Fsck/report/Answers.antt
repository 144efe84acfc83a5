use Rattle.std.proofs.Common.{ap}
use Rattle.fam_rules.specs.Reports.{report_by}
use Rattle.fam_fsck.specs.Scan.{Scan}
use Rattle.fam_fsck.proofs.fsck.Fsck.report.Goals as goal

pub returns : goal.returns
unfolding report_by
returns c =
    rw (c.used-used.ensures.count, c.files.ensures, c.directories.ensures, c.units.ensures, c.overlap.ensures, c.params.ensures.value)
    (ap (λ (s : Scan). report_by s.params s.gate s.survey) c.self.view_is)
