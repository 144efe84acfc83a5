-- A report, of which the numbers are held only where superblock and log are sound.
use Rattle.std.specs.Prelude.{Option, Some, None}
use Rattle.fam_rules.specs.declared.answers.LogState.{LogState}
use Rattle.fam_rules.specs.declared.answers.Report.{Report}
use Rattle.fam_rules.specs.declared.answers.SuperState.{SuperState}
use Rattle.fam_rules.specs.Reports.{empty_report}

-- the report of these states, and of all that is held
abbrev pub report_held : SuperState → LogState → Option Report → Report
report_held super log None = empty_report super log
report_held super log (Some report) = report
