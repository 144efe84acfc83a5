-- What is needed of a command that is answered with a report, and what is left behind it.
use Rattle.std.specs.Prelude.{◌≡◌, None}
use Rattle.fam_base.specs.declared.cmd.Cmd.TheVariants.{Fsck}
use Rattle.fam_journal.specs.Legal.{ReportAllowed, cleared_report}
use Rattle.fam_journal.specs.Past.{reported_count, shows_count}
use Rattle.fam_journal.specs.Shapes.{Begun, CommandStage, Marked}
use Rattle.fam_judge.specs.Formed.{FieldPlace}
use Rattle.fam_rules.specs.declared.answers.LogState.{LogState}
use Rattle.fam_rules.specs.declared.answers.LogState.TheVariants as log
use Rattle.fam_rules.specs.declared.answers.Report.{Report}
use Rattle.fam_judging.specs.declared.candidate.Settled.{Settled}
use Rattle.fam_judging.specs.declared.candidate.Settled.TheVariants as settled
use Rattle.fam_judging.specs.declared.given.GivenImage.{GivenImage}
use Rattle.fam_judging.specs.Replies.{Asker, EndingState, Point, told_at}
use Rattle.fam_judging.specs.ReplyKinds.{MayMark}

-- where a report stands: one that counts entries behind the mark
abbrev pub ReportPlace : LogState → CommandStage → Type 0
ReportPlace (log.Sound entries slots) stage = stage ≡ Marked
ReportPlace (log.BadLog field found wanted) stage = FieldPlace field stage
ReportPlace log.Unread stage = stage ≡ Begun

-- it stands behind the mark, to which the command has come, at the latest by now
pub record ReportsMarked (who : Asker) (at : Point) (report : Report) : Type 0 where
  pub marks : MayMark at.stage
  pub place : ReportPlace report.log Marked
  pub cmd : who.cmd ≡ Fsck
  pub fits : ReportAllowed report (told_at who at) at.state

-- or right behind the start
pub record ReportsBegun (who : Asker) (at : Point) (report : Report) : Type 0 where
  pub begun : at.stage ≡ Begun
  pub place : ReportPlace report.log Begun
  pub cmd : who.cmd ≡ Fsck
  pub fits : ReportAllowed report (told_at who (record at { floor = None })) at.state

-- what is left behind it
abbrev pub reported_ending : Report → Point → EndingState
reported_ending report at = record { state = shows_count (reported_count report.log) at.state; floor = at.floor; wrote = at.wrote }

-- the report of a damaged image
abbrev pub DamagedReport : GivenImage → Settled → Report → Type 0
DamagedReport given (settled.Log log) report = ⊥
DamagedReport given settled.Given report = report ≡ given.report
DamagedReport given settled.Halted report = report ≡ cleared_report
