use Rattle.std.proofs.Common.{◌≡◌, ◌≤◌, drop}
use Rattle.fam_plain.specs.Survey.{survey_from}
use Rattle.fam_plain.specs.Told.{survey_of}
use Rattle.fam_rules.specs.Reports.{no_survey}
use Rattle.fam_plain.proofs.survey.look.Given as goal

-- what is left to show, behind what was shown
abbrev pub invariant-loop-number : goal.invariant-loop-number
invariant-loop-number l = (survey_from l.params l.gate l.number (drop l.number l.slots) (survey_of l.told) ≡ survey_from l.params l.gate 0 l.slots no_survey) × (l.told.past ≤ l.number)
