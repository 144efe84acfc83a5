-- What a plain report has seen so far, as the rules speak of it.
use Rattle.fam_plain.specs.declared.survey.Told.{Told}
use Rattle.fam_rules.specs.Reports.{Survey}

-- the same entries with their numbers, those that applied, the first bad one, and how many read past the gate
abbrev pub survey_of : Told → Survey
survey_of t = record { found = t.found.items; applied = t.applied.items; bad = t.bad; past = t.past }
