-- The slots of a log, shown one by one.
use Rattle.std.specs.Prelude.{ℕ, ◌+◌, List, [], ◌∷◌}
use Rattle.fam_base.specs.declared.entry.Params.{Params}
use Rattle.fam_rules.specs.Reports.{Survey, survey_slot}

-- what slots tell, of which the first one here has number i, behind those before it
abbrev pub survey_from : Params → ℕ → ℕ → List (List ℕ) → Survey → Survey
survey_from p gate i [] s = s
survey_from p gate i (words ∷ more) s = survey_from p gate (i + 1) more (survey_slot p gate i words s)
