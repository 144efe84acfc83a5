-- What a check of the words of all slots has told.
use Rattle.std.specs.Prelude.{ℕ, ⊤, ◌≡◌, ◌⊎◌, ◌<◌, IsOk, List, Option, Some, None}
use Rattle.fam_base.specs.declared.entry.Params.{Params}
use Rattle.fam_format.specs.Slot.{entry_of}
use Rattle.fam_fsck.specs.Scan.{Scan}
use Rattle.fam_rules.specs.Reports.{Survey, no_survey}

-- what a check has told, nothing before there is one
abbrev pub survey_in : Option Scan → Survey
survey_in None = no_survey
survey_in (Some s) = s.survey

-- how many slots it was shown
abbrev pub added_in : Option Scan → ℕ
added_in None = 0
added_in (Some s) = s.added

-- a check of the file system with these parameters and this gate, where there is one
abbrev pub IsScanFor : Params → ℕ → Option Scan → Type 0
IsScanFor p gate None = ⊤
IsScanFor p gate (Some s) = (s.params ≡ p) × (s.gate ≡ gate)

-- a check wants memory for a slot of this number and these words: for a map of the units before the first slot, or for an
-- entry below the gate
abbrev pub ShowWants : Params → ℕ → ℕ → List ℕ → Type 0
ShowWants p gate slot words = (slot ≡ 0) ⊎ ((slot < gate) × IsOk (entry_of p words slot))
