-- What a contract sees of a `Fsck`: the file system, its gate, and what the slots so far have told.
use Rattle.std.specs.Prelude.{ℕ, ◌≡◌, ◌+◌, ◌≤◌, Bool, true, false, List, length, Option, Some, None}
use Rattle.std.specs.List.{All}
use Rattle.fam_base.specs.declared.entry.Params.{Params}
use Rattle.fam_format.specs.Layout.{device_units}
use Rattle.fam_format.specs.Params.{SoundParams}
use Rattle.fam_format.specs.Tree.{Tree, replay}
use Rattle.fam_format.specs.Units.{is_used}
use Rattle.fam_format.specs.declared.faults.Reason.{Reason}
use Rattle.fam_alloc.specs.Taken.{is_taken}
use Rattle.fam_rules.specs.Reports.{Survey, no_survey, survey_slot, first_bad, overlap_of}
use Rattle.fam_fsck.specs.declared.found.Found.{Found}
use Rattle.fam_fsck.specs.Found.{pairs_of, applied_of, found_entries, LiesWithin}

-- a survey under way
pub record Scan : Type 0 where
  pub params : Params
  pub gate : ℕ
  -- the slots that were added
  pub added : ℕ
  pub survey : Survey

-- before the first slot
abbrev pub first_scan : Params → ℕ → Scan
first_scan p gate = record { params = p; gate = gate; added = 0; survey = no_survey }

-- one slot more, and what is told then
abbrev pub with_survey : Scan → Survey → Scan
with_survey s survey = record s { added = s.added + 1; survey = survey }

-- with the words of one slot more
abbrev pub with_slot : Scan → List ℕ → Scan
with_slot s words = with_survey s (survey_slot s.params s.gate s.added words s.survey)

-- the first bad entry, after an entry with this against it, or nothing
abbrev pub bad_after : Option (ℕ × Reason) → ℕ → Option Reason → Option (ℕ × Reason)
bad_after bad i None = bad
bad_after bad i (Some reason) = first_bad bad i reason

-- a slot at or past the gate, which reads as an entry or not
abbrev pub past_by : Survey → Bool → Survey
past_by s true = record s { past = s.past + 1 }
past_by s false = s

-- the survey of what was found
abbrev pub scanned_survey : List Found → Option (ℕ × Reason) → ℕ → Survey
scanned_survey found bad past =
    record { found = pairs_of found; applied = applied_of found; bad = bad; past = past }

-- how the parts of `Findings` hang together
pub record AreFindings (p : Params) (held : Tree) (found : List Found) (map : List Bool) (pair : Option (ℕ × ℕ)) : Type 0 where
  pub sound : SoundParams p
  pub tree : held ≡ replay (applied_of found)
  pub placed : All (LiesWithin p.unit (length map)) found
  pub units : length map ≡ device_units p
  pub used : (u : ℕ) → is_taken map u ≡ is_used p (found_entries found) u
  pub overlap : pair ≡ overlap_of p.unit (pairs_of found)

-- how the parts of a `Fsck` hang together
pub record HangsTogether (p : Params) (added past : ℕ) : Type 0 where
  pub sound : SoundParams p
  pub few : past ≤ added
