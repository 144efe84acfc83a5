-- The line of a check and the lines of a report in parts.
use Rattle.std.specs.Prelude.{ℕ, List, ◌++◌, codes, if◌then◌else◌}
use Rattle.fam_rules.specs.declared.answers.Checked.{Checked}
use Rattle.fam_rules.specs.declared.answers.Report.{Report}
use Rattle.fam_outcomes.specs.Texts.{line, number, is_sound_report, super_state_text, log_state_text, overlap_text, bad_text}

-- how a tree differs from a listing, in front of the first path
abbrev pub checked_prefix : ℕ → Checked → List ℕ
checked_prefix m c =
    codes "checked" ++ number m ++ codes " missing" ++ number c.missing ++ codes " extra" ++ number c.extra ++ codes " changed" ++ number c.changed ++ codes " first"

-- whether anything is wrong
abbrev pub verdict_text : Report → List ℕ
verdict_text r = if is_sound_report r then codes "fsck sound" else codes "fsck damaged"

-- the verdict, and what superblock and log are
abbrev pub states_text : List ℕ → Report → List ℕ
states_text old r = old ++ line (verdict_text r) ++ line (super_state_text r.superblock) ++ line (log_state_text r.log)

-- how many files and directories
abbrev pub files_text : Report → List ℕ
files_text r = codes "files" ++ number r.files ++ codes " directories" ++ number r.directories

-- how many units are used and free
abbrev pub units_text : Report → List ℕ
units_text r = codes "units used" ++ number r.used ++ codes " free" ++ number r.free

-- the counts of entries and of units
abbrev pub counts_text : List ℕ → Report → List ℕ
counts_text old r = old ++ line (files_text r) ++ line (units_text r)

-- what overlaps, what is bad, and what stands past the gate
abbrev pub findings_text : List ℕ → Report → List ℕ
findings_text old r = old ++ line (overlap_text r.overlap) ++ line (bad_text r.bad) ++ line (codes "past gate" ++ number r.past)
