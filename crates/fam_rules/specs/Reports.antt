-- What a check of a whole file system finds. docs/MODEL.md, "Reports".
use Prim.Native.Nat.{zero, suc}
use Rattle.std.specs.Prelude.{ℕ, ◌+◌, ◌-◌, ◌==◌, nat_lt, Bool, true, false, if◌then◌else◌, List, [], ◌∷◌, ◌++◌, map, find, count_by, Option, Some, None, option_map, Result, Ok, Err}
use Rattle.std.specs.List.{list_any, range_with_len}
use Rattle.fam_base.specs.declared.entry.Params.{Params}
use Rattle.fam_base.specs.declared.entry.Entry.{Entry}
use Rattle.fam_base.specs.declared.entry.Kind.{Kind}
use Rattle.fam_base.specs.declared.entry.Kind.TheVariants.{File, Directory}
use Rattle.fam_format.specs.declared.faults.SuperFault.{SuperFault}
use Rattle.fam_format.specs.declared.faults.SuperFault.TheVariants as super_fault
use Rattle.fam_format.specs.declared.faults.LogFault.{LogFault}
use Rattle.fam_format.specs.declared.faults.LogFault.TheVariants as log_faults
use Rattle.fam_format.specs.declared.faults.Reason.{Reason}
use Rattle.fam_format.specs.Layout.{device_units, log_line}
use Rattle.fam_format.specs.Log.{log_fault, gate_fault}
use Rattle.fam_format.specs.Slot.{entry_of}
use Rattle.fam_format.specs.Tree.{replay, tree_fault}
use Rattle.fam_format.specs.Units.{units_in, is_used, first_overlap}
use Rattle.fam_format.specs.Reading.{Lines, super_in, gate_in, slot_words}
use Rattle.fam_rules.specs.declared.answers.Report.{Report}
use Rattle.fam_rules.specs.declared.answers.SuperState.{SuperState}
use Rattle.fam_rules.specs.declared.answers.SuperState.TheVariants as superblock
use Rattle.fam_rules.specs.declared.answers.LogState.{LogState}
use Rattle.fam_rules.specs.declared.answers.LogState.TheVariants as log

-- The slots are looked at one by one.

-- what was found up to some slot
pub record Survey : Type 0 where
  -- the entries below the gate that read, with their numbers
  pub found : List (ℕ × Entry)
  -- those of them that applied to the tree of the ones applied before
  pub applied : List Entry
  -- the first that didn't read or apply
  pub bad : Option (ℕ × Reason)
  -- slots at or past the gate that read
  pub past : ℕ

-- before the first slot
abbrev pub no_survey : Survey
no_survey = record { found = []; applied = []; bad = None; past = 0 }

-- the first bad slot stays the first
abbrev pub first_bad : Option (ℕ × Reason) → ℕ → Reason → Option (ℕ × Reason)
first_bad None i reason = Some (i, reason)
first_bad (Some before) i reason = Some before

-- an entry that reads applies to the tree, or doesn't
abbrev pub applied_or : Survey → ℕ → Entry → Option Reason → Survey
applied_or s i e None = record s { found = s.found ++ (i, e) ∷ []; applied = s.applied ++ e ∷ [] }
applied_or s i e (Some reason) = record s { found = s.found ++ (i, e) ∷ []; bad = first_bad s.bad i reason }

-- a slot below the gate
abbrev pub below_gate : Survey → ℕ → Result Entry Reason → Survey
below_gate s i (Ok e) = applied_or s i e (tree_fault (replay s.applied) e)
below_gate s i (Err reason) = record s { bad = first_bad s.bad i reason }

-- a slot at or past the gate: nothing is asked of it but whether it reads
abbrev pub past_gate : Survey → Result Entry Reason → Survey
past_gate s (Ok e) = record s { past = s.past + 1 }
past_gate s (Err reason) = s

-- slot i with these words
unfoldable pub survey_slot : Params → ℕ → ℕ → List ℕ → Survey → Survey
survey_slot p gate i words s =
    if nat_lt i gate then below_gate s i (entry_of p words i) else past_gate s (entry_of p words i)

-- so many slots of lines, from slot i on
abbrev pub survey_slots : Lines → Params → ℕ → ℕ → ℕ → Survey → Survey
survey_slots line p gate i zero s = s
survey_slots line p gate i (suc more) s = survey_slots line p gate (i + 1) more (survey_slot p gate i (slot_words line p i) s)

-- What they add up to.

-- a file
abbrev pub is_file : Kind → Bool
is_file File = true
is_file Directory = false

-- a directory
abbrev pub is_directory : Kind → Bool
is_directory File = false
is_directory Directory = true

-- a unit stands in the extents of both
abbrev pub share_unit : ℕ → Entry → Entry → Bool
share_unit unit a b = list_any (λ u. list_any (λ v. v == u) (units_in unit a.extents)) (units_in unit b.extents)

-- some overlap
abbrev pub is_overlap : Option ℕ → Bool
is_overlap None = false
is_overlap (Some u) = true

-- a unit stands twice in its extents
abbrev pub has_unit_twice : ℕ → Entry → Bool
has_unit_twice unit e = is_overlap (first_overlap (λ _. false) (units_in unit e.extents))

-- two entries share a unit, or one has a unit twice
abbrev pub overlaps : ℕ → (ℕ × Entry) × (ℕ × Entry) → Bool
overlaps unit pair =
    if pair.0.0 == pair.1.0 then has_unit_twice unit pair.1.1 else share_unit unit pair.0.1 pair.1.1

-- each entry beside those before it, and then beside itself
abbrev pub pairs_after : List (ℕ × Entry) → List (ℕ × Entry) → List ((ℕ × Entry) × (ℕ × Entry))
pairs_after before [] = []
pairs_after before (b ∷ more) = map (λ a. (a, b)) (before ++ b ∷ []) ++ pairs_after (before ++ b ∷ []) more

-- the least pair that overlaps: by the second number, then by the first
abbrev pub overlap_of : ℕ → List (ℕ × Entry) → Option (ℕ × ℕ)
overlap_of unit found = option_map (λ pair. (pair.0.0, pair.1.0)) (find (overlaps unit) (pairs_after [] found))

-- how many units superblock, log and these entries use
abbrev pub used_count : Params → List Entry → ℕ
used_count p list = count_by (is_used p list) (range_with_len 0 (device_units p))

-- the entries that read
abbrev pub found_entries : Survey → List Entry
found_entries s = map (λ f. f.1) s.found

-- the report of a file system whose superblock and log are sound
unfoldable pub report_by : Params → ℕ → Survey → Report
report_by p gate s = record {
  superblock = superblock.Sound;
  log = log.Sound gate p.slots;
  files = count_by (λ e. is_file e.kind) (found_entries s);
  directories = count_by (λ e. is_directory e.kind) (found_entries s);
  used = used_count p (found_entries s);
  free = device_units p - used_count p (found_entries s);
  overlap = overlap_of p.unit s.found;
  bad = s.bad;
  past = s.past;
}

-- Where one of them isn't.

-- nothing more is looked at
abbrev pub empty_report : SuperState → LogState → Report
empty_report super state = record {
  superblock = super;
  log = state;
  files = 0;
  directories = 0;
  used = 0;
  free = 0;
  overlap = None;
  bad = None;
  past = 0;
}

-- the superblock's fault
abbrev pub super_state : SuperFault → SuperState
super_state (super_fault.NoSuper word) = superblock.NoSuper word
super_state (super_fault.BadSuper field found wanted) = superblock.BadSuper field found wanted

-- the fault of header or gate
abbrev pub log_state : LogFault → LogState
log_state (log_faults.BadLog field found wanted) = log.BadLog field found wanted

-- superblock unsound, and the log unread
abbrev pub super_report : SuperFault → Report
super_report fault = empty_report (super_state fault) log.Unread

-- header or gate unsound
abbrev pub log_report : LogFault → Report
log_report fault = empty_report superblock.Sound (log_state fault)

-- the gate is within the slots, or unsound
abbrev pub report_below : Lines → Params → Option LogFault → Report
report_below line p (Some fault) = log_report fault
report_below line p None = report_by p (gate_in line) (survey_slots line p (gate_in line) 0 p.slots no_survey)

-- the header is sound, or unsound
abbrev pub report_log : Lines → Params → Option LogFault → Report
report_log line p (Some fault) = log_report fault
report_log line p None = report_below line p (gate_fault (gate_in line) p)

-- the superblock is sound, or unsound
abbrev pub report_super : Lines → Result Params SuperFault → Report
report_super line (Err fault) = super_report fault
report_super line (Ok p) = report_log line p (log_fault (line log_line) p)

-- the report of an image, which has so many bytes
unfoldable pub report_of : Lines → ℕ → Report
report_of line have = report_super line (super_in line have)
