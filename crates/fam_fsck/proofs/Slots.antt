-- What one slot more tells.
use Rattle.std.proofs.Common.{◌≡◌, ℕ, ◌<◌, ◌≤◌, List, Result, Ok, Err, is_ok, refl, sym, ap, ◌∙◌}
use Rattle.std.specs.Result.{MatchResult}
use Rattle.std.proofs.lemmas.Bool.{lt-ltb, le-ltb}
use Rattle.fam_base.specs.declared.entry.Entry.{Entry}
use Rattle.fam_format.specs.Slot.{entry_of}
use Rattle.fam_format.specs.declared.faults.Reason.{Reason}
use Rattle.fam_rules.specs.Reports.{Survey, below_gate, past_gate, survey_slot}
use Rattle.fam_entry.specs.Tests.{read_as}
use Rattle.fam_fsck.specs.Scan.{Scan, past_by}

-- below the gate
pub slot_below : (s : Scan) (words : List ℕ) (read : Result Entry Reason) → s.added < s.gate → read ≡ entry_of s.params words s.added
    → below_gate s.survey s.added read ≡ survey_slot s.params s.gate s.added words s.survey
unfolding survey_slot
slot_below s words read below h = rw (lt-ltb s.added s.gate below) (ap (below_gate s.survey s.added) h)

-- at or past it
pub slot_past : (s : Scan) (words : List ℕ) (read : Result Entry Reason) → s.gate ≤ s.added → read ≡ entry_of s.params words s.added
    → past_gate s.survey read ≡ survey_slot s.params s.gate s.added words s.survey
unfolding survey_slot
slot_past s words read past h = rw (le-ltb s.added s.gate past) (ap (past_gate s.survey) h)

-- what reads as an entry or not, past the gate
past_is : (v : Survey) (read : Result Entry Reason) → past_by v (is_ok read) ≡ past_gate v read
past_is v (Ok e) = refl
past_is v (Err reason) = refl

pub slot_past_by : (s : Scan) (words : List ℕ) (read : Result Entry Reason) → s.gate ≤ s.added → read ≡ entry_of s.params words s.added
    → past_by s.survey (is_ok read) ≡ survey_slot s.params s.gate s.added words s.survey
slot_past_by s words read past h = past_is s.survey read ∙ slot_past s words read past h

-- what is told of a reading is the reading
pub told_as : (read is : Result Entry Reason) → MatchResult read (λ e. is ≡ Ok e) (λ reason. is ≡ Err reason) → read ≡ is
told_as (Ok e) is told = sym told
told_as (Err reason) is told = sym told

-- a test of the words passes where they read as an entry
pub passes : (words : List ℕ) (test : Result (Unit {0}) Reason) → is_ok test ≡ is_ok (read_as words test)
passes words (Ok u) = refl
passes words (Err reason) = refl
