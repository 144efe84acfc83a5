-- What a damaged image tells, by the first fault of its reading.
use Rattle.std.proofs.Common.{◌≡◌, ℕ, zero, suc, ◌+◌, ◌*◌, ◌<◌, ◌≤◌, List, [], ◌∷◌, ◌++◌, length, map, Option, Some, None, Result, Ok, Err, refl, sym, ap, subst, ◌∙◌, arith}
use Rattle.std.specs.Prelude.{⊤}
use Rattle.std.proofs.lemmas.Bool.{lt-ltb, le-ltb}
use Rattle.fam_base.specs.declared.entry.Entry.{Entry}
use Rattle.fam_base.specs.declared.entry.Params.{Params}
use Rattle.fam_base.specs.Image.{Image, line_at}
use Rattle.fam_format.specs.declared.faults.LogFault.{LogFault}
use Rattle.fam_format.specs.declared.faults.LogFault.TheVariants as log
use Rattle.fam_format.specs.declared.faults.Reason.{Reason}
use Rattle.fam_format.specs.declared.faults.SuperFault.{SuperFault}
use Rattle.fam_format.specs.declared.faults.SuperFault.TheVariants as super
use Rattle.fam_format.specs.Layout.{least_lines, log_line}
use Rattle.fam_format.specs.Log.{gate_fault, log_fault}
use Rattle.fam_format.specs.Reading as read
use Rattle.fam_format.specs.Reading.{Lines, Reading, gate_in, joined_or, read_below, read_log, read_slots, reading, reading_of, slot_in, slot_or, super_in}
use Rattle.fam_format.specs.Params.{SoundParams}
use Rattle.fam_format.specs.Tree.{join_fault}
use Rattle.fam_format.proofs.UnitPowers.{unit_told}
use Rattle.fam_rules.specs.declared.answers.Report.{Report}
use Rattle.fam_rules.specs.Place.{line_bytes}
use Rattle.fam_rules.specs.Solo.{held_file}
use Rattle.fam_rules.specs.Reports.{log_report, no_survey, report_below, report_by, report_log, report_of, report_super, super_report, survey_slots}
use Rattle.fam_replay.specs.Sources.{Tells, of_log, of_super}
use Rattle.fam_replay.specs.declared.fault.ReadFault.{ReadFault}
use Rattle.fam_replay.specs.declared.fault.ReadFault.TheVariants as fault
use Rattle.fam_journal.specs.Past.{Bad, BadHeader, BadSlot, FewLines, Given, NoSuperblock, Sound, first_state, state_read}
use Rattle.fam_judging.specs.Candidates.{IsGivenImage}
use Rattle.fam_judging.specs.declared.given.Damage.TheVariants as damage

-- What the slots may tell.

-- a bad slot, or none
abbrev IsOfSlots : Reading → Type 0
IsOfSlots (read.NoSuperblock fault) = ⊥
IsOfSlots (read.BadHeader fault) = ⊥
IsOfSlots (read.BadSlot i reason) = ⊤
IsOfSlots (read.Sound p entries) = ⊤

module _ (line : Lines) (p : Params) where
  of_join : (i : ℕ) (fault : Option Reason) (rest : Reading) → IsOfSlots rest → IsOfSlots (joined_or i fault rest)
  of_join i (Some reason) rest is = tt
  of_join i None rest is = is

  of_slot : (list : List Entry) (i : ℕ) (r : Result Entry Reason) (rest : Entry → Reading) → ((e : Entry) → IsOfSlots (rest e)) → IsOfSlots (slot_or p list i r rest)
  of_slot list i (Ok e) rest each = of_join i (join_fault p list e) (rest e) (each e)
  of_slot list i (Err reason) rest each = tt

  of_slots : (i more : ℕ) (list : List Entry) → IsOfSlots (read_slots line p i more list)
  of_slots i zero list = tt
  of_slots i (suc more) list =
      of_slot list i (slot_in line p i) (λ e. read_slots line p (i + 1) more (list ++ e ∷ [])) (λ e. of_slots (i + 1) more (list ++ e ∷ []))

  -- a log tells no fault of a superblock
  no_super_below : (f : Option LogFault) (fault : SuperFault) → read_below line p f ≡ read.NoSuperblock fault → ⊥
  no_super_below (Some x) fault is = cc
  no_super_below None fault is = subst IsOfSlots is (of_slots 0 (gate_in line) [])

  pub no_super_in_log : (f : Option LogFault) (fault : SuperFault) → read_log line p f ≡ read.NoSuperblock fault → ⊥
  no_super_in_log (Some x) fault is = cc
  no_super_in_log None fault is = no_super_below (gate_fault (gate_in line) p) fault is

  -- The report by the reading.

  bad_gate : (f : Option LogFault) (fault : LogFault) → read_below line p f ≡ read.BadHeader fault → report_below line p f ≡ log_report fault
  bad_gate (Some x) fault is = let same : x ≡ fault = cc in ap log_report same
  bad_gate None fault is = absurd (subst IsOfSlots is (of_slots 0 (gate_in line) []))

  header_report : (f : Option LogFault) (fault : LogFault) → read_log line p f ≡ read.BadHeader fault → report_log line p f ≡ log_report fault
  header_report (Some x) fault is = let same : x ≡ fault = cc in ap log_report same
  header_report None fault is = bad_gate (gate_fault (gate_in line) p) fault is

  slot_below : (f : Option LogFault) (i : ℕ) (reason : Reason) → read_below line p f ≡ read.BadSlot i reason
      → report_below line p f ≡ report_by p (gate_in line) (survey_slots line p (gate_in line) 0 p.slots no_survey)
  slot_below (Some x) i reason is = absurd cc
  slot_below None i reason is = refl

  slot_report : (f : Option LogFault) (i : ℕ) (reason : Reason) → read_log line p f ≡ read.BadSlot i reason
      → report_log line p f ≡ report_by p (gate_in line) (survey_slots line p (gate_in line) 0 p.slots no_survey)
  slot_report (Some x) i reason is = absurd cc
  slot_report None i reason is = slot_below (gate_fault (gate_in line) p) i reason is

-- The first state.

-- of few lines
state_few : (image : Image) → length image < least_lines → first_state image ≡ Bad (Given image) (FewLines (length image)) 0
state_few image few = rw (lt-ltb (length image) least_lines few) refl

-- of enough
pub state_of : (image : Image) → least_lines ≤ length image → first_state image ≡ state_read image (reading image)
state_of image enough = rw (le-ltb (length image) least_lines enough) refl

module _ (image : Image) (fault : SuperFault) (damaged : super_in (line_at image) (line_bytes * length image) ≡ Err fault) where
  super_is : report_of (line_at image) (line_bytes * length image) ≡ super_report fault
  unfolding report_of
  super_is = ap (report_super (line_at image)) damaged

  super_read : reading image ≡ read.NoSuperblock fault
  unfolding reading_of
  super_read = ap (read.read_super (line_at image)) damaged

  -- an image of few lines
  pub given_few : (lines : ℕ) (report : Report) → lines < least_lines → length image ≡ lines → report ≡ super_report fault
      → IsGivenImage image (record { damage = damage.FewLines lines; gate = 0; params = None; report = report })
  given_few lines report few count is = record {
    state = state_few image (omega (arith, few, count)) ∙ ap (λ (n : ℕ). Bad (Given image) (FewLines n) 0) count;
    super = λ p none. absurd none;
    params = λ p none. absurd cc;
    report = is ∙ sym super_is;
  }

  -- without a superblock
  pub given_super : (gate : ℕ) (report : Report) → least_lines ≤ length image → gate_in (line_at image) ≡ gate → report ≡ super_report fault
      → IsGivenImage image (record { damage = damage.NoSuperblock fault; gate = gate; params = None; report = report })
  given_super gate report enough counts is = record {
    state = state_of image enough ∙ ap (state_read image) super_read ∙ ap (Bad (Given image) (NoSuperblock fault)) counts;
    super = λ p none. absurd none;
    params = λ p none. absurd cc;
    report = is ∙ sym super_is;
  }

module _ (image : Image) (p : Params) (told : super_in (line_at image) (line_bytes * length image) ≡ Ok p) where
  -- behind the superblock
  pub log_read : reading image ≡ read_log (line_at image) p (log_fault (line_at image log_line) p)
  unfolding reading_of
  log_read = ap (read.read_super (line_at image)) told

  log_is : report_of (line_at image) (line_bytes * length image) ≡ report_log (line_at image) p (log_fault (line_at image log_line) p)
  unfolding report_of
  log_is = ap (report_super (line_at image)) told

  one : (q : Params) → super_in (line_at image) (line_bytes * length image) ≡ Ok q → Some p ≡ Some q
  one q other = let same : p ≡ q = cc in ap Some same

  found : (q : Params) → Some p ≡ Some q → super_in (line_at image) (line_bytes * length image) ≡ Ok q
  found q is = let same : p ≡ q = cc in told ∙ ap Ok same

  -- with a bad header or gate
  pub given_header : (fault : LogFault) (gate : ℕ) (report : Report) → least_lines ≤ length image → reading image ≡ read.BadHeader fault → gate_in (line_at image) ≡ gate
      → report ≡ log_report fault → IsGivenImage image (record { damage = damage.BadHeader fault; gate = gate; params = Some p; report = report })
  given_header fault gate report enough reads counts is = record {
    state = state_of image enough ∙ ap (state_read image) reads ∙ ap (Bad (Given image) (BadHeader fault)) counts;
    super = one;
    params = found;
    report = is ∙ sym (log_is ∙ header_report (line_at image) p (log_fault (line_at image log_line) p) fault (sym log_read ∙ reads));
  }

  -- with a bad slot
  pub given_slot : (seq : ℕ) (reason : Reason) (gate : ℕ) (report : Report) → least_lines ≤ length image → reading image ≡ read.BadSlot seq reason → gate_in (line_at image) ≡ gate
      → report ≡ report_by p gate (survey_slots (line_at image) p gate 0 p.slots no_survey)
      → IsGivenImage image (record { damage = damage.BadSlot seq reason; gate = gate; params = Some p; report = report })
  given_slot seq reason gate report enough reads counts is = record {
    state = state_of image enough ∙ ap (state_read image) reads ∙ ap (Bad (Given image) (BadSlot seq reason)) counts;
    super = one;
    params = found;
    report =
        is
        ∙ ap (λ (n : ℕ). report_by p n (survey_slots (line_at image) p n 0 p.slots no_survey)) (sym counts)
        ∙ sym (log_is ∙ slot_report (line_at image) p (log_fault (line_at image log_line) p) seq reason (sym log_read ∙ reads));
  }

-- Images of so many lines.

-- what the superblock tells
pub super_sized : (image : Image) (size : ℕ) (told : Result Params SuperFault) → length image ≡ size → super_in (line_at image) (line_bytes * size) ≡ told
    → super_in (line_at image) (line_bytes * length image) ≡ told
super_sized image size told count is = ap (λ (n : ℕ). super_in (line_at image) (line_bytes * n)) count ∙ is

-- the reading, behind a superblock
pub reading_sized : (image : Image) (size : ℕ) (p : Params) (what : Reading) → length image ≡ size → super_in (line_at image) (line_bytes * size) ≡ Ok p
    → read_log (line_at image) p (log_fault (line_at image log_line) p) ≡ what → reading image ≡ what
reading_sized image size p what count told is = log_read image p (super_sized image size (Ok p) count told) ∙ is

-- behind a superblock no other one is told
pub other_super : (image : Image) (p : Params) (fault : SuperFault) (told : Result Params SuperFault)
    → read_log (line_at image) p (log_fault (line_at image log_line) p) ≡ read.NoSuperblock fault → told ≡ Err fault
other_super image p fault told is = absurd (no_super_in_log (line_at image) p (log_fault (line_at image log_line) p) fault is)

-- a sound superblock is of an image with a gate
pub gate_within : (p : Params) (lines : ℕ) → SoundParams p → p.device ≤ line_bytes * lines → least_lines ≤ lines
gate_within p lines sound device =
    let least = (unit_told p.unit sound.unit).least in
    let need = sound.need in
    omega (arith, least, need, device)

-- a sound image's first state
pub state_sound : (image : Image) (p : Params) (entries : List Entry) → least_lines ≤ length image → reading image ≡ read.Sound p entries
    → first_state image ≡ Sound p (map (held_file (line_at image)) entries) None
state_sound image p entries enough is = state_of image enough ∙ ap (state_read image) is

-- What a fault tells.

pub super_told : (f : ReadFault) (fault : SuperFault) (what : Reading) → of_super fault ≡ f → Tells f what → what ≡ read.NoSuperblock fault
super_told f (super.NoSuper word) what is tells = subst (λ (g : ReadFault). Tells g what) (sym is) tells
super_told f (super.BadSuper field found wanted) what is tells = subst (λ (g : ReadFault). Tells g what) (sym is) tells

pub log_told : (f : ReadFault) (fault : LogFault) (what : Reading) → of_log fault ≡ f → Tells f what → what ≡ read.BadHeader fault
log_told f (log.BadLog field found wanted) what is tells = subst (λ (g : ReadFault). Tells g what) (sym is) tells

pub slot_told : (f : ReadFault) (seq : ℕ) (reason : Reason) (what : Reading) → fault.BadEntry seq reason ≡ f → Tells f what → what ≡ read.BadSlot seq reason
slot_told f seq reason what is tells = subst (λ (g : ReadFault). Tells g what) (sym is) tells
