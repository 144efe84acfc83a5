-- What a damaged image's reading and report are, fault by fault, and the answers that name them.
use Rattle.std.proofs.Common.{ℕ, zero, suc, ◌≡◌, ◌≢◌, ◌⊎◌, inl, inr, ◌+◌, ◌-◌, List, [], ◌∷◌, ◌++◌, Option, Some, None, refl, sym, ◌∙◌, ap, subst}
use Rattle.std.specs.Prelude.{Result, Ok, Err}
use Rattle.fam_base.specs.declared.cmd.Cmd.{Cmd}
use Rattle.fam_base.specs.declared.cmd.Cmd.TheVariants.{Fsck}
use Rattle.fam_base.specs.declared.entry.Params.{Params}
use Rattle.fam_base.specs.declared.entry.Entry.{Entry}
use Rattle.fam_format.specs.declared.faults.SuperFault.{SuperFault}
use Rattle.fam_format.specs.declared.faults.LogFault.{LogFault}
use Rattle.fam_format.specs.declared.faults.Reason.{Reason}
use Rattle.fam_format.specs.Layout.{log_line}
use Rattle.fam_format.specs.Log.{log_fault, gate_fault}
use Rattle.fam_format.specs.Reading.{Reading, Lines, BadHeader, BadSlot, Sound, super_in, slot_in, gate_in, joined_or, slot_or, read_super, read_log, read_below, read_slots, reading_of}
use Rattle.fam_format.specs.Slot.{entry_of}
use Rattle.fam_format.specs.Tree.{join_fault}
use Rattle.fam_commands.specs.Task.{Task}
use Rattle.fam_commands.specs.Turns.{slots_read, super_fault_reply, log_fault_reply, check_turn, slot_turn}
use Rattle.fam_rules.specs.Reply.{Reply}
use Rattle.fam_rules.specs.Reply as reply
use Rattle.fam_rules.specs.Reports.{report_of, report_by, report_super, report_log, report_below, log_report, survey_slots, no_survey}
use Rattle.fam_protocol.specs.Bad.{Remains, MayReplyBad, fault_of}

-- a command other than a check of the whole file system: it reads the slots below the gate, and names the fault
pub record Plays (cmd : Cmd) : Type 0 where
  pub other : cmd ≡ Fsck → ⊥
  pub slots : (t : Task) → t.cmd ≡ cmd → slots_read t ≡ t.gate
  pub opens : (image : Lines) (have i : ℕ) (t : Task) → Remains cmd image have i t → read_slots image t.params i (t.gate - i) t.entries ≡ reading_of image have
  pub closes : (image : Lines) (have i : ℕ) (t : Task) → read_slots image t.params i (t.gate - i) t.entries ≡ reading_of image have → Remains cmd image have i t
  pub super : (fault : SuperFault) → super_fault_reply cmd fault ≡ reply.NoSuperblock fault
  pub log : (fault : LogFault) → log_fault_reply cmd fault ≡ reply.BadHeader fault
  pub check : (t : Task) (i : ℕ) → check_turn cmd t i ≡ slot_turn t i (entry_of t.params t.words i)

-- a command is a check of the whole file system, or one of the others
pub fsck_or_plays : (cmd : Cmd) → (cmd ≡ Fsck) ⊎ Plays cmd
fsck_or_plays Fsck = inl refl
fsck_or_plays c = inr (record {
  other = λ e. absurd (cc);
  slots = λ t is. rw is refl;
  opens = λ image have i t r. r;
  closes = λ image have i t r. r;
  super = λ f. refl;
  log = λ f. refl;
  check = λ t i. refl;
})

-- that check reads all slots
pub slots_fsck : (t : Task) → t.cmd ≡ Fsck → slots_read t ≡ t.params.slots
slots_fsck t is = rw is refl

-- how many slots are read goes by command, parameters and gate alone
pub slots_alike : (a b : Task) → a.cmd ≡ b.cmd → a.params ≡ b.params → a.gate ≡ b.gate → slots_read a ≡ slots_read b
slots_alike a b cmd params gate = elim (fsck_or_plays b.cmd) [
  | inl is ↦ slots_fsck a (cmd ∙ is) ∙ ap (λ (p : Params). p.slots) params ∙ sym (slots_fsck b is)
  | inr plays ↦ plays.slots a cmd ∙ gate ∙ sym (plays.slots b refl)
]

module _ (image : Lines) (have : ℕ) (t : Task) where
  -- no superblock
  pub says_super : (fault : SuperFault) → super_in image have ≡ Err fault → MayReplyBad (super_fault_reply t.cmd fault) image have t
  unfolding reading_of report_of
  says_super fault is = elim (fsck_or_plays t.cmd) [
    | inl e ↦ subst (λ (c : Cmd). MayReplyBad (super_fault_reply c fault) image have t) (sym e) (sym (ap (report_super image) is))
    | inr plays ↦ subst (λ (r : Reply). MayReplyBad r image have t) (sym (plays.super fault)) (ap (λ (r : Result Params SuperFault). fault_of (read_super image r)) is)
  ]

  module _ (p : Params) (super : super_in image have ≡ Ok p) where
    reads_log : reading_of image have ≡ read_log image p (log_fault (image log_line) p)
    unfolding reading_of
    reads_log = ap (read_super image) super

    reports_log : report_of image have ≡ report_log image p (log_fault (image log_line) p)
    unfolding report_of
    reports_log = ap (report_super image) super

    says_log : (fault : LogFault) → reading_of image have ≡ BadHeader fault → report_of image have ≡ log_report fault → MayReplyBad (log_fault_reply t.cmd fault) image have t
    says_log fault reads reports = elim (fsck_or_plays t.cmd) [
      | inl e ↦ subst (λ (c : Cmd). MayReplyBad (log_fault_reply c fault) image have t) (sym e) (sym reports)
      | inr plays ↦ subst (λ (r : Reply). MayReplyBad r image have t) (sym (plays.log fault)) (ap fault_of reads)
    ]

    -- a bad header
    pub says_header : (fault : LogFault) → log_fault (image log_line) p ≡ Some fault → MayReplyBad (log_fault_reply t.cmd fault) image have t
    says_header fault is = says_log fault (reads_log ∙ ap (read_log image p) is) (reports_log ∙ ap (report_log image p) is)

    module _ (header : log_fault (image log_line) p ≡ None) where
      -- what comes behind the header
      pub reads_below : reading_of image have ≡ read_below image p (gate_fault (gate_in image) p)
      reads_below = reads_log ∙ ap (read_log image p) header

      reports_below : report_of image have ≡ report_below image p (gate_fault (gate_in image) p)
      reports_below = reports_log ∙ ap (report_log image p) header

      -- a gate past the slots
      pub says_gate : (fault : LogFault) → gate_fault (gate_in image) p ≡ Some fault → MayReplyBad (log_fault_reply t.cmd fault) image have t
      says_gate fault is = says_log fault (reads_below ∙ ap (read_below image p) is) (reports_below ∙ ap (report_below image p) is)

      -- all but the slots is sound
      pub reads_slots : gate_fault (gate_in image) p ≡ None → reading_of image have ≡ read_slots image p 0 (gate_in image) []
      reads_slots is = reads_below ∙ ap (read_below image p) is

      pub reports_slots : gate_fault (gate_in image) p ≡ None → report_of image have ≡ report_by p (gate_in image) (survey_slots image p (gate_in image) 0 p.slots no_survey)
      reports_slots is = reports_below ∙ ap (report_below image p) is

-- Slots that don't read as a sound list name a slot.

-- no sound file system
abbrev pub NotSound : Reading → Type 0
NotSound r = (p : Params) (entries : List Entry) → r ≢ Sound p entries

-- a slot is at fault
abbrev pub NamesSlot : Reading → Type 0
NamesSlot r = (slot : ℕ) × (reason : Reason) × (r ≡ BadSlot slot reason)

joined_bad : (i : ℕ) (o : Option Reason) (rest : Reading) → (NotSound rest → NamesSlot rest) → NotSound (joined_or i o rest) → NamesSlot (joined_or i o rest)
joined_bad i (Some reason) rest more bad = (i, reason, refl)
joined_bad i None rest more bad = more bad

slot_bad : (p : Params) (list : List Entry) (i : ℕ) (x : Result Entry Reason) (rest : Entry → Reading)
    → ((e : Entry) → NotSound (rest e) → NamesSlot (rest e)) → NotSound (slot_or p list i x rest) → NamesSlot (slot_or p list i x rest)
slot_bad p list i (Ok e) rest more bad = joined_bad i (join_fault p list e) (rest e) (more e) bad
slot_bad p list i (Err reason) rest more bad = (i, reason, refl)

-- a reading of slots that isn't sound names a slot
pub slots_bad : (image : Lines) (p : Params) (n i : ℕ) (list : List Entry) → NotSound (read_slots image p i n list) → NamesSlot (read_slots image p i n list)
slots_bad image p zero i list bad = absurd (bad p list refl)
slots_bad image p (suc n) i list bad = slot_bad p list i (slot_in image p i) (λ e. read_slots image p (i + 1) n (list ++ e ∷ [])) (λ e. slots_bad image p n (i + 1) (list ++ e ∷ [])) bad
