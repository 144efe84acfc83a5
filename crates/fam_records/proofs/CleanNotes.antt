-- What is printed of a note has no control byte.
use Rattle.std.proofs.Common.{◌≡◌, ℕ, ◌^◌, ◌<◌, true, false, cond, List, [], ◌∷◌, ◌++◌, length, Option, Some, None, codes, refl, ap, sym, ◌∙◌, arith, append_assoc, decimal}
use Rattle.std.specs.Prelude.{◌&&◌, ◌==◌, not}
use Rattle.std.specs.List.{list_all}
use Rattle.std.proofs.lemmas.Bool.{and_parts, true≢false}
use Rattle.std.proofs.lemmas.Bool.Decides.{nat_tests}
use Rattle.fam_base.specs.declared.cmd.Attr.{Attr}
use Rattle.fam_base.specs.declared.cmd.Cmd.{Cmd}
use Rattle.fam_base.specs.declared.cmd.Cmd.TheVariants.{Logplay, Mount, Mkdir, Creat, Cp, Verify, Read, Check, Fsck}
use Rattle.fam_base.specs.declared.cmd.Content.{Content}
use Rattle.fam_base.specs.declared.cmd.Content.TheVariants as content
use Rattle.fam_base.specs.declared.cmd.Stripe.{Stripe}
use Rattle.fam_base.specs.declared.entry.Kind.{Kind}
use Rattle.fam_base.specs.declared.entry.Kind.TheVariants.{File, Directory}
use Rattle.fam_base.specs.declared.entry.Params.{Params}
use Rattle.fam_base.specs.HostNames.{is_host_name, is_name_byte}
use Rattle.fam_format.specs.declared.faults.LogField.{LogField}
use Rattle.fam_format.specs.declared.faults.LogField.TheVariants as field
use Rattle.fam_format.specs.declared.faults.LogFault.{LogFault}
use Rattle.fam_format.specs.declared.faults.LogFault.TheVariants.{BadLog}
use Rattle.fam_format.specs.declared.faults.Reason.{Reason}
use Rattle.fam_format.specs.declared.faults.Reason.TheVariants as reason
use Rattle.fam_format.specs.declared.faults.SuperFault.{SuperFault}
use Rattle.fam_format.specs.declared.faults.SuperFault.TheVariants.{NoSuper, BadSuper}
use Rattle.fam_format.specs.declared.faults.SuperField.{SuperField}
use Rattle.fam_format.specs.declared.faults.SuperField.TheVariants as super
use Rattle.fam_format.specs.Params.{first_number, is_format}
use Rattle.fam_rules.specs.declared.answers.Checked.{Checked}
use Rattle.fam_rules.specs.declared.answers.LogState.{LogState}
use Rattle.fam_rules.specs.declared.answers.LogState.TheVariants as log
use Rattle.fam_rules.specs.declared.answers.Refused.{Refused as Cause}
use Rattle.fam_rules.specs.declared.answers.Refused.TheVariants as cause
use Rattle.fam_rules.specs.declared.answers.SuperState.{SuperState}
use Rattle.fam_rules.specs.declared.answers.SuperState.TheVariants as superblock
use Rattle.fam_journal.specs.declared.refusal.Refusal.{Refusal}
use Rattle.fam_journal.specs.declared.refusal.Refusal.TheVariants as why
use Rattle.fam_journal.specs.Notes.{Note, Host, Made, Cut, Start, Mark, Found, Writes, Answered, Stop, Halt, Umount, Refused}
use Rattle.fam_grammar.specs.Words.{is_blank}
use Rattle.fam_outcomes.specs.Texts.{against_text, bad_text, cause_text, checked_text, cmd_text, format_text, host_name, kind_text, log_field_text, log_state_text, log_text, made_text, name_of_note, number, overlap_text, path_or_none, reason_text, refusal_text, seed_text, slot_text, stripe_text, super_field_text, super_state_text, super_text}
use Rattle.fam_history.specs.declared.answer.ToldAnswer.{ToldAnswer}
use Rattle.fam_history.specs.declared.answer.ToldAnswer.TheVariants as given
use Rattle.fam_history.specs.Told.{IfTellingStripe, IsTelling, IsTellingAttr, IsTellingContent, IsTellingFill}
use Rattle.fam_history.specs.ToldAnswers.{IsTellingAnswer, IsTellingCause, IsTellingChecked, IsTellingLog, IsTellingReason, IsTellingSuper, answer_told, told_answer_text}
use Rattle.fam_history.specs.ToldNotes.{IsTellingNote, IsTellingParams, IsTellingText, first_text, head_line}
use Rattle.fam_history.specs.ToldRefusals.{IsTellingRefusal}
use Rattle.fam_history.specs.ToldReports.{IfTellingPair, IfTellingSlot, IsTellingLogState, IsTellingSuperState}
use Rattle.fam_records.proofs.Clean.{both, byte_clean, bytes_clean, clean-append, entry_clean, host_clean, is_clean, mode_clean, name_clean, number_clean, uuid_clean}
use Rattle.fam_records.proofs.PrintedLines.{IsPrinted, is_begun}

-- Commands.

uid_clean : (a : Attr) → IsTellingAttr a → is_clean (decimal a.uid) ≡ true
uid_clean a is = number_clean a.uid (omega (arith, is.uid))

gid_clean : (a : Attr) → IsTellingAttr a → is_clean (decimal a.gid) ≡ true
gid_clean a is = number_clean a.gid (omega (arith, is.gid))

stripe_clean : (s : Option Stripe) → IfTellingStripe s → is_clean (stripe_text s) ≡ true
stripe_clean None is = refl
stripe_clean (Some s) is = simp (clean-append, number_clean s.nstrips is.nstrips, number_clean s.nbuckets is.nbuckets, number_clean s.chunk is.chunk) refl

seed_clean : (c : Content) → IsTellingFill c → is_clean (seed_text c) ≡ true
seed_clean content.Zero is = refl
seed_clean (content.Seed seed) is = number_clean seed is
seed_clean (content.Bytes bytes) is = absurd is

against_clean : (c : Content) → IsTellingContent c → is_clean (against_text c) ≡ true
against_clean content.Zero is = refl
against_clean (content.Seed seed) is = number_clean seed is
against_clean (content.Bytes bytes) is = number_clean (length bytes) is

cmd_clean : (cmd : Cmd) → IsTelling cmd → is_clean (cmd_text cmd) ≡ true
cmd_clean Logplay is = refl
cmd_clean Mount is = refl
cmd_clean Fsck is = refl
cmd_clean (Mkdir path attr) is = simp (clean-append, name_clean path, mode_clean attr.mode, uid_clean attr is.1, gid_clean attr is.1) refl
cmd_clean (Creat path size attr stripe fill) is =
    simp (clean-append, name_clean path, number_clean size is.1, mode_clean attr.mode, uid_clean attr is.2, gid_clean attr is.2, stripe_clean stripe is.3, seed_clean fill is.4) refl
cmd_clean (Cp path attr stripe bytes) is =
    simp (clean-append, name_clean path, number_clean (length bytes) is.1, mode_clean attr.mode, uid_clean attr is.2, gid_clean attr is.2, stripe_clean stripe is.3) refl
cmd_clean (Verify path against) is = simp (clean-append, name_clean path, against_clean against is.1) refl
cmd_clean (Read path offset count) is = simp (clean-append, name_clean path, number_clean offset is.1, number_clean count (omega (arith, is.2))) refl
cmd_clean (Check entries) is = number_clean (length entries) is

-- Faults.

kind_clean : (kind : Kind) → is_clean (kind_text kind) ≡ true
kind_clean File = refl
kind_clean Directory = refl

super_field_clean : (f : SuperField) → is_clean (super_field_text f) ≡ true
super_field_clean super.Crc = refl
super_field_clean super.Version = refl
super_field_clean super.Offset = refl
super_field_clean super.Unit = refl
super_field_clean super.Length = refl
super_field_clean super.Device = refl
super_field_clean super.Small = refl
super_field_clean super.Rest = refl

log_field_clean : (f : LogField) → is_clean (log_field_text f) ≡ true
log_field_clean field.Magic = refl
log_field_clean field.Crc = refl
log_field_clean field.Length = refl
log_field_clean field.Slots = refl
log_field_clean field.Uuid = refl
log_field_clean field.Rest = refl
log_field_clean field.Gate = refl

super_clean : (fault : SuperFault) → IsTellingSuper fault → is_clean (super_text fault) ≡ true
super_clean (NoSuper word) is = number_clean word is
super_clean (BadSuper f found wanted) is = simp (clean-append, super_field_clean f, number_clean found is.0, number_clean wanted is.1) refl

log_clean : (fault : LogFault) → IsTellingLog fault → is_clean (log_text fault) ≡ true
log_clean (BadLog f found wanted) is = simp (clean-append, log_field_clean f, number_clean found is.0, number_clean wanted is.1) refl

reason_clean : (why : Reason) → IsTellingReason why → is_clean (reason_text why) ≡ true
reason_clean (reason.Crc found wanted) is = simp (clean-append, number_clean found is.0, number_clean wanted is.1) refl
reason_clean (reason.Seq found wanted) is = simp (clean-append, number_clean found is.0, number_clean wanted is.1) refl
reason_clean (reason.BadKind word) is = number_clean word is
reason_clean (reason.Attribute index) is = number_clean index is
reason_clean reason.BadPath is = refl
reason_clean reason.Map is = refl
reason_clean (reason.Rest index) is = number_clean index is
reason_clean (reason.Exists kind) is = kind_clean kind
reason_clean reason.NoParent is = refl
reason_clean reason.ParentIsFile is = refl
reason_clean (reason.Overlap unit) is = number_clean unit is

slot_clean : (seq : ℕ) (why : Reason) → (seq < 2 ^ 64) × IsTellingReason why → is_clean (slot_text seq why) ≡ true
slot_clean seq why is = simp (clean-append, number_clean seq is.0, reason_clean why is.1) refl

-- Reports.

-- what a report says of the superblock is clean
pub super_state_clean : (s : SuperState) → IsTellingSuperState s → is_clean (super_state_text s) ≡ true
super_state_clean superblock.Sound is = refl
super_state_clean (superblock.NoSuper word) is = super_clean (NoSuper word) is
super_state_clean (superblock.BadSuper f found wanted) is = super_clean (BadSuper f found wanted) is

-- what it says of the log is clean
pub log_state_clean : (s : LogState) → IsTellingLogState s → is_clean (log_state_text s) ≡ true
log_state_clean (log.Sound entries slots) is = simp (clean-append, number_clean entries is.0, number_clean slots is.1) refl
log_state_clean (log.BadLog f found wanted) is = log_clean (BadLog f found wanted) is
log_state_clean log.Unread is = refl

-- its line of files and directories is clean
pub files_clean : (files directories : ℕ) → files < 2 ^ 64 → directories < 2 ^ 64
    → is_clean (codes "files" ++ number files ++ codes " directories" ++ number directories) ≡ true
files_clean files directories first second = simp (clean-append, number_clean files first, number_clean directories second) refl

-- its line of units is clean
pub units_clean : (used unused : ℕ) → used < 2 ^ 64 → unused < 2 ^ 64 → is_clean (codes "units used" ++ number used ++ codes " free" ++ number unused) ≡ true
units_clean used unused first second = simp (clean-append, number_clean used first, number_clean unused second) refl

-- its line of two entries that overlap is clean
pub overlap_clean : (pair : Option (ℕ × ℕ)) → IfTellingPair pair → is_clean (overlap_text pair) ≡ true
overlap_clean None is = refl
overlap_clean (Some pair) is = simp (clean-append, number_clean pair.0 is.0, number_clean pair.1 is.1) refl

-- its line of the first bad entry is clean
pub bad_clean : (bad : Option (ℕ × Reason)) → IfTellingSlot bad → is_clean (bad_text bad) ≡ true
bad_clean None is = refl
bad_clean (Some bad) is = slot_clean bad.0 bad.1 is

-- its line of slots past the gate is clean
pub past_clean : (n : ℕ) → n < 2 ^ 64 → is_clean (codes "past gate" ++ number n) ≡ true
past_clean n small = number_clean n small

-- Answers.

cause_clean : (why : Cause) → IsTellingCause why → is_clean (cause_text why) ≡ true
cause_clean (cause.NotMaster me master) is = simp (clean-append, uuid_clean me, uuid_clean master) refl
cause_clean (cause.LongPath limit) is = number_clean limit is
cause_clean cause.BadStripe is = refl
cause_clean (cause.Exists kind) is = kind_clean kind
cause_clean cause.NoParent is = refl
cause_clean cause.ParentIsFile is = refl
cause_clean (cause.LogFull slots) is = number_clean slots is
cause_clean (cause.NoSpace units) is = number_clean units is

path_clean : (path : Option (List ℕ)) → is_clean (path_or_none path) ≡ true
path_clean None = refl
path_clean (Some path) = name_clean path

checked_clean : (m : ℕ) (c : Checked) → (m < 2 ^ 64) × IsTellingChecked c → is_clean (checked_text m c) ≡ true
checked_clean m c is =
    simp (clean-append, number_clean m is.0, number_clean c.missing is.1.missing, number_clean c.extra is.1.extra, number_clean c.changed is.1.changed, path_clean c.first) refl

answer_clean : (given : ToldAnswer) → IsTellingAnswer given → is_clean (told_answer_text given) ≡ true
answer_clean (given.Ok seq) is = number_clean seq is
answer_clean (given.NotAppended why) is = cause_clean why is
answer_clean (given.Played m) is = number_clean m is
answer_clean (given.Mounted m) is = number_clean m is
answer_clean (given.Same m) is = number_clean m is
answer_clean (given.Differs m offset found wanted) is =
    simp (clean-append, number_clean m is.0, number_clean offset is.1, byte_clean found, byte_clean wanted) refl
answer_clean (given.Length m size wanted) is = simp (clean-append, number_clean m is.0, number_clean size is.1, number_clean wanted is.2) refl
answer_clean (given.Bytes m bytes) is = simp (clean-append, number_clean m is.0, bytes_clean bytes) refl
answer_clean (given.NotFound m) is = number_clean m is
answer_clean (given.IsDirectory m) is = number_clean m is
answer_clean (given.Checked m checked) is = checked_clean m checked is
answer_clean (given.Report true) is = refl
answer_clean (given.Report false) is = refl
answer_clean (given.NoSuperblock fault) is = super_clean fault is
answer_clean (given.BadHeader fault) is = log_clean fault is
answer_clean (given.BadSlot seq why) is = slot_clean seq why is
answer_clean (given.MediaFault at) is = number_clean at is

-- Refusals.

refusal_clean : (names : List (List ℕ)) (cause : Refusal) → IsTellingRefusal names cause → is_clean (refusal_text names cause) ≡ true
refusal_clean names why.NoHost is = refl
refusal_clean names (why.SameHost host) is = host_clean (host_name names host.0) is
refusal_clean names why.TooManyHosts is = refl
refusal_clean names (why.BadGeometry unit log) is = simp (clean-append, number_clean unit is.0, number_clean log is.1) refl
refusal_clean names (why.TooSmall need have) is = simp (clean-append, number_clean need is.0, number_clean have is.1) refl
refusal_clean names (why.ImageSmall lines) is = number_clean lines is
refusal_clean names (why.Busy host) is = host_clean (host_name names host.0) is
refusal_clean names (why.Dirty host) is = host_clean (host_name names host.0) is
refusal_clean names (why.HasSuper uuid) is = uuid_clean uuid
refusal_clean names why.Idle is = refl
refusal_clean names why.Mounted is = refl
refusal_clean names why.NotMounted is = refl
refusal_clean names (why.NoLine at lines) is = simp (clean-append, number_clean at is.0, number_clean lines is.1) refl
refusal_clean names (why.NoFile name) is = name_clean name
refusal_clean names (why.CopyLimit sum) is = number_clean sum is
refusal_clean names (why.BadListing at) is = number_clean at is
refusal_clean names (why.MediaFault at) is = number_clean at.0 is

-- Notes.

format_clean : (format : ℕ) → is_format format ≡ true → is_clean (format_text format) ≡ true
format_clean format is =
    let small : format < 2 ^ 64 = grind (arith, nat_tests) in
    elim (format == first_number) as (λ t. is_clean (cond t [] (codes " format" ++ number format)) ≡ true) [
      | true ↦ refl
      | false ↦ number_clean format small
    ]

made_clean : (p : Params) → IsTellingParams p → is_clean (made_text p) ≡ true
made_clean p is =
    simp (
      clean-append,
      uuid_clean p.fs,
      number_clean p.unit is.unit,
      number_clean p.log_length is.log_length,
      number_clean p.device is.device,
      format_clean p.format is.format,
    ) refl

first_clean : (names : List (List ℕ)) (note : Note) → IsTellingText names note → is_clean (first_text names note) ≡ true
first_clean names (Host name uuid) is = uuid_clean uuid
first_clean names (Made host p) is = made_clean p is
first_clean names (Cut host k) is = number_clean k is
first_clean names (Start host cmd) is = cmd_clean cmd is
first_clean names (Mark host) is = refl
first_clean names (Found host n) is = number_clean n is
first_clean names (Writes host seq entry) is = simp (clean-append, number_clean seq is.0, entry_clean entry is.1) refl
first_clean names (Answered host answer) is = answer_clean (answer_told answer) is
first_clean names (Stop host) is = refl
first_clean names (Halt host) is = refl
first_clean names (Umount host) is = refl
first_clean names (Refused name cause) is = refusal_clean names cause is

-- the first byte of a host's name is neither blank nor `#`
name_begun : (name rest : List ℕ) → is_host_name name ≡ true → is_begun (name ++ rest) ≡ true
unfolding is_host_name
name_begun [] rest is = absurd (true≢false (sym is))
name_begun (byte ∷ bytes) rest is = here byte (and_parts (is_name_byte byte) (list_all is_name_byte bytes) (grind (arith, nat_tests))).0
  where
    here : (b : ℕ) → is_name_byte b ≡ true → not (is_blank b) && not (b == 35) ≡ true
    here b own = grind (arith, nat_tests)

-- a note's first line
pub head_printed : (names : List (List ℕ)) (note : Note) → IsTellingNote names note → IsPrinted (head_line names note)
head_printed names note is = record {
  clean = both (name_of_note names note ++ codes " ") (first_text names note) (both (name_of_note names note) (codes " ") (host_clean (name_of_note names note) is.name) refl)
      (first_clean names note is.text);
  starts = ap is_begun (append_assoc (name_of_note names note) (codes " ") (first_text names note)) ∙ name_begun (name_of_note names note) (codes " " ++ first_text names note) is.name;
}
