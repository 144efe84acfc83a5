-- What a media that counts exactly has counted behind the notes of a call.
use Rattle.std.proofs.Common.{◌≡◌, ◌+◌, ℕ, List, [], ◌∷◌, ◌++◌, length, refl, sym, ap, subst, ◌∙◌}
use Rattle.std.specs.Prelude.{◌==◌, Bool, true, false, cond, nat_le, nat_lt, is_some, Option, Some, None, Result, Ok, Err, IsErrOf}
use Rattle.std.proofs.lemmas.List.{append-nil, append_assoc}
use Rattle.fam_base.specs.declared.line.LineNo.{LineNo}
use Rattle.fam_cache.specs.Faults.{tells_failure, tells_media_fault}
use Rattle.fam_cache.specs.declared.fault.CacheFault.{CacheFault}
use Rattle.fam_cache.specs.declared.fault.CacheFault.TheVariants as cache
use Rattle.fam_cache.specs.declared.fault.OperationFault.{OperationFault}
use Rattle.fam_cache.specs.declared.fault.OperationFault.TheVariants as operation
use Rattle.fam_media.specs.Plans.{count_if, one_more}
use Rattle.fam_mail.specs.declared.ask.Ask.{Ask}
use Rattle.fam_mail.specs.declared.ask.Ask.TheVariants.{Post, Take}
use Rattle.fam_mail.specs.declared.note.MailFault.{MailFault}
use Rattle.fam_mail.specs.declared.note.MailFault.TheVariants as fault
use Rattle.fam_mail.specs.declared.note.MailNote.{MailNote}
use Rattle.fam_mail.specs.declared.note.MailNote.TheVariants as note
use Rattle.fam_mail.specs.declared.note.MailRefusal.{MailRefusal}
use Rattle.fam_mail.specs.declared.note.MailRefusal.TheVariants as why
use Rattle.fam_mail.specs.declared.turn.Turn.{Turn}
use Rattle.fam_mail.specs.declared.turn.Turn.TheVariants as turn
use Rattle.fam_mail.specs.Calls.{ChangesHost, IfMailAnswered, MailBegins, MailDeclares, MailRefuses, ask_refusal, begin_refusal, capacity_in, declare_refusal, declared_note, file_line_refusal, host_at, named_host_refusal, no_refusal, no_task_refusal, notes_of_turn, refusal_named, second_writer}
use Rattle.fam_mail.specs.Happens.{IsCountedIn, mail_counted, mail_cause_faults, mail_note_faults}
use Rattle.fam_mail.specs.Tasks.{new_task}
use Rattle.fam_mail.specs.World.{MailHost, MailView, is_named, is_writer, mail_noted, member_place}

-- No first refusal tells a fault.

abbrev pub cause_count : Option MailRefusal → ℕ
cause_count None = 0
cause_count (Some cause) = mail_cause_faults cause

quiet_when : (b : Bool) (cause : MailRefusal) (rest : Option MailRefusal) → mail_cause_faults cause ≡ 0 → cause_count rest ≡ 0 → cause_count (cond b (Some cause) rest) ≡ 0
quiet_when true cause rest now later = now
quiet_when false cause rest now later = later

quiet_unless : (b : Bool) (cause : MailRefusal) → mail_cause_faults cause ≡ 0 → cause_count (cond b None (Some cause)) ≡ 0
quiet_unless true cause now = refl
quiet_unless false cause now = now

quiet_of : (cause : MailHost → Option MailRefusal) → ((h : MailHost) → cause_count (cause h) ≡ 0) → (o : Option MailHost) → cause_count (named_host_refusal cause o) ≡ 0
quiet_of cause quiet None = refl
quiet_of cause quiet (Some h) = quiet h

quiet_ask : (ask : Ask) (h : MailHost) → cause_count (ask_refusal ask h) ≡ 0
quiet_ask (Post numbers) h = quiet_unless h.writer why.NotWriter refl
quiet_ask Take h = refl

quiet_second : (writer : Bool) (o : Option ℕ) (v : MailView) → cause_count (second_writer writer o v) ≡ 0
quiet_second false o v = refl
quiet_second true None v = refl
quiet_second true (Some at) v = refl

pub no_faults : (first : Option MailRefusal) (cause : MailRefusal) → cause_count first ≡ 0 → first ≡ Some cause → mail_cause_faults cause ≡ 0
no_faults first cause quiet is = sym (ap cause_count is) ∙ quiet

pub quiet_named : (name : List ℕ) (cause : MailHost → Option MailRefusal) → ((h : MailHost) → cause_count (cause h) ≡ 0) → (v : MailView) → cause_count (refusal_named name cause v) ≡ 0
quiet_named name cause quiet v = quiet_of cause quiet (host_at (member_place (is_named name) v.hosts) v)

pub quiet_idle : (h : MailHost) → cause_count (no_task_refusal h) ≡ 0
quiet_idle h = quiet_unless (is_some h.task) why.Idle refl

pub quiet_begin : (ask : Ask) (h : MailHost) → cause_count (begin_refusal ask h) ≡ 0
quiet_begin ask h = quiet_when (is_some h.task) why.Busy (ask_refusal ask h) refl (quiet_ask ask h)

pub quiet_line : (line capacity : ℕ) (h : MailHost) → cause_count (file_line_refusal line capacity h) ≡ 0
quiet_line line capacity h = quiet_when (nat_lt capacity line) (why.NoLine line (capacity + 1)) None refl refl

pub quiet_none : (h : MailHost) → cause_count (no_refusal h) ≡ 0
quiet_none h = refl

pub quiet_declare : (name : List ℕ) (writer : Bool) (v : MailView) → cause_count (declare_refusal name writer v) ≡ 0
quiet_declare name writer v =
    quiet_when (is_some (member_place (is_named name) v.hosts)) (why.SameHost name) _ refl
    (quiet_when (nat_le 64 (length v.hosts)) why.TooManyHosts _ refl (quiet_second writer (member_place is_writer v.hosts) v))

-- Notes, one behind another.

-- no note
pub none_counted : (before after : List MailNote) (old now : ℕ) → after ≡ before → now ≡ old → IsCountedIn before after old now
none_counted before after old now same is = record { notes = []; joined = same ∙ sym (append-nil before); count = is }

-- one that tells no fault
pub one_counted : (before after : List MailNote) (made : MailNote) (count : ℕ) → mail_note_faults made ≡ 0 → after ≡ before ++ made ∷ [] → IsCountedIn before after count count
one_counted before after made count quiet is = record { notes = made ∷ []; joined = is; count = ap (λ (n : ℕ). count_if (n == 1) count) (sym quiet) }

-- one that tells one
pub fault_counted : (before after : List MailNote) (made : MailNote) (old now : ℕ) → mail_note_faults made ≡ 1 → after ≡ before ++ made ∷ [] → now ≡ one_more old → IsCountedIn before after old now
fault_counted before after made old now one is more = record { notes = made ∷ []; joined = is; count = more ∙ ap (λ (n : ℕ). count_if (n == 1) old) (sym one) }

-- those of a turn
pub turn_counted : (name : List ℕ) (t : Turn) (before after : List MailNote) (old now : ℕ) → after ≡ before ++ notes_of_turn name t → now ≡ old → IsCountedIn before after old now
turn_counted name t before after old now is same = record { notes = notes_of_turn name t; joined = is; count = same ∙ sym (quiet t) }
  where
    quiet : (t : Turn) → mail_counted old (notes_of_turn name t) ≡ old
    quiet turn.Go = refl
    quiet other = refl

behind_both : (count : ℕ) (a b : List MailNote) → mail_counted count (a ++ b) ≡ mail_counted (mail_counted count a) b
behind_both count [] b = refl
behind_both count (x ∷ a) b = behind_both (count_if (mail_note_faults x == 1) count) a b

-- some, and then others
pub both_counted : (before mid after : List MailNote) (old between now : ℕ) → IsCountedIn before mid old between → IsCountedIn mid after between now → IsCountedIn before after old now
both_counted before mid after old between now a b = record {
  notes = a.notes ++ b.notes;
  joined = b.joined ∙ ap (λ (j : List MailNote). j ++ b.notes) a.joined ∙ append_assoc before a.notes b.notes;
  count = b.count ∙ ap (λ (n : ℕ). mail_counted n b.notes) a.count ∙ sym (behind_both old a.notes b.notes);
}

-- and then none
pub same_counted : (before mid after : List MailNote) (old now : ℕ) → IsCountedIn before mid old now → after ≡ mid → IsCountedIn before after old now
same_counted before mid after old now counted same = subst (λ (j : List MailNote). IsCountedIn before j old now) (sym same) counted

-- behind a journal that was only given room
pub further_counted : (before mid room after : List MailNote) (old between now : ℕ) → IsCountedIn before mid old between → room ≡ mid → IsCountedIn room after between now
    → IsCountedIn before after old now
further_counted before mid room after old between now a same b = both_counted before room after old between now (same_counted before mid room old between a same) b

pub from_counted : (before room after : List MailNote) (old now : ℕ) → room ≡ before → IsCountedIn room after old now → IsCountedIn before after old now
from_counted before room after old now same counted = subst (λ (j : List MailNote). IsCountedIn j after old now) same counted

-- a refusal that comes at once
pub refusal_counted : (name : List ℕ) (first : Option MailRefusal) (cause : MailRefusal) (before after : List MailNote) (count : ℕ) → cause_count first ≡ 0 → first ≡ Some cause
    → after ≡ before ++ note.Refused name cause ∷ [] → IsCountedIn before after count count
refusal_counted name first cause before after count quiet is noted = one_counted before after (note.Refused name cause) count (no_faults first cause quiet is) noted

-- Faults.

-- a cache's call failed, or found no memory
pub failure_counted : (f : CacheFault) (old now : ℕ) → f ≡ cache.Failed → now ≡ count_if (tells_failure f) old → now ≡ one_more old
failure_counted f old now is counted = counted ∙ ap (λ (x : CacheFault). count_if (tells_failure x) old) is

pub unfailed_counted : (f : CacheFault) (old now : ℕ) → f ≡ cache.OutOfMemory → now ≡ count_if (tells_failure f) old → now ≡ old
unfailed_counted f old now is counted = counted ∙ ap (λ (x : CacheFault). count_if (tells_failure x) old) is

-- an operation did
pub media_counted : (f : OperationFault) (line : LineNo) (old now : ℕ) → f ≡ operation.MediaFault line → now ≡ count_if (tells_media_fault f) old → now ≡ one_more old
media_counted f line old now is counted = counted ∙ ap (λ (x : OperationFault). count_if (tells_media_fault x) old) is

pub unmedia_counted : (f : OperationFault) (old now : ℕ) → f ≡ operation.OutOfMemory → now ≡ count_if (tells_media_fault f) old → now ≡ old
unmedia_counted f old now is counted = counted ∙ ap (λ (x : OperationFault). count_if (tells_media_fault x) old) is

-- Calls that take no media.
module _ (name : List ℕ) (old new : MailView) (count : ℕ) where
  -- a host is declared
  pub declared_counted : (writer : Bool) (r : Result (Unit {0}) MailFault) → IfMailAnswered r (λ answered. MailDeclares name writer answered old new) → (IsErrOf r fault.OutOfMemory → new ≡ old)
      → IsCountedIn old.journal new.journal count count
  declared_counted writer (Ok x) said kept = one_counted old.journal new.journal (declared_note name writer) count (quiet writer) (ap (λ (v : MailView). v.journal) said.1)
    where
      quiet : (w : Bool) → mail_note_faults (declared_note name w) ≡ 0
      quiet true = refl
      quiet false = refl
  declared_counted writer (Err (fault.Refused cause)) said kept =
      refusal_counted name (declare_refusal name writer old) cause old.journal new.journal count (quiet_declare name writer old) said.0 (ap (λ (v : MailView). v.journal) said.1)
  declared_counted writer (Err fault.OutOfMemory) said kept = none_counted old.journal new.journal count count (ap (λ (v : MailView). v.journal) (kept refl)) refl

  -- one is changed
  pub changed_counted : (cause : MailHost → Option MailRefusal) → ((h : MailHost) → cause_count (cause h) ≡ 0) → (change : MailHost → MailHost) (made : MailNote) → mail_note_faults made ≡ 0
      → (r : Result (Unit {0}) MailFault)
      → IfMailAnswered r (λ answered. MailRefuses name (refusal_named name cause old) old new answered (ChangesHost name change made old new)) → (IsErrOf r fault.OutOfMemory → new ≡ old)
      → IsCountedIn old.journal new.journal count count
  changed_counted cause quiet change made quiet_made (Ok x) said kept =
      let c : ChangesHost name change made old new = said.1 in
      one_counted old.journal new.journal made count quiet_made (ap (λ (v : MailView). v.journal) c.is)
  changed_counted cause quiet change made quiet_made (Err (fault.Refused why)) said kept =
      refusal_counted name (refusal_named name cause old) why old.journal new.journal count (quiet_named name cause quiet old) said.0 (ap (λ (v : MailView). v.journal) said.1)
  changed_counted cause quiet change made quiet_made (Err fault.OutOfMemory) said kept = none_counted old.journal new.journal count count (ap (λ (v : MailView). v.journal) (kept refl)) refl

  -- a task begins
  pub begun_counted : (ask : Ask) (r : Result (Unit {0}) MailFault) → IfMailAnswered r (λ answered. MailBegins name ask answered old new) → (IsErrOf r fault.OutOfMemory → new ≡ old)
      → IsCountedIn old.journal new.journal count count
  begun_counted ask r said kept = changed_counted (begin_refusal ask) (quiet_begin ask) (λ h. record h { task = Some (new_task ask (capacity_in old)) }) (note.Start name ask) refl r said kept
