-- Operations of a host's task, over a media that tells its image, are operations of the machine; and what they count.
use Rattle.std.proofs.Common.{◌≡◌, ◌+◌, ◌≤◌, ◌⊎◌, ℕ, inl, inr, List, [], ◌∷◌, ◌++◌, refl, sym, ap, ap₂, subst, ◌∙◌, arith}
use Prim.Native.Nat.{suc}
use Rattle.std.specs.Prelude.{◌==◌, nat_lt, Bool, true, false, cond, not, is_some, slice_get, Option, Some, None}
use Rattle.std.proofs.lemmas.Bool.Decides.{nat_tests}
use Rattle.fam_base.specs.Image.{Image}
use Rattle.fam_base.specs.declared.entry.Entry.{Entry}
use Rattle.fam_machine.specs.Caches.{Cache}
use Rattle.fam_machine.specs.Operations.{machine, operated}
use Rattle.fam_media.specs.Causes.{Rose}
use Rattle.fam_media.specs.States.{MediaChange, MediaState}
use Rattle.fam_rules.specs.Written.{file_line}
use Rattle.fam_mail.specs.declared.ask.Ask.{Ask}
use Rattle.fam_mail.specs.declared.ask.Ask.TheVariants.{Post, Take}
use Rattle.fam_mail.specs.declared.note.MailNote.{MailNote}
use Rattle.fam_mail.specs.declared.phase.Phase.{Phase}
use Rattle.fam_mail.specs.declared.phase.Phase.TheVariants as at
use Rattle.fam_mail.specs.declared.turn.Turn.{Turn}
use Rattle.fam_mail.specs.declared.turn.Turn.TheVariants as turn
use Rattle.fam_mail.specs.Calls.{HostFinishes, HostOperates, HostRuns, TaskBreaks, TaskServes, goes_on, kept_task, notes_of_turn, rests}
use Rattle.fam_mail.specs.Happens.{AreByWords, HasMailCounted, mail_faults}
use Rattle.fam_mail.specs.Machines.{MailOperation, MailOperations, host_behind, more, none, word_given}
use Rattle.fam_mail.specs.Records.{wrong_word}
use Rattle.fam_mail.specs.Tasks.{MailTask, loaded_gate_turn, ends_mail_task, task_op, record_turn, records_with, next_task, phase_turn, mail_turn, words_with}
use Rattle.fam_mail.specs.World.{MailHost, changed_member}
use Rattle.fam_mail.proofs.Finishing.{changed_twice}
use Rattle.fam_mail.proofs.Members.{changed_here}

-- Whether a task is there behind an operation.

kept_there : (over : Bool) (t : MailTask) → is_some (cond over None (Some t)) ≡ not over
kept_there true t = refl
kept_there false t = refl

-- a host has a task behind an operation that isn't its last
pub task_left : (entry : Entry) (name : List ℕ) (host : MailHost) (t : MailTask) (told : MediaChange) (over : Bool) (next : MailHost) (notes : List MailNote)
    → TaskServes entry name host t told over next notes ⊎ TaskBreaks entry name host t told over next notes
    → is_some next.task ≡ not over
task_left entry name host t told over next notes (inl s) =
    ap (λ (h : MailHost). is_some h.task) s.next_is ∙ kept_there (ends_mail_task (mail_turn s.word t)) (next_task s.word t) ∙ ap not (sym s.over_is)
task_left entry name host t told over next notes (inr b) = ap (λ (h : MailHost). is_some h.task) b.next_is ∙ ap not (sym b.over_is)

-- a host that goes on has its task
pub runs_busy : (lines : ℕ) (entry : Entry) (name : List ℕ) (host : MailHost) (told : MediaState) (count : ℕ) (next : MailHost) (later : MediaState) (notes : List MailNote)
    → HostRuns lines entry name host told count next later notes
    → is_some host.task ≡ true → is_some next.task ≡ true
runs_busy lines entry name host told _ _ _ _ rests busy = busy
runs_busy lines entry name host told _ next later _ (goes_on {mid = mid} {now = now} {notes = notes} {more = last} runs is_told operates) busy =
    task_left entry name mid operates.task (record { old = now; new = later }) false next last operates.how

-- One operation.

-- the machine did it, and the media shows its memory
pub record Operated (entry : Entry) (name : List ℕ) (at : ℕ) (hosts : List MailHost) (image : Image) (shown : Option Image) (next : MailHost) (notes : List MailNote) : Type 0 where
  pub left : Image
  pub shown_is : shown ≡ Some left
  pub does : MailOperation entry name at (record { memory = image; hosts = hosts }) notes (record { memory = left; hosts = changed_member at (λ (h : MailHost). next) hosts })

module _ (entry : Entry) (name : List ℕ) (at : ℕ) (host next : MailHost) (told : MediaChange) (over : Bool) (notes : List MailNote) (operates : HostOperates entry name host told over next notes)
    (hosts : List MailHost) (host_is : slice_get hosts at ≡ Some host) (image : Image) (is : told.old.image ≡ Some image) where
  row_of : TaskServes entry name host operates.task told over next notes ⊎ TaskBreaks entry name host operates.task told over next notes → Operated entry name at hosts image told.new.image next notes
  row_of (inl s) =
      let t : MailTask = operates.task in
      let o = task_op (file_line entry) t in
      let m = machine image host.cache in
      let word : s.word ≡ word_given o m = s.word_is image is in
      let next_is : next ≡ host_behind host t (word_given o m) (operated o m).cache =
      s.next_is ∙ ap₂ (λ (w : ℕ) (k : Cache). record host { cache = k; task = kept_task (mail_turn w t) (next_task w t) }) word (s.done image is).cache in
      record {
        left = (operated o m).image;
        shown_is = (s.done image is).image;
        does = record {
          host = host;
          host_is = host_is;
          task = t;
          task_is = operates.task_is;
          how = inl (record {
            notes_are = s.notes_are ∙ ap (λ (w : ℕ). notes_of_turn name (mail_turn w t)) word;
            left = ap (λ (h : MailHost). record { memory = (operated o m).image; hosts = changed_member at (λ (x : MailHost). h) hosts }) next_is;
          });
        };
      }
  row_of (inr b) =
      let f = b.failed image is in
      record {
        left = f.left.image;
        shown_is = f.is.image;
        does = record {
          host = host;
          host_is = host_is;
          task = operates.task;
          task_is = operates.task_is;
          how = inr (record {
            line = b.line;
            rest = f.left;
            fails = f.fails;
            notes_are = b.notes_are;
            left = ap (λ (h : MailHost). record { memory = f.left.image; hosts = changed_member at (λ (x : MailHost). h) hosts })
                (b.next_is ∙ ap (λ (k : Cache). record host { cache = k; task = None }) f.is.cache);
          });
        };
      }

  -- it did it
  pub row : Operated entry name at hosts image told.new.image next notes
  row = row_of operates.how

-- Some of them.

-- the machine did so many, from the host that stands in its own place
pub record Along (entry : Entry) (name : List ℕ) (at : ℕ) (hosts : List MailHost) (host : MailHost) (image : Image) (shown : Option Image) (next : MailHost) (count : ℕ) (notes : List MailNote)
    : Type 0 where
  pub left : Image
  pub shown_is : shown ≡ Some left
  pub does : MailOperations entry name at (record { memory = image; hosts = changed_member at (λ (h : MailHost). host) hosts }) count notes
      (record { memory = left; hosts = changed_member at (λ (h : MailHost). next) hosts })

module _ (lines : ℕ) (entry : Entry) (name : List ℕ) (at : ℕ) (host : MailHost) (told : MediaState) (hosts : List MailHost) (host_is : slice_get hosts at ≡ Some host) (image : Image)
    (is : told.image ≡ Some image) where
  -- one more
  pub along_more : (mid next : MailHost) (now later : MediaState) (over : Bool) (count : ℕ) (notes last : List MailNote) → Along entry name at hosts host image now.image mid count notes
      → HostOperates entry name mid (record { old = now; new = later }) over next last → Along entry name at hosts host image later.image next (suc count) (notes ++ last)
  along_more mid next now later over count notes last before operates =
      let one = row entry name at mid next (record { old = now; new = later }) over last operates (changed_member at (λ (h : MailHost). mid) hosts)
      (changed_here at (λ (h : MailHost). mid) hosts host host_is) before.left before.shown_is in
      record {
        left = one.left;
        shown_is = one.shown_is;
        does = more before.does (subst (λ (hs : List MailHost). MailOperation entry name at (record { memory = before.left; hosts = changed_member at (λ (h : MailHost). mid) hosts }) last
            (record { memory = one.left; hosts = hs })) (changed_twice at mid next hosts) one.does);
      }

  -- so many of them
  pub along : (count : ℕ) (next : MailHost) (later : MediaState) (notes : List MailNote) → HostRuns lines entry name host told count next later notes
      → Along entry name at hosts host image later.image next count notes
  along _ _ _ _ rests = record { left = image; shown_is = is; does = none }
  along _ next later _ (goes_on {count = count} {mid = mid} {now = now} {notes = notes} {more = last} runs is_told operates) =
      along_more mid next now later false count notes last (along count mid now notes runs) operates

-- What is counted.

-- notes behind others tell the faults of both
pub both_faults : (a b : List MailNote) → mail_faults (a ++ b) ≡ mail_faults a + mail_faults b
both_faults [] b = omega arith
both_faults (x ∷ a) b = omega (arith, both_faults a b)

quiet_turn : (name : List ℕ) (t : Turn) → mail_faults (notes_of_turn name t) ≡ 0
quiet_turn name turn.Go = refl
quiet_turn name other = refl

-- a fault that is noted was counted
pub rose_counted : (before now : ℕ) (notes : List MailNote) → mail_faults notes ≡ 1 → Rose before now → HasMailCounted before now notes
rose_counted before now notes one (inl less) = omega (arith, less, one)
rose_counted before now notes one (inr last) = omega (arith, last, one)

-- and where none is noted none has to be
pub quiet_counted : (before now : ℕ) (notes : List MailNote) → mail_faults notes ≡ 0 → before ≤ now → HasMailCounted before now notes
quiet_counted before now notes quiet later = omega (arith, quiet, later)

pub operated_counted : (entry : Entry) (name : List ℕ) (host : MailHost) (told : MediaChange) (over : Bool) (next : MailHost) (notes : List MailNote)
    → HostOperates entry name host told over next notes → HasMailCounted told.old.faults told.new.faults notes
operated_counted entry name host told over next notes operates = by operates.how
  where
    by : TaskServes entry name host operates.task told over next notes ⊎ TaskBreaks entry name host operates.task told over next notes → HasMailCounted told.old.faults told.new.faults notes
    by (inl s) = quiet_counted told.old.faults told.new.faults notes (ap mail_faults s.notes_are ∙ quiet_turn name (mail_turn s.word operates.task)) operates.later
    by (inr b) = rose_counted told.old.faults told.new.faults notes (ap mail_faults b.notes_are) b.rose

-- operations that don't end the task note no fault
quiet_going : (entry : Entry) (name : List ℕ) (host : MailHost) (told : MediaChange) (next : MailHost) (notes : List MailNote) → HostOperates entry name host told false next notes
    → mail_faults notes ≡ 0
quiet_going entry name host told next notes operates = by operates.how
  where
    by : TaskServes entry name host operates.task told false next notes ⊎ TaskBreaks entry name host operates.task told false next notes → mail_faults notes ≡ 0
    by (inl s) = ap mail_faults s.notes_are ∙ quiet_turn name (mail_turn s.word operates.task)
    by (inr b) = absurd (let e = b.over_is in cc)

-- nor do many of them
pub quiet_runs : (lines : ℕ) (entry : Entry) (name : List ℕ) (host : MailHost) (told : MediaState) (count : ℕ) (next : MailHost) (later : MediaState) (notes : List MailNote)
    → HostRuns lines entry name host told count next later notes
    → (mail_faults notes ≡ 0) × (told.faults ≤ later.faults)
quiet_runs lines entry name host told _ _ _ _ rests = (refl, omega arith)
quiet_runs lines entry name host told _ next later _ (goes_on {count = count} {mid = mid} {now = now} {notes = notes} {more = last} runs is_told operates) =
    let before = quiet_runs lines entry name host told count mid now notes runs in
    let quiet = quiet_going entry name mid (record { old = now; new = later }) next last operates in
    (both_faults notes last ∙ (omega (arith, before.0, quiet)), omega (arith, before.1, operates.later))

-- so a task that is finished notes at most one
pub finished_counted : (lines : ℕ) (entry : Entry) (name : List ℕ) (host : MailHost) (told : MediaChange) (next : MailHost) (notes : List MailNote)
    → HostFinishes lines entry name host told next notes → HasMailCounted told.old.faults told.new.faults notes
finished_counted lines entry name host told next notes f =
    let before = quiet_runs lines entry name host told.old f.count f.mid f.now f.first f.runs in
    let counted = operated_counted entry name f.mid (record { old = f.now; new = told.new }) true next f.last f.ends in
    let all : mail_faults notes ≡ mail_faults f.first + mail_faults f.last = ap mail_faults f.joined ∙ both_faults f.first f.last in
    omega (arith, all, before.0, before.1, counted)

-- What a task finds to be none.

both_words : (a b : List MailNote) → AreByWords a → AreByWords b → AreByWords (a ++ b)
both_words [] b first second = second
both_words (x ∷ a) b first second = (first.0, both_words a b first.1 second)

gate_words : (name : List ℕ) (ask : Ask) (capacity gate : ℕ) → AreByWords (notes_of_turn name (loaded_gate_turn ask capacity gate))
gate_words name (Post numbers) capacity gate = by (nat_lt capacity gate) refl
  where
    room : (b : Bool) → AreByWords (notes_of_turn name (cond b (turn.Full gate) (turn.Found gate)))
    room true = (tt, (tt, tt))
    room false = (tt, tt)

    by : (b : Bool) → nat_lt capacity gate ≡ b → AreByWords (notes_of_turn name (cond b (turn.BadBox gate capacity) (cond (gate == capacity) (turn.Full gate) (turn.Found gate))))
    by true e = (grind (arith, nat_tests), tt)
    by false e = room (gate == capacity)
gate_words name Take capacity gate = by (nat_lt capacity gate) refl
  where
    by : (b : Bool) → nat_lt capacity gate ≡ b → AreByWords (notes_of_turn name (cond b (turn.BadBox gate capacity) turn.Go))
    by true e = (grind (arith, nat_tests), tt)
    by false e = tt

last_words : (name : List ℕ) (b : Bool) (records : List (List ℕ)) → AreByWords (notes_of_turn name (cond b (turn.Taken records) turn.Go))
last_words name true records = (tt, tt)
last_words name false records = tt

record_words : (name : List ℕ) (wrong : Option ℕ) (i word : ℕ) (t : MailTask) → wrong_word (words_with 7 word t) ≡ wrong → AreByWords (notes_of_turn name (record_turn wrong i word t))
record_words name (Some k) i word t e = ((words_with 7 word t, e), tt)
record_words name None i word t e = last_words name (i + 1 == t.gate) (records_with word t)

phase_words : (name : List ℕ) (p : Phase) (word : ℕ) (t : MailTask) → AreByWords (notes_of_turn name (phase_turn p word t))
phase_words name at.DropGate word t = (tt, tt)
phase_words name at.LoadGate word t = gate_words name t.ask t.capacity word
phase_words name at.FenceGate word t = (tt, tt)
phase_words name at.Count word t = last_words name (t.gate == 0) []
phase_words name (at.LoadRecord i k) word t = by (k == 7)
  where
    by : (b : Bool) → AreByWords (notes_of_turn name (cond b (record_turn (wrong_word (words_with 7 word t)) i word t) turn.Go))
    by true = record_words name (wrong_word (words_with 7 word t)) i word t refl
    by false = tt
phase_words name other word t = tt

pub operated_words : (entry : Entry) (name : List ℕ) (host : MailHost) (told : MediaChange) (over : Bool) (next : MailHost) (notes : List MailNote)
    → HostOperates entry name host told over next notes → AreByWords notes
operated_words entry name host told over next notes operates = by operates.how
  where
    by : TaskServes entry name host operates.task told over next notes ⊎ TaskBreaks entry name host operates.task told over next notes → AreByWords notes
    by (inl s) = subst AreByWords (sym s.notes_are) (phase_words name operates.task.phase s.word operates.task)
    by (inr b) = subst AreByWords (sym b.notes_are) (tt, tt)

-- many of them find what is none by its words
pub runs_words : (lines : ℕ) (entry : Entry) (name : List ℕ) (host : MailHost) (told : MediaState) (count : ℕ) (next : MailHost) (later : MediaState) (notes : List MailNote)
    → HostRuns lines entry name host told count next later notes → AreByWords notes
runs_words lines entry name host told _ _ _ _ rests = tt
runs_words lines entry name host told _ next later _ (goes_on {count = count} {mid = mid} {now = now} {notes = notes} {more = last} runs is_told operates) =
    both_words notes last (runs_words lines entry name host told count mid now notes runs) (operated_words entry name mid (record { old = now; new = later }) false next last operates)

-- and so does a task that is finished
pub finished_words : (lines : ℕ) (entry : Entry) (name : List ℕ) (host : MailHost) (told : MediaChange) (next : MailHost) (notes : List MailNote)
    → HostFinishes lines entry name host told next notes → AreByWords notes
finished_words lines entry name host told next notes f =
    subst AreByWords (sym f.joined) (both_words f.first f.last (runs_words lines entry name host told.old f.count f.mid f.now f.first f.runs)
    (operated_words entry name f.mid (record { old = f.now; new = told.new }) true next f.last f.ends))
