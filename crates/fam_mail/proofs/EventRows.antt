-- What a call of a world makes of it, and of a media, is what its event has as its row.
use Rattle.std.proofs.Common.{◌≡◌, ◌+◌, ◌≤◌, ◌⊎◌, ℕ, inl, inr, List, [], ◌∷◌, ◌++◌, refl, sym, ap, subst, ◌∙◌, arith}
use Prim.Native.Nat.{suc}
use Rattle.std.specs.Prelude.{Bool, true, false, cond, nat_le, is_some, slice_get, Option, Some, None, Result, Ok, Err, IsErrOf, option_map}
use Rattle.std.specs.FinMap as finmap
use Rattle.std.proofs.lemmas.List.{append-nil, append_assoc}
use Rattle.std.proofs.lemmas.Option.{same_Some}
use Rattle.fam_base.specs.Image.{Image, with_line}
use Rattle.fam_base.specs.declared.entry.Entry.{Entry}
use Rattle.fam_machine.specs.Caches.{Cache, cell_at}
use Rattle.fam_machine.specs.HostMoves.{Move, failed_move, moved}
use Rattle.fam_machine.specs.Operations.{machine}
use Rattle.fam_media.specs.States.{MediaChange, MediaState}
use Rattle.fam_cache.specs.Effects.{FailsTo}
use Rattle.fam_rules.specs.Written.{file_line}
use Rattle.fam_mail.specs.declared.ask.Ask.{Ask}
use Rattle.fam_mail.specs.declared.note.MailFault.{MailFault}
use Rattle.fam_mail.specs.declared.note.MailFault.TheVariants as fault
use Rattle.fam_mail.specs.declared.note.MailNote.{MailNote}
use Rattle.fam_mail.specs.declared.note.MailNote.TheVariants as note
use Rattle.fam_mail.specs.declared.note.MailRefusal.{MailRefusal}
use Rattle.fam_mail.specs.declared.note.MailRefusal.TheVariants as why
use Rattle.fam_mail.specs.Calls.{MailBegins, ChangesHost, CountEnds, MailDeclares, MoveFailsAt, FinishEnds, Finishes, HostBecomes, HostFinishes, HostMoves, HostStays, IsTurnedDown, MailHalts, IfMailAnswered, MoveDoneAt, MovesLine, MailRefuses, Stays, MailStops, begin_refusal, capacity_in, declare_refusal, host_at, no_task_refusal, file_line_refusal, no_refusal, refusal_named, named_host_refusal, second_writer}
use Rattle.fam_mail.specs.Follows.{BeginsPart, MailByRefusal, CompletesTask, BeginsAndDoes, DoesSteps, IsTaskBegun, IsDeclared, IsHostGiven, IsMoveCut, IsMoved, IsNothing, IsUnfinished, Moves, OfNamedHost, world_of}
use Rattle.fam_mail.specs.Happens.{AreByWords, MailAdds, HasMailCounted, IsByWords, SaysBy, mail_cause_faults, mail_faults, mail_outcome}
use Rattle.fam_mail.specs.Machines.{MailMachines, MailOperations, has_task_at, has_own_task, none}
use Rattle.fam_mail.specs.Tasks.{new_task}
use Rattle.fam_mail.specs.World.{MailHost, MailView, changed_member, member_place, is_named, is_writer, mail_noted}
use Rattle.fam_mail.proofs.Calling.{has_task, put_own}
use Rattle.fam_mail.proofs.Counting.{cause_count, no_faults, quiet_begin, quiet_declare, quiet_idle, quiet_line, quiet_named, quiet_none}
use Rattle.fam_mail.proofs.Members.{changed_here, index_changed}
use Rattle.fam_mail.proofs.Outcomes.{changed_alike}
use Rattle.fam_mail.proofs.Rows.{Along, along, along_more, finished_counted, finished_words, quiet_counted, quiet_runs, rose_counted, runs_busy, runs_words, task_left}

-- Refusals.

-- the machine of a world, over an image
abbrev pub machines_of : Image → MailView → MailMachines
machines_of image v = record { memory = image; hosts = v.hosts }

pub by_none : (name : List ℕ) (first : Option MailRefusal) (old : MailMachines) (notes : List MailNote) (new : MailMachines) (acts : Type 0) → first ≡ None → acts
    → MailByRefusal name first old notes new acts
by_none name first old notes new acts is x = subst (λ (o : Option MailRefusal). MailByRefusal name o old notes new acts) (sym is) x

pub by_some : (name : List ℕ) (first : Option MailRefusal) (cause : MailRefusal) (old : MailMachines) (acts : Type 0) → first ≡ Some cause
    → MailByRefusal name first old (note.Refused name cause ∷ []) old acts
by_some name first cause old acts is = subst (λ (o : Option MailRefusal). MailByRefusal name o old (note.Refused name cause ∷ []) old acts) (sym is) (refl, refl)

-- no refusal looks at the journal
same_second : (writer : Bool) (o : Option ℕ) (v : MailView) (m : Image) → second_writer writer o (world_of v.entry (machines_of m v)) ≡ second_writer writer o v
same_second false o v m = refl
same_second true None v m = refl
same_second true (Some at) v m = refl

-- whether a host may be declared is told by the machine alone
pub same_declare : (name : List ℕ) (writer : Bool) (v : MailView) (m : Image) → declare_refusal name writer (world_of v.entry (machines_of m v)) ≡ declare_refusal name writer v
same_declare name writer v m =
    ap (λ (o : Option MailRefusal). cond (is_some (member_place (is_named name) v.hosts)) (Some (why.SameHost name))
    (cond (nat_le 64 (Rattle.std.proofs.Common.length v.hosts)) (Some why.TooManyHosts) o)) (same_second writer (member_place is_writer v.hosts) v m)

same_host : (o : Option ℕ) (v : MailView) (m : Image) → host_at o (world_of v.entry (machines_of m v)) ≡ host_at o v
same_host None v m = refl
same_host (Some at) v m = refl

-- so is why a call for a host is refused
pub same_named : (name : List ℕ) (cause : MailHost → Option MailRefusal) (v : MailView) (m : Image) → refusal_named name cause (world_of v.entry (machines_of m v)) ≡ refusal_named name cause v
same_named name cause v m = ap (named_host_refusal cause) (same_host (member_place (is_named name) v.hosts) v m)

-- a call that is refused at once
module _ (name : List ℕ) (told : MediaChange) (old new : MailView) (same : told.new ≡ told.old) where
  pub turned_down : (first : Option MailRefusal) (here : MailMachines → Option MailRefusal) (acts : MailMachines → List MailNote → MailMachines → Type 0) (cause : MailRefusal)
      → ((m : Image) → here (machines_of m old) ≡ first) → cause_count first ≡ 0
      → first ≡ Some cause → new ≡ mail_noted (note.Refused name cause) old → MailAdds (λ o notes n. MailByRefusal name (here o) o notes n (acts o notes n)) told old new
  turned_down first here acts cause here_is quiet is noted_is =
      let none : mail_cause_faults cause ≡ 0 = no_faults first cause quiet is in
      let count : mail_faults (note.Refused name cause ∷ []) ≡ 0 = omega (arith, none) in
      let later : told.old.faults ≤ told.new.faults = omega (arith, ap (λ (s : MediaState). s.faults) same) in
      record {
        notes = note.Refused name cause ∷ [];
        entry_is = ap (λ (v : MailView). v.entry) noted_is;
        joined = ap (λ (v : MailView). v.journal) noted_is;
        counted = quiet_counted told.old.faults told.new.faults (note.Refused name cause ∷ []) count later;
        by_words = (tt, tt);
        leads = λ image shown. record {
          left = machines_of image old;
          does = by_some name (here (machines_of image old)) cause (machines_of image old) (acts (machines_of image old) (note.Refused name cause ∷ []) (machines_of image old)) (here_is image ∙ is);
          shown_is = ap (λ (s : MediaState). s.image) same ∙ shown;
          hosts_are = ap (λ (v : MailView). v.hosts) noted_is;
        };
      }

  -- or for which no memory was left
  pub undone : new ≡ old → MailAdds IsNothing told old new
  undone is =
      let later : told.old.faults ≤ told.new.faults = omega (arith, ap (λ (s : MediaState). s.faults) same) in
      record {
        notes = [];
        entry_is = ap (λ (v : MailView). v.entry) is;
        joined = ap (λ (v : MailView). v.journal) is ∙ sym (append-nil old.journal);
        counted = quiet_counted told.old.faults told.new.faults [] refl later;
        by_words = tt;
        leads = λ image shown. record {
          left = machines_of image old;
          does = (refl, refl);
          shown_is = ap (λ (s : MediaState). s.image) same ∙ shown;
          hosts_are = ap (λ (v : MailView). v.hosts) is;
        };
      }

  -- a call without media that makes one note, which tells no fault
  pub made_one : (P : MailMachines → List MailNote → MailMachines → Type 0) (made : MailNote) (hosts : List MailHost) → mail_faults (made ∷ []) ≡ 0 → IsByWords made
      → new ≡ mail_noted made (record old { hosts = hosts }) → ((image : Image) → P (machines_of image old) (made ∷ []) (record { memory = image; hosts = hosts })) → MailAdds P told old new
  made_one P made hosts quiet words is does =
      let later : told.old.faults ≤ told.new.faults = omega (arith, ap (λ (s : MediaState). s.faults) same) in
      record {
        notes = made ∷ [];
        entry_is = ap (λ (v : MailView). v.entry) is;
        joined = ap (λ (v : MailView). v.journal) is;
        counted = quiet_counted told.old.faults told.new.faults (made ∷ []) quiet later;
        by_words = (words, tt);
        leads = λ image shown. record {
          left = record { memory = image; hosts = hosts };
          does = does image;
          shown_is = ap (λ (s : MediaState). s.image) same
              ∙ shown;
          hosts_are = ap (λ (v : MailView). v.hosts) is;
        };
      }

  -- Calls that take no media.

  -- a host is declared
  pub declared_says : (writer : Bool) (r : Result (Unit {0}) MailFault) → IfMailAnswered r (λ answered. MailDeclares name writer answered old new) → (IsErrOf r fault.OutOfMemory → new ≡ old)
      → SaysBy (λ o notes n. MailByRefusal name (declare_refusal name writer (world_of old.entry o)) o notes n (IsDeclared name writer o notes n)) IsNothing told old new (mail_outcome r)
  declared_says writer (Ok x) said kept =
      made_one (λ o notes n. MailByRefusal name (declare_refusal name writer (world_of old.entry o)) o notes n (IsDeclared name writer o notes n))
      (Rattle.fam_mail.specs.Calls.declared_note name writer) (old.hosts ++ Rattle.fam_mail.specs.World.new_mail_host name writer ∷ [])
      (quiet_host writer) (host_words writer) said.1
      (λ image. by_none name (declare_refusal name writer (world_of old.entry (machines_of image old))) (machines_of image old) _ _ _ (same_declare name writer old image ∙ said.0)
      (record { notes_are = refl; left = refl }))
    where
      host_words : (w : Bool) → IsByWords (Rattle.fam_mail.specs.Calls.declared_note name w)
      host_words true = tt
      host_words false = tt

      quiet_host : (w : Bool) → mail_faults (Rattle.fam_mail.specs.Calls.declared_note name w ∷ []) ≡ 0
      quiet_host true = refl
      quiet_host false = refl
  declared_says writer (Err (fault.Refused cause)) said kept =
      turned_down (declare_refusal name writer old) (λ o. declare_refusal name writer (world_of old.entry o)) (IsDeclared name writer) cause (same_declare name writer old)
      (quiet_declare name writer old) said.0 said.1
  declared_says writer (Err fault.OutOfMemory) said kept = undone (kept refl)

  -- one host is changed
  pub changes_says : (cause : MailHost → Option MailRefusal) → ((h : MailHost) → cause_count (cause h) ≡ 0) → (change : MailHost → MailHost) (made : MailNote) → mail_faults (made ∷ []) ≡ 0
      → IsByWords made → (r : Result (Unit {0}) MailFault)
      → IfMailAnswered r (λ answered. MailRefuses name (refusal_named name cause old) old new answered (ChangesHost name change made old new)) → (IsErrOf r fault.OutOfMemory → new ≡ old)
      → SaysBy (λ o notes n. MailByRefusal name (refusal_named name cause (world_of old.entry o)) o notes n
      (OfNamedHost name o (λ at host. IsHostGiven made at (change host) o notes n))) IsNothing told old new (mail_outcome r)
  changes_says cause quiet change made quiet_made words (Ok x) said kept =
      let c : ChangesHost name change made old new = said.1 in
      made_one (λ o notes n. MailByRefusal name (refusal_named name cause (world_of old.entry o)) o notes n (OfNamedHost name o (λ at host. IsHostGiven made at (change host) o notes n))) made
      (changed_member c.at change old.hosts) quiet_made words c.is
      (λ image. by_none name (refusal_named name cause (world_of old.entry (machines_of image old))) (machines_of image old) (made ∷ [])
      (record { memory = image; hosts = changed_member c.at change old.hosts })
      (OfNamedHost name (machines_of image old) (λ at host. IsHostGiven made at (change host) (machines_of image old) (made ∷ [])
      (record { memory = image; hosts = changed_member c.at change old.hosts }))) (same_named name cause old image ∙ said.0)
      (record {
        at = c.at;
        host = c.host;
        number = c.number;
        host_is = c.host_is;
        does = record
            { notes_are = refl; left = ap (λ (hs : List MailHost). record { memory = image; hosts = hs }) (changed_alike c.at change c.host old.hosts c.host_is) };
      }))
  changes_says cause quiet change made quiet_made words (Err (fault.Refused why)) said kept =
      turned_down (refusal_named name cause old) (λ o. refusal_named name cause (world_of old.entry o)) (λ o notes n. OfNamedHost name o (λ at host. IsHostGiven made at (change host) o notes n))
      why (same_named name cause old) (quiet_named name cause quiet old) said.0 said.1
  changes_says cause quiet change made quiet_made words (Err fault.OutOfMemory) said kept = undone (kept refl)

  -- a task begins
  pub begins_says : (ask : Ask) (r : Result (Unit {0}) MailFault) → IfMailAnswered r (λ answered. MailBegins name ask answered old new) → (IsErrOf r fault.OutOfMemory → new ≡ old)
      → SaysBy (λ o notes n. MailByRefusal name (refusal_named name (begin_refusal ask) (world_of old.entry o)) o notes n
      (IsTaskBegun old.entry name ask o notes n)) IsNothing told old new (mail_outcome r)
  begins_says ask r said kept = changes_says (begin_refusal ask) (quiet_begin ask) (λ h. record h { task = Some (new_task ask (capacity_in old)) }) (note.Start name ask) refl tt r said kept

  -- a task is dropped
  pub stops_says : (r : Result (Unit {0}) MailFault) → IfMailAnswered r (λ answered. MailStops name answered old new) → (IsErrOf r fault.OutOfMemory → new ≡ old)
      → SaysBy (λ o notes n. MailByRefusal name (refusal_named name no_task_refusal (world_of old.entry o)) o notes n
      (OfNamedHost name o (λ at host. IsHostGiven (note.Stop name) at (record host { task = None }) o notes n))) IsNothing told old new
      (mail_outcome r)
  stops_says r said kept = changes_says no_task_refusal quiet_idle (λ h. record h { task = None }) (note.Stop name) refl tt r said kept

  -- a host halts
  pub halts_says : (r : Result (Unit {0}) MailFault) → IfMailAnswered r (λ answered. MailHalts name answered old new) → (IsErrOf r fault.OutOfMemory → new ≡ old)
      → SaysBy (λ o notes n. MailByRefusal name (refusal_named name no_refusal (world_of old.entry o)) o notes n
      (OfNamedHost name o (λ at host. IsHostGiven (note.Halt name) at (record host { cache = finmap.empty; task = None }) o notes n))) IsNothing
      told old new (mail_outcome r)
  halts_says r said kept = changes_says no_refusal quiet_none (λ h. record h { cache = finmap.empty; task = None }) (note.Halt name) refl tt r said kept

-- what is done is one of two things
adds_as : (P Q : MailMachines → List MailNote → MailMachines → Type 0) → ((o : MailMachines) (notes : List MailNote) (n : MailMachines) → P o notes n → Q o notes n)
    → (told : MediaChange) (old new : MailView) → MailAdds P told old new → MailAdds Q told old new
adds_as P Q into told old new adds = record {
  notes = adds.notes;
  entry_is = adds.entry_is;
  joined = adds.joined;
  counted = adds.counted;
  by_words = adds.by_words;
  leads = λ image is.
      let l = adds.leads image is in
      record { left = l.left; does = into (machines_of image old) adds.notes l.left l.does; shown_is = l.shown_is; hosts_are = l.hosts_are };
}

first_part : (Q : MailMachines → List MailNote → MailMachines → Type 0) (told : MediaChange) (old new : MailView) → MailAdds IsNothing told old new
    → MailAdds (λ o notes n. IsNothing o notes n ⊎ Q o notes n) told old new
first_part Q told old new adds = adds_as IsNothing (λ o notes n. IsNothing o notes n ⊎ Q o notes n) (λ o notes n x. inl x) told old new adds

-- Calls that do operations.

-- a call that changes one host
module _ (name : List ℕ) (told : MediaChange) (old new : MailView) (R : MailHost → MailHost → List MailNote → Type 0) (call : HostBecomes name R old new) where
  -- what it does is done of the host of its name
  of_call : (image : Image) (P : ℕ → MailHost → Type 0) → P call.at call.host → OfNamedHost name (machines_of image old) P
  of_call image P does = record { at = call.at; host = call.host; number = call.number; host_is = call.host_is; does = does }

  -- the world gets its notes, and stands for the machine that it leads to
  becomes_adds : (P : MailMachines → List MailNote → MailMachines → Type 0) → HasMailCounted told.old.faults told.new.faults call.notes → AreByWords call.notes
      → ((image : Image) → told.old.image ≡ Some image → (left : Image) × (told.new.image ≡ Some left) × P (machines_of image old) call.notes
      (record { memory = left; hosts = changed_member call.at (λ (h : MailHost). call.next) old.hosts }))
      → MailAdds P told old new
  becomes_adds P counted words does = record {
    notes = call.notes;
    entry_is = ap (λ (v : MailView). v.entry) call.is;
    joined = ap (λ (v : MailView). v.journal) call.is;
    counted = counted;
    by_words = words;
    leads = λ image is.
        let d = does image is in
        record {
          left = record { memory = d.0; hosts = changed_member call.at (λ (h : MailHost). call.next) old.hosts };
          does = d.2;
          shown_is = d.1;
          hosts_are = ap (λ (v : MailView). v.hosts)
              call.is;
        };
  }

  -- the machine behind some operations
  abbrev left_at : Image → MailMachines
  left_at left = record { memory = left; hosts = changed_member call.at (λ (h : MailHost). call.next) old.hosts }

  -- so many were done of its task, which is over or isn't
  operations_add : (P : MailMachines → List MailNote → MailMachines → Type 0) (count : ℕ) (busy : Bool) → HasMailCounted told.old.faults told.new.faults call.notes → AreByWords call.notes
      → ((image : Image) → told.old.image ≡ Some image → Along old.entry name call.at old.hosts call.host image told.new.image call.next count call.notes) → is_some call.next.task ≡ busy
      → ((image left : Image) → MailOperations old.entry name call.at (machines_of image old) count call.notes (left_at left)
      → has_task_at call.at (left_at left) ≡ busy → P (machines_of image old) call.notes (left_at left)) → MailAdds P told old new
  operations_add P count busy counted words all busy_is does =
      becomes_adds P counted words
      (λ image is.
      let a = all image is in (
        a.left,
        a.shown_is,
        does image a.left
            (subst (λ (hs : List MailHost). MailOperations old.entry name call.at (record { memory = image; hosts = hs }) count call.notes (left_at a.left))
            (put_own call.at call.host old.hosts call.host_is) a.does)
            (ap has_own_task (changed_here call.at (λ (h : MailHost). call.next) old.hosts call.host call.host_is) ∙ busy_is),
      ))

module _ (lines : ℕ) (name : List ℕ) (told : MediaChange) (old new : MailView) where
  abbrev finishing : MailHost → MailHost → List MailNote → Type 0
  finishing host next notes = HostFinishes lines old.entry name host told next notes

  abbrev staying : MailHost → MailHost → List MailNote → Type 0
  staying host next notes = HostStays lines old.entry name host told next notes

  -- a host that isn't idle
  found_busy : (at : ℕ) (host : MailHost) → member_place (is_named name) old.hosts ≡ Some at → slice_get old.hosts at ≡ Some host → refusal_named name no_task_refusal old ≡ None
      → is_some host.task ≡ true
  found_busy at host number host_is free =
      has_task host (sym (ap (λ (o : Option ℕ). named_host_refusal no_task_refusal (host_at o old)) number ∙ ap (named_host_refusal no_task_refusal) host_is) ∙ free)

  -- a task that is finished
  finish_adds : (call : Finishes lines name told old new) (P : MailMachines → List MailNote → MailMachines → Type 0)
      → ((image left : Image) → MailOperations old.entry name call.at (machines_of image old) (suc call.does.count) call.notes
      (left_at name told old new finishing call left) → has_task_at call.at (left_at name told old new finishing call left) ≡ false
      → P (machines_of image old) call.notes (left_at name told old new finishing call left))
      → MailAdds P told old new
  finish_adds call P does =
      let f = call.does in
      operations_add name told old new finishing call P (suc f.count) false (finished_counted lines old.entry name call.host told call.next call.notes f)
      (finished_words lines old.entry name call.host told call.next call.notes f)
      (λ image is. subst (Along old.entry name call.at old.hosts call.host image told.new.image call.next (suc f.count)) (sym f.joined)
      (along_more lines old.entry name call.at call.host told.old old.hosts call.host_is image is f.mid call.next f.now told.new true f.count f.first f.last
      (along lines old.entry name call.at call.host told.old old.hosts call.host_is image is f.count f.mid f.now f.first f.runs) f.ends))
      (task_left old.entry name f.mid f.ends.task (record { old = f.now; new = told.new }) true call.next f.last f.ends.how) does

  -- and one that isn't
  stays_adds : (call : Stays lines name told old new) → refusal_named name no_task_refusal old ≡ None → (P : MailMachines → List MailNote → MailMachines → Type 0)
      → ((image left : Image) → MailOperations old.entry name call.at (machines_of image old) call.does.count call.notes
      (left_at name told old new staying call left) → has_task_at call.at (left_at name told old new staying call left) ≡ true
      → P (machines_of image old) call.notes (left_at name told old new staying call left))
      → MailAdds P told old new
  stays_adds call free P does =
      let s = call.does in
      let quiet = quiet_runs lines old.entry name call.host told.old s.count call.next told.new call.notes s.runs in
      operations_add name told old new staying call P s.count true (quiet_counted told.old.faults told.new.faults call.notes quiet.0 quiet.1)
      (runs_words lines old.entry name call.host told.old s.count call.next told.new call.notes s.runs)
      (λ image is. along lines old.entry name call.at call.host told.old old.hosts call.host_is image is s.count call.next told.new call.notes s.runs)
      (runs_busy lines old.entry name call.host told.old s.count call.next told.new call.notes s.runs (found_busy call.at call.host call.number call.host_is free)) does

  -- what it does that isn't refused
  acts_free : (image : Image) (notes : List MailNote) (left : MailMachines) (acts : Type 0) → refusal_named name no_task_refusal old ≡ None → acts
      → MailByRefusal name (refusal_named name no_task_refusal (world_of old.entry (machines_of image old))) (machines_of image old) notes left acts
  acts_free image notes left acts free x =
      by_none name (refusal_named name no_task_refusal (world_of old.entry (machines_of image old))) (machines_of image old) notes left acts (same_named name no_task_refusal old image ∙ free) x

  -- a call for the task of a host that has none
  idle_down : (acts : MailMachines → List MailNote → MailMachines → Type 0) (cause : MailRefusal) → IsTurnedDown name (refusal_named name no_task_refusal old) cause told old new
      → MailAdds (λ o notes n. MailByRefusal name (refusal_named name no_task_refusal (world_of old.entry o)) o notes n (acts o notes n)) told old new
  idle_down acts cause said =
      turned_down name told old new said.same (refusal_named name no_task_refusal old) (λ o. refusal_named name no_task_refusal (world_of old.entry o)) acts cause
      (same_named name no_task_refusal old) (quiet_named name no_task_refusal quiet_idle old) said.first_is said.is

  -- steps
  pub steps_says : (limit : ℕ) (r : Result Bool MailFault) → CountEnds limit lines name told old new r
      → SaysBy (λ o notes n. MailByRefusal name (refusal_named name no_task_refusal (world_of old.entry o)) o notes n (OfNamedHost name o (λ at host. DoesSteps old.entry name at limit o notes n)))
      (λ o notes n. IsNothing o notes n ⊎ OfNamedHost name o (λ at host. IsUnfinished (Some limit) old.entry name at o notes n)) told old new (mail_outcome r)
  steps_says limit (Ok true) said =
      let call : Finishes lines name told old new = said.1 in
      finish_adds call (λ o notes n. MailByRefusal name (refusal_named name no_task_refusal (world_of old.entry o)) o notes n
      (OfNamedHost name o (λ at host. DoesSteps old.entry name at limit o notes n)))
      (λ image left does over. acts_free image call.notes (left_at name told old new finishing call left) _ said.0
      (of_call name told old new finishing call image (λ at host. DoesSteps old.entry name at limit (machines_of image old) call.notes (left_at name told old new finishing call left))
      (record { count = suc call.does.count; does = does; within = omega (arith, said.2); whole = inr over })))
  steps_says limit (Ok false) said =
      let call : Stays lines name told old new = said.1 in
      stays_adds call said.0 (λ o notes n. MailByRefusal name (refusal_named name no_task_refusal (world_of old.entry o)) o notes n
      (OfNamedHost name o (λ at host. DoesSteps old.entry name at limit o notes n)))
      (λ image left does runs. acts_free image call.notes (left_at name told old new staying call left) _ said.0
      (of_call name told old new staying call image (λ at host. DoesSteps old.entry name at limit (machines_of image old) call.notes (left_at name told old new staying call left))
      (record { count = call.does.count; does = does; within = omega (arith, said.2); whole = inl said.2 })))
  steps_says limit (Err (fault.Refused cause)) said = idle_down (λ o notes n. OfNamedHost name o (λ at host. DoesSteps old.entry name at limit o notes n)) cause said
  steps_says limit (Err fault.OutOfMemory) (inl same) =
      first_part (λ o notes n. OfNamedHost name o (λ at host. IsUnfinished (Some limit) old.entry name at o notes n)) told old new (undone name told old new same.1 same.0)
  steps_says limit (Err fault.OutOfMemory) (inr said) =
      let call : Stays lines name told old new = said.1 in
      stays_adds call said.0 (λ o notes n. IsNothing o notes n ⊎ OfNamedHost name o (λ at host. IsUnfinished (Some limit) old.entry name at o notes n))
      (λ image left does runs. inr (of_call name told old new staying call image
      (λ at host. IsUnfinished (Some limit) old.entry name at (machines_of image old) call.notes (left_at name told old new staying call left))
      (record { count = call.does.count; does = does; within = λ most is. omega (arith, said.2, same_Some limit most is); runs = runs })))

  -- all up to the end
  pub finish_says : (r : Result (Unit {0}) MailFault) → FinishEnds lines name told old new r
      → SaysBy (λ o notes n. MailByRefusal name (refusal_named name no_task_refusal (world_of old.entry o)) o notes n (OfNamedHost name o (λ at host. CompletesTask old.entry name at o notes n)))
      (λ o notes n. IsNothing o notes n ⊎ OfNamedHost name o (λ at host. IsUnfinished None old.entry name at o notes n)) told old new (mail_outcome r)
  finish_says (Ok x) said =
      let call : Finishes lines name told old new = said.1 in
      finish_adds call (λ o notes n. MailByRefusal name (refusal_named name no_task_refusal (world_of old.entry o)) o notes n
      (OfNamedHost name o (λ at host. CompletesTask old.entry name at o notes n)))
      (λ image left does over. acts_free image call.notes (left_at name told old new finishing call left) _ said.0
      (of_call name told old new finishing call image (λ at host. CompletesTask old.entry name at (machines_of image old) call.notes (left_at name told old new finishing call left))
      (record { count = suc call.does.count; does = does; over = over })))
  finish_says (Err (fault.Refused cause)) said = idle_down (λ o notes n. OfNamedHost name o (λ at host. CompletesTask old.entry name at o notes n)) cause said
  finish_says (Err fault.OutOfMemory) (inl same) =
      first_part (λ o notes n. OfNamedHost name o (λ at host. IsUnfinished None old.entry name at o notes n)) told old new (undone name told old new same.1 same.0)
  finish_says (Err fault.OutOfMemory) (inr said) =
      let call : Stays lines name told old new = said.1 in
      stays_adds call said.0 (λ o notes n. IsNothing o notes n ⊎ OfNamedHost name o (λ at host. IsUnfinished None old.entry name at o notes n))
      (λ image left does runs. inr (of_call name told old new staying call image
      (λ at host. IsUnfinished None old.entry name at (machines_of image old) call.notes (left_at name told old new staying call left))
      (record { count = call.does.count; does = does; within = λ most is. absurd cc; runs = runs })))

-- Moves of a cache.
module _ (name : List ℕ) (line : ℕ) (move : Move) (told : MediaChange) (old new : MailView) where
  moved_adds : refusal_named name (file_line_refusal line (capacity_in old)) old ≡ None → MoveDoneAt name line move told old new → MailAdds (Moves old.entry name line move) told old new
  moved_adds free call =
      let m = call.does in
      becomes_adds name told old new (HostMoves old.entry line move told) call (Moves old.entry name line move)
      (quiet_counted told.old.faults told.new.faults call.notes (ap mail_faults m.notes_are) m.later) (subst AreByWords (sym m.notes_are) tt)
      (λ image is.
      let here = moved move (file_line old.entry line) (machine image call.host.cache) in
      let done = m.done image is in (
        here.image,
        done.image,
        by_none name (refusal_named name (file_line_refusal line (capacity_in old)) (world_of old.entry (machines_of image old))) (machines_of image old) _ _ _
            (same_named name (file_line_refusal line (capacity_in old)) old image ∙ free)
            (of_call name told old new (HostMoves old.entry line move told) call image _ (inl (record {
              notes_are = m.notes_are;
              left = ap (λ (h : MailHost). record { memory = here.image; hosts = changed_member call.at (λ (x : MailHost). h) old.hosts })
                  (m.next_is ∙ ap (λ (k : Cache). record call.host { cache = k }) done.cache);
            }))),
      ))

  failed_adds : (cause : MailRefusal) → refusal_named name (file_line_refusal line (capacity_in old)) old ≡ None → MoveFailsAt name line move told cause old new
      → MailAdds (Moves old.entry name line move) told old new
  failed_adds cause free call = record {
    notes = note.Refused name cause ∷ [];
    entry_is = ap (λ (v : MailView). v.entry) call.is;
    joined = ap (λ (v : MailView). v.journal) call.is;
    by_words = (tt, tt);
    counted = rose_counted told.old.faults told.new.faults (note.Refused name cause ∷ []) (ap (λ (c : MailRefusal). mail_faults (note.Refused name c ∷ [])) call.cause_is) call.rose;
    leads = λ image is.
        let fails : FailsTo (file_line old.entry line) (λ through memory. failed_move move through memory (cell_at call.host.cache (file_line old.entry line))) image told.new.image = call.failed
        image is in
        let left : Image = with_line (file_line old.entry line) fails.words image in
        record {
          left = record { memory = left; hosts = old.hosts };
          shown_is = fails.written;
          hosts_are = ap (λ (v : MailView). v.hosts) call.is;
          does = by_none name (refusal_named name (file_line_refusal line (capacity_in old)) (world_of old.entry (machines_of image old))) (machines_of image old) _ _ _
              (same_named name (file_line_refusal line (capacity_in old)) old image ∙ free)
              (record {
                at = call.at;
                host = call.host;
                number = call.number;
                host_is = call.host_is;
                does = inr (record {
                  through = fails.through;
                  fits = fails.fits;
                  image = left;
                  fails = ap (option_map (λ (words : List ℕ). with_line (file_line old.entry line) words image)) fails.left;
                  notes_are = ap (λ (c : MailRefusal). note.Refused name c ∷ []) call.cause_is;
                  left = refl;
                });
              });
        };
  }

  -- a cache moves by itself, or the media fails in it
  pub moves_says : (r : Result (Unit {0}) MailFault) → IfMailAnswered r (λ answered. MovesLine name line move told answered old new) → (IsErrOf r fault.OutOfMemory → new ≡ old)
      → (IsErrOf r fault.OutOfMemory → told.new ≡ told.old)
      → SaysBy (Moves old.entry name line move) IsNothing told old new (mail_outcome r)
  moves_says (Ok x) said kept same = moved_adds said.0 said.1
  moves_says (Err (fault.Refused cause)) (inl said) kept same =
      turned_down name told old new said.same (refusal_named name (file_line_refusal line (capacity_in old)) old)
      (λ o. refusal_named name (file_line_refusal line (capacity_in old)) (world_of old.entry o))
      (λ o notes n. OfNamedHost name o (λ at host. IsMoved old.entry at host line move o notes n ⊎ IsMoveCut old.entry name host line move o notes n)) cause
      (same_named name (file_line_refusal line (capacity_in old)) old) (quiet_named name (file_line_refusal line (capacity_in old)) (quiet_line line (capacity_in old)) old) said.first_is said.is
  moves_says (Err (fault.Refused cause)) (inr said) kept same = failed_adds cause said.0 said.1
  moves_says (Err fault.OutOfMemory) said kept same = undone name told old new (same refl) (kept refl)

-- A task that begins and is run to its end.

-- a note that was made before
started_adds : (P Q : MailMachines → List MailNote → MailMachines → Type 0) (made : MailNote) (hosts : List MailHost) (told : MediaChange) (old new : MailView) → mail_faults (made ∷ []) ≡ 0
    → IsByWords made
    → ((image : Image) (notes : List MailNote) (n : MailMachines) → P (record { memory = image; hosts = hosts }) notes n → Q (machines_of image old) (made ∷ notes) n)
    → MailAdds P told (record { entry = old.entry; hosts = hosts; journal = old.journal ++ made ∷ [] }) new → MailAdds Q told old new
started_adds P Q made hosts told old new quiet words into adds = record {
  by_words = (words, adds.by_words);
  notes = made ∷ adds.notes;
  entry_is = adds.entry_is;
  joined = adds.joined ∙ append_assoc old.journal (made ∷ []) adds.notes;
  counted =
      let counted : HasMailCounted told.old.faults told.new.faults adds.notes = adds.counted in
      omega (arith, counted, quiet);
  leads = λ image is.
      let l = adds.leads image is in
      record { left = l.left; does = into image adds.notes l.left l.does; shown_is = l.shown_is; hosts_are = l.hosts_are };
}

unfinished_none : (entry : Entry) (name : List ℕ) (at : ℕ) (o : MailMachines) (notes : List MailNote) (n : MailMachines) → has_task_at at o ≡ true → IsNothing o notes n
    → IsUnfinished None entry name at o notes n
unfinished_none entry name at o notes n busy nothing = record {
  count = 0;
  does = subst (λ (ns : List MailNote). MailOperations entry name at o 0 ns n) (sym nothing.0) (subst (λ (m : MailMachines). MailOperations entry name at o 0 [] m) (sym nothing.1) none);
  within = λ most is. absurd cc;
  runs = ap (λ (m : MailMachines). has_task_at at m) nothing.1 ∙ busy;
}

module _ (lines : ℕ) (name : List ℕ) (ask : Ask) (told : MediaChange) (old mid new : MailView)
    (c : ChangesHost name (λ h. record h { task = Some (new_task ask (capacity_in old)) }) (note.Start name ask) old mid) (free : refusal_named name (begin_refusal ask) old ≡ None) where
  abbrev begun : MailView
  begun = record {
    entry = old.entry;
    hosts = changed_member c.at (λ (h : MailHost). record h { task = Some (new_task ask (capacity_in old)) }) old.hosts;
    journal = old.journal ++ note.Start name
        ask ∷ [];
  }

  begun_number : member_place (is_named name) begun.hosts ≡ Some c.at
  begun_number = index_changed (is_named name) (λ (h : MailHost). record h { task = Some (new_task ask (capacity_in old)) }) (λ h. refl) 0 c.at old.hosts ∙ c.number

  begun_host : slice_get begun.hosts c.at ≡ Some (record c.host { task = Some (new_task ask (capacity_in old)) })
  begun_host = changed_here c.at (λ (h : MailHost). record h { task = Some (new_task ask (capacity_in old)) }) old.hosts c.host c.host_is

  begun_free : refusal_named name no_task_refusal begun ≡ None
  begun_free = ap (λ (o : Option ℕ). named_host_refusal no_task_refusal (host_at o begun)) begun_number ∙ ap (named_host_refusal no_task_refusal) begun_host

  begun_busy : (image : Image) → has_task_at c.at (machines_of image begun) ≡ true
  begun_busy image = ap has_own_task begun_host

  continues : (P : ℕ → MailMachines → List MailNote → MailMachines → Type 0) (image : Image) (notes : List MailNote) (n : MailMachines) → P c.at (machines_of image begun) notes n
      → BeginsAndDoes P old.entry name ask (machines_of image old) (note.Start name ask ∷ notes) n
  continues P image notes n does = record {
    mid = machines_of image begun;
    first = note.Start name ask ∷ [];
    rest = notes;
    begun = record {
      at = c.at;
      host = c.host;
      number = c.number;
      host_is = c.host_is;
      does = record {
        notes_are = refl;
        left = ap (λ (hs : List MailHost). record { memory = image; hosts = hs })
            (changed_alike c.at (λ (h : MailHost). record h { task = Some (new_task ask (capacity_in old)) }) c.host old.hosts c.host_is);
      };
    };
    does = does;
    joined = refl;
  }

  goes_whole : (r : Result (Unit {0}) MailFault) → FinishEnds lines name told begun new r
      → SaysBy (λ o notes n. MailByRefusal name (refusal_named name (begin_refusal ask) (world_of old.entry o)) o notes n (BeginsAndDoes (CompletesTask old.entry name) old.entry name ask o notes n))
      (λ o notes n. IsNothing o notes n ⊎ BeginsPart old.entry name ask o notes n) told old new (mail_outcome r)
  goes_whole (Ok x) said =
      let call : Finishes lines name told begun new = said.1 in
      let at_is : call.at ≡ c.at = same_Some call.at c.at (sym call.number ∙ begun_number) in
      started_adds (λ o notes n. CompletesTask old.entry name c.at o notes n)
      (λ o notes n. MailByRefusal name (refusal_named name (begin_refusal ask) (world_of old.entry o)) o notes n (BeginsAndDoes (CompletesTask old.entry name) old.entry name ask o notes n))
      (note.Start name ask) begun.hosts told old new refl tt
      (λ image notes n does. by_none name (refusal_named name (begin_refusal ask) (world_of old.entry (machines_of image old))) (machines_of image old) _ _ _
      (same_named name (begin_refusal ask) old image ∙ free) (continues (CompletesTask old.entry name) image notes n does))
      (finish_adds lines name told begun new call (λ o notes n. CompletesTask old.entry name c.at o notes n)
      (λ image left does over. subst (λ (at : ℕ). CompletesTask old.entry name at (machines_of image begun) call.notes
      (left_at name told begun new (finishing lines name told begun new) call left)) at_is
      (record { count = suc call.does.count; does = does; over = over })))
  goes_whole (Err (fault.Refused cause)) said = absurd (let no = begun_free in let yes = said.first_is in cc)
  goes_whole (Err fault.OutOfMemory) (inl same) =
      started_adds IsNothing (λ o notes n. IsNothing o notes n ⊎ BeginsPart old.entry name ask o notes n) (note.Start name ask) begun.hosts told old new refl tt
      (λ image notes n nothing. inr (
        same_named name (begin_refusal ask) old image
            ∙ free,
        continues (IsUnfinished None old.entry name) image notes n (unfinished_none old.entry name c.at (machines_of image begun) notes n (begun_busy image) nothing),
      ))
      (undone name told begun new same.1 same.0)
  goes_whole (Err fault.OutOfMemory) (inr said) =
      let call : Stays lines name told begun new = said.1 in
      let at_is : call.at ≡ c.at = same_Some call.at c.at (sym call.number ∙ begun_number) in
      started_adds (λ o notes n. IsUnfinished None old.entry name c.at o notes n) (λ o notes n. IsNothing o notes n ⊎ BeginsPart old.entry name ask o notes n) (note.Start name ask) begun.hosts
      told old new refl tt
      (λ image notes n does. inr (same_named name (begin_refusal ask) old image ∙ free, continues (IsUnfinished None old.entry name) image notes n does))
      (stays_adds lines name told begun new call said.0 (λ o notes n. IsUnfinished None old.entry name c.at o notes n)
      (λ image left does runs. subst (λ (at : ℕ). IsUnfinished None old.entry name at (machines_of image begun) call.notes
      (left_at name told begun new (staying lines name told begun new) call left)) at_is
      (record { count = call.does.count; does = does; within = λ most is. absurd cc; runs = runs })))

  -- the task that has begun is run to its end, or goes on for want of memory
  pub run_begun : (r : Result (Unit {0}) MailFault) → FinishEnds lines name told mid new r
      → SaysBy (λ o notes n. MailByRefusal name (refusal_named name (begin_refusal ask) (world_of old.entry o)) o notes n (BeginsAndDoes (CompletesTask old.entry name) old.entry name ask o notes n))
      (λ o notes n. IsNothing o notes n ⊎ BeginsPart old.entry name ask o notes n) told old new (mail_outcome r)
  run_begun r said = goes_whole r (subst (λ (v : MailView). FinishEnds lines name told v new r) c.is said)

-- or may not begin
module _ (name : List ℕ) (ask : Ask) (told : MediaChange) (old new : MailView) (same : told.new ≡ told.old) where
  -- it is refused
  pub run_refused : (cause : MailRefusal) → MailBegins name ask (Some cause) old new
      → SaysBy (λ o notes n. MailByRefusal name (refusal_named name (begin_refusal ask) (world_of old.entry o)) o notes n (BeginsAndDoes (CompletesTask old.entry name) old.entry name ask o notes n))
      (λ o notes n. IsNothing o notes n ⊎ BeginsPart old.entry name ask o notes n) told old new (Ok tt)
  run_refused cause said =
      turned_down name told old new same (refusal_named name (begin_refusal ask) old) (λ o. refusal_named name (begin_refusal ask) (world_of old.entry o))
      (λ o notes n. BeginsAndDoes (CompletesTask old.entry name) old.entry name ask o notes n) cause
      (same_named name (begin_refusal ask) old) (quiet_named name (begin_refusal ask) (quiet_begin ask) old) said.0 said.1

  -- or no memory was left for it
  pub run_undone : new ≡ old
      → SaysBy (λ o notes n. MailByRefusal name (refusal_named name (begin_refusal ask) (world_of old.entry o)) o notes n (BeginsAndDoes (CompletesTask old.entry name) old.entry name ask o notes n))
      (λ o notes n. IsNothing o notes n ⊎ BeginsPart old.entry name ask o notes n) told old new (Err (record {}))
  run_undone is = first_part (λ o notes n. BeginsPart old.entry name ask o notes n) told old new (undone name told old new same is)
