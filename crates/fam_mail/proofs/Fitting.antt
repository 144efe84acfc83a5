-- All fits the media behind the calls that take none.
use Rattle.std.proofs.Common.{◌≡◌, ℕ, List, [], ◌∷◌, ◌++◌, Some, refl, sym, ap, subst, ◌∙◌}
use Rattle.std.specs.Prelude.{Bool, None, Option, Result, Ok, Err, IsErrOf, slice_get}
use Rattle.std.specs.FinMap as finmap
use Rattle.std.proofs.lemmas.Option.{same_Some}
use Rattle.fam_mail.specs.declared.ask.Ask.{Ask}
use Rattle.fam_mail.specs.declared.note.MailFault.{MailFault}
use Rattle.fam_mail.specs.declared.note.MailFault.TheVariants as fault
use Rattle.fam_mail.specs.declared.note.MailNote.{MailNote}
use Rattle.fam_mail.specs.declared.note.MailNote.TheVariants as note
use Rattle.fam_mail.specs.declared.note.MailRefusal.{MailRefusal}
use Rattle.fam_mail.specs.Calls.{MailBegins, ChangesHost, MailDeclares, MailHalts, MailHostFits, IfMailAnswered, MailRefuses, MailStops, MailWorldFits, capacity_in}
use Rattle.fam_mail.specs.Tasks.{MailTask, new_task}
use Rattle.fam_mail.specs.World.{MailHost, MailView, changed_member, new_mail_host}
use Rattle.fam_mail.proofs.Calling.{fits_noted, fits_put}
use Rattle.fam_mail.proofs.Outcomes.{More, before, changed_alike, last, more}
use Rattle.fam_mail.proofs.Readying.{empty_fits}

module _ (lines : ℕ) (name : List ℕ) (old new : MailView) (fits : MailWorldFits lines old) where
  -- a call is refused, or does something after which all fits, or found no memory
  answered_fits : (first : Option MailRefusal) (P : Type 0) (r : Result (Unit {0}) MailFault) → IfMailAnswered r (λ answered. MailRefuses name first old new answered P)
      → (IsErrOf r fault.OutOfMemory → new ≡ old) → (P → MailWorldFits lines new) → MailWorldFits lines new
  answered_fits first P (Ok x) said kept does = does said.1
  answered_fits first P (Err (fault.Refused cause)) said kept does = subst (MailWorldFits lines) (sym said.1) (fits_noted lines old (old.journal ++ note.Refused name cause ∷ []) fits)
  answered_fits first P (Err fault.OutOfMemory) said kept does = subst (MailWorldFits lines) (sym (kept refl)) fits

  changes_fits : (change : MailHost → MailHost) (made : MailNote) → ((h : MailHost) → MailHostFits lines (capacity_in old) h → MailHostFits lines (capacity_in old) (change h))
      → ChangesHost name change made old new → MailWorldFits lines new
  changes_fits change made still call =
      subst (MailWorldFits lines) (sym call.is)
      (fits_put lines old call.at call.host (change call.host) call.host_is (changed_member call.at change old.hosts) (old.journal ++ made ∷ [])
      (changed_alike call.at change call.host old.hosts call.host_is) fits (still call.host (fits.host call.at call.host call.host_is)))

  -- all fits the media behind a begin
  pub begins_fits : (ask : Ask) (r : Result (Unit {0}) MailFault) → IfMailAnswered r (λ answered. MailBegins name ask answered old new) → (IsErrOf r fault.OutOfMemory → new ≡ old)
      → MailWorldFits lines new
  begins_fits ask r said kept =
      answered_fits _ (ChangesHost name (λ h. record h { task = Some (new_task ask (capacity_in old)) }) (note.Start name ask) old new) r said kept
      (λ call. changes_fits (λ h. record h { task = Some (new_task ask (capacity_in old)) }) (note.Start name ask)
      (λ h was. record { cache = was.cache; task = λ t is. ap (λ (x : MailTask). x.capacity) (sym (same_Some (new_task ask (capacity_in old)) t is)) }) call)

  -- behind a stop
  pub stops_fits : (r : Result (Unit {0}) MailFault) → IfMailAnswered r (λ answered. MailStops name answered old new) → (IsErrOf r fault.OutOfMemory → new ≡ old) → MailWorldFits lines new
  stops_fits r said kept =
      answered_fits _ (ChangesHost name (λ h. record h { task = None }) (note.Stop name) old new) r said kept
      (λ call. changes_fits (λ h. record h { task = None }) (note.Stop name) (λ h was. record { cache = was.cache; task = λ t is. absurd cc }) call)

  -- behind a halt
  pub halts_fits : (r : Result (Unit {0}) MailFault) → IfMailAnswered r (λ answered. MailHalts name answered old new) → (IsErrOf r fault.OutOfMemory → new ≡ old) → MailWorldFits lines new
  halts_fits r said kept =
      answered_fits _ (ChangesHost name (λ h. record h { cache = finmap.empty; task = None }) (note.Halt name) old new) r said kept
      (λ call. changes_fits (λ h. record h { cache = finmap.empty; task = None }) (note.Halt name)
      (λ h was. let empty : MailHostFits lines (capacity_in old) (new_mail_host name Rattle.std.specs.Prelude.false) = empty_fits lines (capacity_in old) name Rattle.std.specs.Prelude.false in
      record { cache = empty.cache; task = λ t is. absurd cc }) call)

  -- a host is declared
  fresh_fits : (writer : Bool) (n : ℕ) (h : MailHost) → slice_get (old.hosts ++ new_mail_host name writer ∷ []) n ≡ Some h → More old.hosts (new_mail_host name writer) n
      → MailHostFits lines (capacity_in old) h
  fresh_fits writer n h is (before same not) = fits.host n h (sym same ∙ is)
  fresh_fits writer n h is (last e same none) = subst (MailHostFits lines (capacity_in old)) (same_Some (new_mail_host name writer) h (sym same ∙ is)) (empty_fits lines (capacity_in old) name writer)

  -- and where a host is declared
  pub declares_fits : (writer : Bool) (r : Result (Unit {0}) MailFault) → IfMailAnswered r (λ answered. MailDeclares name writer answered old new) → (IsErrOf r fault.OutOfMemory → new ≡ old)
      → MailWorldFits lines new
  declares_fits writer r said kept =
      answered_fits _ _ r said kept
      (λ is. subst (MailWorldFits lines) (sym is) (record { place = fits.place; host = λ n h there. fresh_fits writer n h there (more old.hosts (new_mail_host name writer) n) }))
