-- What a call makes of a world, from what its parts say.
use Rattle.std.proofs.Common.{◌≡◌, ◌⊎◌, ◌<◌, ℕ, ◌++◌, ◌∷◌, [], List, Option, Some, None, inl, inr, refl, sym, ap, ap₂, subst, set, ◌∙◌}
use Prim.Native.Nat.{zero, suc}
use Rattle.std.specs.Prelude.{Bool, true, false, IfOk, IsErrOf, OnErr, OnOk, Result, Ok, Err, is_some, slice_get}
use Rattle.std.proofs.lemmas.Bool.{cases_eq}
use Rattle.std.proofs.lemmas.Option.{same_Some}
use Rattle.fam_base.specs.declared.entry.Entry.{Entry}
use Rattle.fam_base.specs.declared.line.OutOfMemory.{OutOfMemory}
use Rattle.fam_machine.specs.Caches.{Cache, cell_at}
use Rattle.fam_machine.specs.OneLine.{IsHeld}
use Rattle.fam_media.specs.States.{MediaChange}
use Rattle.fam_mail.specs.declared.hosts.Host.{Host}
use Rattle.fam_mail.specs.declared.note.MailFault.{MailFault}
use Rattle.fam_mail.specs.declared.note.MailFault.TheVariants as fault
use Rattle.fam_mail.specs.declared.note.MailNote.{MailNote}
use Rattle.fam_mail.specs.declared.note.MailRefusal.{MailRefusal}
use Rattle.fam_mail.specs.Boxes.{capacity_of}
use Rattle.fam_mail.specs.Calls.{ChangesHost, CountEnds, FinishEnds, Finishes, HostBecomes, HostCounts, HostFinishes, HostNotes, HostOperates, HostStays, HostStepped, MailHostFits, IfMailStepped, IsFreeHost, MailSteps, MailWorldFits, Stays, capacity_in, host_at, no_task_refusal, refusal_named, named_host_refusal, mail_told}
use Rattle.fam_mail.specs.Tasks.{MailTask}
use Rattle.fam_mail.specs.World.{MailHost, MailView, changed_member, mail_host, mail_hosts, mail_view}
use Rattle.fam_mail.proofs.Members.{changed_here, changed_other, map_at, map_set}

-- a call that isn't refused has no cause
pub free_call : (name : List ℕ) (cause : MailHost → Option MailRefusal) (v : MailView) (at : ℕ) → IsFreeHost name cause v at → refusal_named name cause v ≡ None
free_call name cause v at free = ap (λ (n : Option ℕ). named_host_refusal cause (host_at n v)) free.number ∙ ap (named_host_refusal cause) free.host_is ∙ free.free

-- one host is changed, and one note made
pub changed_call : (name : List ℕ) (cause : MailHost → Option MailRefusal) (change : MailHost → MailHost) (made : MailNote) (v : MailView) (at : ℕ) → IsFreeHost name cause v at
    → (hosts : List MailHost) (journal : List MailNote) → hosts ≡ changed_member at change v.hosts → journal ≡ v.journal ++ made ∷ []
    → (refusal_named name cause v ≡ None) × ChangesHost name change made v (record { entry = v.entry; hosts = hosts; journal = journal })
changed_call name cause change made v at free hosts journal changed noted = (
  free_call name cause v at free,
  record {
    at = at;
    host = free.host;
    number = free.number;
    host_is = free.host_is;
    is = ap₂ (λ (hs : List MailHost) (ns : List MailNote). record { entry = v.entry; hosts = hs; journal = ns }) changed noted;
  },
)

-- a refusal is no want of memory
pub not_full : {T P : Type 0} (given : MailFault) (cause : MailRefusal) → given ≡ fault.Refused cause → IsErrOf {T = T} (Err given) fault.OutOfMemory → P
not_full given cause is full = absurd cc

-- Steps.

-- a host that isn't idle has a task
task_there : (task : Option MailTask) (h : MailHost) → h.task ≡ task → no_task_refusal h ≡ None → is_some h.task ≡ true
task_there None h is free = absurd cc
task_there (Some t) h is free = ap (λ (x : Option MailTask). is_some x) is

-- a host that isn't idle has a task
pub has_task : (h : MailHost) → no_task_refusal h ≡ None → is_some h.task ≡ true
has_task h free = task_there h.task h refl free

module _ (name : List ℕ) (v : MailView) (at : ℕ) (free : IsFreeHost name no_task_refusal v at) (h : MailHost) (h_is : slice_get v.hosts at ≡ Some h) where
  same_host : free.host ≡ h
  same_host = same_Some free.host h (sym free.host_is ∙ h_is)

  -- so has the host of such a call
  pub runs : is_some h.task ≡ true
  runs = has_task h (ap no_task_refusal (sym same_host) ∙ free.free)

  -- its host becomes another one
  abbrev pub host_call : (R : MailHost → MailHost → List MailNote → Type 0) (next : MailHost) (hosts : List MailHost) (journal : List MailNote) → HostNotes (R h next) v.journal journal
      → hosts ≡ changed_member at (λ (x : MailHost). next) v.hosts
      → HostBecomes name R v (record { entry = v.entry; hosts = hosts; journal = journal })
  host_call R next hosts journal said changed = record {
    at = at;
    host = h;
    number = free.number;
    host_is = h_is;
    next = next;
    notes = said.notes;
    does = said.does;
    is = ap₂ (λ (hs : List MailHost) (ns : List MailNote). record { entry = v.entry; hosts = hs; journal = ns }) changed said.noted;
  }

  not_idle : refusal_named name no_task_refusal v ≡ None
  not_idle = free_call name no_task_refusal v at free

  -- by an operation
  pub step_said : (told : MediaChange) (next : MailHost) (hosts : List MailHost) (journal : List MailNote) (r : Result Bool OutOfMemory)
      → IfOk r (λ over. HostStepped v.entry name h told over next v.journal journal) → hosts ≡ changed_member at (λ (x : MailHost). next) v.hosts
      → IfMailStepped (mail_told r) (λ answered over. MailSteps name told answered over v (record { entry = v.entry; hosts = hosts; journal = journal }))
  step_said told next hosts journal (Err full) said changed = tt
  step_said told next hosts journal (Ok over) said changed =
      ((not_idle, host_call (λ host next notes. HostOperates v.entry name host told over next notes) next hosts journal said changed), λ not. absurd (not refl))

  module _ (lines : ℕ) (told : MediaChange) (next : MailHost) (hosts : List MailHost) (journal : List MailNote) (changed : hosts ≡ changed_member at (λ (x : MailHost). next) v.hosts) where
    abbrev ends : HostNotes (HostFinishes lines v.entry name h told next) v.journal journal → Finishes lines name told v (record { entry = v.entry; hosts = hosts; journal = journal })
    ends said = host_call (λ host next notes. HostFinishes lines v.entry name host told next notes) next hosts journal said changed

    abbrev stays_so : HostNotes (HostStays lines v.entry name h told next) v.journal journal → Stays lines name told v (record { entry = v.entry; hosts = hosts; journal = journal })
    stays_so said = host_call (λ host next notes. HostStays lines v.entry name host told next notes) next hosts journal said changed

    -- by all up to its end
    pub finish_said : (r : Result (Unit {0}) OutOfMemory) → OnOk r (HostNotes (HostFinishes lines v.entry name h told next) v.journal journal)
        → OnErr r (HostNotes (HostStays lines v.entry name h told next) v.journal journal)
        → FinishEnds lines name told v (record { entry = v.entry; hosts = hosts; journal = journal }) (mail_told r)
    finish_said (Ok done) finished stays = (not_idle, ends finished)
    finish_said (Err full) finished stays = inr (not_idle, stays_so stays)

    -- or by so many at most
    pub count_said : (limit : ℕ) (r : Result Bool OutOfMemory) → HostCounts limit lines v.entry name h told next v.journal journal r
        → CountEnds limit lines name told v (record { entry = v.entry; hosts = hosts; journal = journal }) (mail_told r)
    count_said limit (Ok true) said = (not_idle, ends said.0, said.1)
    count_said limit (Ok false) said = (not_idle, stays_so said.0, said.1)
    count_said limit (Err full) said = inr (not_idle, stays_so said.0, said.1)

-- a note changes nothing of what fits
pub fits_noted : (lines : ℕ) (v : MailView) (journal : List MailNote) → MailWorldFits lines v → MailWorldFits lines (record { entry = v.entry; hosts = v.hosts; journal = journal })
fits_noted lines v journal fits = record { place = fits.place; host = fits.host }

-- a member that is put where it stands
pub put_own : {A : Type 0} (at : ℕ) (x : A) (xs : List A) → slice_get xs at ≡ Some x → changed_member at (λ (v : A). x) xs ≡ xs
put_own {A} at x [] is = refl
put_own {A} zero x (y ∷ xs) is = ap (λ (z : A). z ∷ xs) (sym (same_Some y x is))
put_own {A} (suc at) x (y ∷ xs) is = ap (λ (zs : List A). y ∷ zs) (put_own at x xs is)

-- all fits the media still, where one host is another one that does
pub fits_put : (lines : ℕ) (v : MailView) (at : ℕ) (h next : MailHost) → slice_get v.hosts at ≡ Some h → (hosts : List MailHost) (journal : List MailNote)
    → hosts ≡ changed_member at (λ (x : MailHost). next) v.hosts
    → MailWorldFits lines v → MailHostFits lines (capacity_in v) next → MailWorldFits lines (record { entry = v.entry; hosts = hosts; journal = journal })
fits_put lines v at h next h_is hosts journal changed fits here = record {
  place = fits.place;
  host = λ k x is.
      let is' : slice_get (changed_member at (λ (y : MailHost). next) v.hosts) k ≡ Some x = ap (λ (hs : List MailHost). slice_get hs k) (sym changed) ∙ is in
      elim (cases_eq k at) [
        | inl e ↦
            subst (MailHostFits lines (capacity_in v))
            (same_Some next x (sym (changed_here at (λ (y : MailHost). next) v.hosts h h_is) ∙ ap (λ (n : ℕ). slice_get (changed_member at (λ (y : MailHost). next) v.hosts) n) (sym e) ∙ is')) here
        | inr ne ↦ fits.host k x (sym (changed_other at k (λ (y : MailHost). next) v.hosts ne) ∙ is')
      ];
}

-- behind a call on a media that set one host, which fits it
pub fits_set : (entry : Entry) (items : List Host) (journal behind : List MailNote) (at : ℕ) (x y : Host) (lines now : ℕ) → now ≡ lines → slice_get items at ≡ Some x
    → MailWorldFits lines (mail_view entry items journal)
    → MailHostFits now (capacity_of entry.size) (mail_host y) → MailWorldFits now (mail_view entry (set items at y) behind)
fits_set entry items journal behind at x y lines now same at_is fits here =
    subst (λ (n : ℕ). MailWorldFits n (mail_view entry (set items at y) behind)) (sym same)
    (fits_put lines (mail_view entry items journal) at (mail_host x) (mail_host y) (map_at mail_host items at x at_is) (mail_hosts (set items at y)) behind
    (map_set mail_host (λ (h : MailHost). mail_host y) items at y x at_is refl) fits
    (subst (λ (n : ℕ). MailHostFits n (capacity_of entry.size) (mail_host y)) same here))

-- a host whose cache holds one line of the media more
pub host_fits : (lines capacity line : ℕ) (h : MailHost) (cache : Cache) → line < lines → ((l : ℕ) → IsHeld (cell_at cache l) → (l ≡ line) ⊎ IsHeld (cell_at h.cache l))
    → MailHostFits lines capacity h → MailHostFits lines capacity (record h { cache = cache })
host_fits lines capacity line h cache below held fits = record { cache = λ l is. go l (held l is); task = fits.task }
  where
    go : (l : ℕ) → (l ≡ line) ⊎ IsHeld (cell_at h.cache l) → l < lines
    go l (inl e) = subst (λ (n : ℕ). n < lines) (sym e) below
    go l (inr was) = fits.cache l was
