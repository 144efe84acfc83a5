-- A world with a mailbox stands behind the operations of a task that is finished.
use Rattle.std.proofs.Common.{◌≡◌, ℕ, ◌<◌, ◌≤◌, ◌⊎◌, inl, inr, List, [], ◌∷◌, ◌++◌, Some, refl, sym, ap, subst, ◌∙◌}
use Prim.Native.Nat.{zero, suc}
use Rattle.std.specs.Prelude.{Bool, true, false, slice_get}
use Rattle.fam_base.specs.Image.{Image}
use Rattle.fam_base.specs.declared.entry.Entry.{Entry}
use Rattle.fam_media.specs.States.{MediaChange, MediaState}
use Rattle.fam_rules.specs.Written.{file_line}
use Rattle.fam_mail.specs.declared.note.MailNote.{MailNote}
use Rattle.fam_mail.specs.Calls.{TaskBreaks, Finishes, HostRuns, IsTold, TaskServes, Stays, MailWorldFits, capacity_in, goes_on, rests}
use Rattle.fam_mail.specs.Standing.{MailPast, MailStands, StandsAlong, StandsBehind, StandsFinished, StandsStill, StandsUnfinished, mail_past_along, mail_past_behind, with_host_noted}
use Rattle.fam_mail.specs.Tasks.{MailTask}
use Rattle.fam_mail.specs.World.{MailHost, MailView, changed_member}
use Rattle.fam_mail.proofs.Calling.{put_own}
use Rattle.fam_mail.proofs.Members.{changed_here}
use Rattle.fam_mail.proofs.Outcomes.{behind}

-- a member that is written over twice
pub changed_twice : {A : Type 0} (i : ℕ) (x y : A) (xs : List A) → changed_member i (λ (z : A). y) (changed_member i (λ (z : A). x) xs) ≡ changed_member i (λ (z : A). y) xs
changed_twice {A} i x y [] = refl
changed_twice {A} zero x y (z ∷ zs) = refl
changed_twice {A} (suc i) x y (z ∷ zs) = ap (λ (ws : List A). z ∷ ws) (changed_twice i x y zs)

-- the world stands behind an operation, whether the media served or failed
still : (rest : ℕ → List ℕ) (past : MailPast) (at : ℕ) (entry : Entry) (name : List ℕ) (host : MailHost) (t : MailTask) (told : MediaChange)
    (over : Bool) (next : MailHost) (notes : List MailNote) (new : MailView)
    (how : TaskServes entry name host t told over next notes ⊎ TaskBreaks entry name host t told over next notes) → StandsBehind rest past at entry name host t told over next notes new how
    → StandsStill rest (mail_past_behind past at entry name host t told over next notes how) told.new.image new
still rest past at entry name host t told over next notes new (inl serves) said = record { image = said.image; told = said.told; stands = said.stands }
still rest past at entry name host t told over next notes new (inr breaks) said = said

module _ (rest : ℕ → List ℕ) (past : MailPast) (image : Image) (lines : ℕ) (v : MailView) (name : List ℕ) (at : ℕ) (host : MailHost) (host_is : slice_get v.hosts at ≡ Some host)
    (stands : MailStands rest v past image)
    (place : (j : ℕ) → j ≤ capacity_in v → file_line v.entry j < lines) (told : MediaState) (is : told.image ≡ Some image) where
  -- one more operation, of a host that stands in the host's place
  one_more : (mid next : MailHost) (now later : MediaState) (over : Bool) (notes more journal : List MailNote) (so_far : MailPast) (new : MailView)
      → StandsStill rest so_far now.image (with_host_noted v at mid notes) → IsTold lines now.image
      → new ≡ record { entry = v.entry; hosts = changed_member at (λ (x : MailHost). next) v.hosts; journal = journal } → (t : MailTask) → mid.task ≡ Some t
      → (how : TaskServes v.entry name mid t (record { old = now; new = later }) over next more ⊎ TaskBreaks v.entry name mid t (record { old = now; new = later }) over next more)
      → StandsBehind rest so_far at v.entry name mid t (record { old = now; new = later }) over next more new how
  one_more mid next now later over notes more journal so_far new here is_told new_is t task_is how =
      let twice : changed_member at (λ (x : MailHost). next) (changed_member at (λ (x : MailHost). mid) v.hosts) ≡ changed_member at (λ (x : MailHost). next) v.hosts = changed_twice at mid next
      v.hosts in
      behind rest (with_host_noted v at mid notes) new so_far here.image lines name (record { old = now; new = later }) over here.stands here.told is_told place at mid next
      (changed_here at (λ (x : MailHost). mid) v.hosts host host_is) t task_is more journal
      (new_is ∙ ap (λ (hs : List MailHost). record { entry = v.entry; hosts = hs; journal = journal }) (sym twice)) how

  -- some of them
  along : (count : ℕ) (next : MailHost) (later : MediaState) (notes : List MailNote) (runs : HostRuns lines v.entry name host told count next later notes)
      → StandsAlong rest past at lines v name host told count next later notes runs
      × StandsStill rest (mail_past_along past at lines v.entry name host told count next later notes runs) later.image
      (with_host_noted v at next notes)
  along _ _ _ _ rests = (
    tt,
    record {
      image = image;
      told = is;
      stands = subst (λ (hs : List MailHost). MailStands rest (record { entry = v.entry; hosts = hs; journal = v.journal ++ [] }) past image) (sym (put_own at host v.hosts host_is)) stands;
    },
  )
  along _ next later _ (goes_on {count = count} {mid = mid} {now = now} {notes = notes} {more = more} runs is_told operates) =
      let before = along count mid now notes runs in
      let so_far : MailPast = mail_past_along past at lines v.entry name host told count mid now notes runs in
      let new : MailView = with_host_noted v at next (notes ++ more) in
      let said = one_more mid next now later false notes more (v.journal ++ (notes ++ more)) so_far new before.1 is_told refl operates.task operates.task_is operates.how in
      ((before.0, said), still rest so_far at v.entry name mid operates.task (record { old = now; new = later }) false next more new operates.how said)

-- a task that is finished
pub finished_stands : (rest : ℕ → List ℕ) (name : List ℕ) (told : MediaChange) (old new : MailView) (past : MailPast) (image : Image) (lines : ℕ) (call : Finishes lines name told old new)
    → MailStands rest old past image → told.old.image ≡ Some image
    → MailWorldFits lines old → StandsFinished rest past lines name told old new call
finished_stands rest name told old new past image lines call stands is fits =
    let f = call.does in
    let before = along rest past image lines old name call.at call.host call.host_is stands fits.place told.old is f.count f.mid f.now f.first f.runs in
    let so_far : MailPast = mail_past_along past call.at lines old.entry name call.host told.old f.count f.mid f.now f.first f.runs in (
      before.0,
      one_more rest past image lines old name call.at call.host call.host_is stands fits.place told.old is f.mid call.next f.now told.new true f.first f.last (old.journal ++ call.notes) so_far new
          before.1 f.is_told call.is f.ends.task f.ends.task_is f.ends.how,
    )

-- or goes on, for want of memory
pub stays_stands : (rest : ℕ → List ℕ) (name : List ℕ) (told : MediaChange) (old new : MailView) (past : MailPast) (image : Image) (lines : ℕ) (call : Stays lines name told old new)
    → MailStands rest old past image → told.old.image ≡ Some image
    → MailWorldFits lines old → StandsUnfinished rest past lines name told old new call
stays_stands rest name told old new past image lines call stands is fits =
    let s = call.does in
    let so_far : MailPast = mail_past_along past call.at lines old.entry name call.host told.old s.count call.next told.new call.notes s.runs in
    let before = along rest past image lines old name call.at call.host call.host_is stands fits.place told.old is s.count call.next told.new call.notes s.runs in
    let now = before.1 in
    (before.0, record { image = now.image; told = now.told; stands = subst (λ (w : MailView). MailStands rest w so_far now.image) (sym call.is) now.stands })
