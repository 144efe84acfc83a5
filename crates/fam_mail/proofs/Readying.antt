-- What laws ask of a world before a call holds at first and behind every call: at most one host may post, and all fits the media.
use Rattle.std.proofs.Common.{◌≡◌, ℕ, ◌⊎◌, ◌<◌, ◌≤◌, inl, inr, List, [], ◌∷◌, ◌++◌, Some, refl, sym, ap, subst, ◌∙◌}
use Rattle.std.specs.Prelude.{Bool, true, false, None, slice_get}
use Rattle.std.specs.FinMap as finmap
use Rattle.std.proofs.lemmas.Bool.{cases_eq}
use Rattle.std.proofs.lemmas.Option.{same_Some}
use Rattle.fam_base.specs.declared.entry.Entry.{Entry}
use Rattle.fam_machine.specs.OneLine.{IsHeld}
use Rattle.fam_machine.specs.declared.cell.Cell.TheVariants.{Absent}
use Rattle.fam_machine.specs.HostMoves.{Move}
use Rattle.fam_machine.proofs.CacheLemmas.{cell_at-empty}
use Rattle.fam_media.specs.States.{MediaChange, MediaState}
use Rattle.fam_rules.specs.Written.{file_line}
use Rattle.fam_mail.specs.declared.ask.Ask.{Ask}
use Rattle.fam_mail.specs.declared.note.MailNote.{MailNote}
use Rattle.fam_mail.specs.declared.note.MailNote.TheVariants as note
use Rattle.fam_mail.specs.declared.note.MailRefusal.{MailRefusal}
use Rattle.fam_mail.specs.Boxes.{capacity_of}
use Rattle.fam_mail.specs.Calls.{MailBegins, TaskBreaks, ChangesHost, MailDeclares, MoveFailsAt, Finishes, MailHalts, MailHostFits, HostOperates, HostRuns, MoveDoneAt, MailOperates, TaskServes, Stays, MailStops, MailWorldFits, capacity_in, goes_on, rests}
use Rattle.fam_mail.specs.Standing.{IsOneWriter, IsMailReady}
use Rattle.fam_mail.specs.Tasks.{MailTask, new_task}
use Rattle.fam_mail.specs.World.{MailHost, MailView, changed_member, member_place, is_writer, new_mail_host, mail_noted}
use Rattle.fam_mail.proofs.Calling.{fits_put}
use Rattle.fam_mail.proofs.Members.{changed_here, changed_other}
use Rattle.fam_mail.proofs.Outcomes.{More, before, changed_alike, declared_one, last, more}
use Rattle.fam_mail.proofs.Standing.{index_put}

-- at first
pub first_ready : (lines : ℕ) (entry : Entry) → ((j : ℕ) → j ≤ capacity_of entry.size → file_line entry j < lines) → IsMailReady lines (record { entry = entry; hosts = []; journal = [] })
first_ready lines entry place = record { one = λ n h is passes. absurd cc; fits = record { place = place; host = λ n h is. absurd cc } }

-- a note changes nothing of it
pub noted_ready : (lines : ℕ) (made : MailNote) (old : MailView) → IsMailReady lines old → IsMailReady lines (mail_noted made old)
noted_ready lines made old ready = record { one = ready.one; fits = record { place = ready.fits.place; host = ready.fits.host } }

-- another host in a host's place, which may post where that one may
pub one_put : (n : ℕ) (host next : MailHost) (hosts : List MailHost) → slice_get hosts n ≡ Some host → next.writer ≡ host.writer → IsOneWriter hosts
    → IsOneWriter (changed_member n (λ (x : MailHost). next) hosts)
one_put n host next hosts host_is same one k h is passes = index_put is_writer 0 n host next hosts host_is same ∙ found
  where
    here : k ≡ n → h ≡ next
    here e =
        sym (same_Some next h (sym (changed_here n (λ (x : MailHost). next) hosts host host_is) ∙ ap (λ (i : ℕ). slice_get (changed_member n (λ (x : MailHost). next) hosts) i) (sym e) ∙ is))

    found : member_place is_writer hosts ≡ Some k
    found =
        elim (cases_eq k n) [
          | inl e ↦ one k host (ap (slice_get hosts) e ∙ host_is) (sym same ∙ ap (λ (x : MailHost). x.writer) (sym (here e)) ∙ passes)
          | inr ne ↦ one k h (sym (changed_other n k (λ (x : MailHost). next) hosts ne) ∙ is) passes
        ]

module _ (lines : ℕ) (v new : MailView) (ready : IsMailReady lines v) (n : ℕ) (host next : MailHost) (host_is : slice_get v.hosts n ≡ Some host) (same : next.writer ≡ host.writer)
    (journal : List MailNote)
    (new_is : new ≡ record { entry = v.entry; hosts = changed_member n (λ (x : MailHost). next) v.hosts; journal = journal }) where
  put_ready : MailWorldFits lines new → IsMailReady lines new
  put_ready fits = record { one = subst (λ (w : MailView). IsOneWriter w.hosts) (sym new_is) (one_put n host next v.hosts host_is same ready.one); fits = fits }

  host_ready : MailHostFits lines (capacity_in v) next → IsMailReady lines new
  host_ready here = put_ready (subst (MailWorldFits lines) (sym new_is) (fits_put lines v n host next host_is (changed_member n (λ (x : MailHost). next) v.hosts) journal refl ready.fits here))

-- a task leaves it open whether its host may post
writer_stays : (entry : Entry) (name : List ℕ) (host : MailHost) (t : MailTask) (told : MediaChange) (over : Bool) (next : MailHost) (notes : List MailNote)
    → TaskServes entry name host t told over next notes ⊎ TaskBreaks entry name host t told over next notes
    → next.writer ≡ host.writer
writer_stays entry name host t told over next notes (inl serves) = ap (λ (x : MailHost). x.writer) serves.next_is
writer_stays entry name host t told over next notes (inr breaks) = ap (λ (x : MailHost). x.writer) breaks.next_is

operated_writer : (entry : Entry) (name : List ℕ) (host : MailHost) (told : MediaChange) (over : Bool) (next : MailHost) (notes : List MailNote) → HostOperates entry name host told over next notes
    → next.writer ≡ host.writer
operated_writer entry name host told over next notes operates = writer_stays entry name host operates.task told over next notes operates.how

runs_writer : (lines : ℕ) (entry : Entry) (name : List ℕ) (host : MailHost) (told : MediaState) (count : ℕ) (next : MailHost) (later : MediaState) (notes : List MailNote)
    → HostRuns lines entry name host told count next later notes → next.writer ≡ host.writer
runs_writer lines entry name host told _ _ _ _ rests = refl
runs_writer lines entry name host told _ next later _ (goes_on {count = count} {mid = mid} {now = now} {notes = notes} {more = more} runs is_told operates) =
    operated_writer entry name mid (record { old = now; new = later }) false next more operates ∙ runs_writer lines entry name host told count mid now notes runs

-- a new host's cache is empty, and it has no task
pub empty_fits : (lines capacity : ℕ) (name : List ℕ) (writer : Bool) → MailHostFits lines capacity (new_mail_host name writer)
empty_fits lines capacity name writer = record { cache = λ l held. absurd (let bad : IsHeld Absent = subst IsHeld (cell_at-empty l) held in cc); task = λ t is. absurd cc }

module _ (lines : ℕ) (name : List ℕ) (old new : MailView) (ready : IsMailReady lines old) where
  changes_ready : (change : MailHost → MailHost) (made : MailNote) (call : ChangesHost name change made old new) → (change call.host).writer ≡ call.host.writer
      → MailHostFits lines (capacity_in old) (change call.host) → IsMailReady lines new
  changes_ready change made call same here =
      host_ready lines old new ready call.at call.host (change call.host) call.host_is same (old.journal ++ made ∷ [])
      (call.is ∙ ap (λ (hs : List MailHost). record { entry = old.entry; hosts = hs; journal = old.journal ++ made ∷ [] }) (changed_alike call.at change call.host old.hosts call.host_is)) here

  -- a task begins, is dropped, or is lost with its host's cache
  pub begin_ready : (ask : Ask) → MailBegins name ask None old new → IsMailReady lines new
  begin_ready ask call =
      let c = call.1 in
      let fits : MailHostFits lines (capacity_in old) c.host = ready.fits.host c.at c.host c.host_is in
      changes_ready (λ h. record h { task = Some (new_task ask (capacity_in old)) }) (note.Start name ask) c refl
      (record { cache = fits.cache; task = λ t is. ap (λ (x : MailTask). x.capacity) (sym (same_Some (new_task ask (capacity_in old)) t is)) })

  -- one is dropped
  pub stop_ready : MailStops name None old new → IsMailReady lines new
  stop_ready call =
      let c = call.1 in
      let fits : MailHostFits lines (capacity_in old) c.host = ready.fits.host c.at c.host c.host_is in
      changes_ready (λ h. record h { task = None }) (note.Stop name) c refl (record { cache = fits.cache; task = λ t is. absurd cc })

  -- a host halts
  pub halt_ready : MailHalts name None old new → IsMailReady lines new
  halt_ready call =
      let c = call.1 in
      let empty : MailHostFits lines (capacity_in old) (new_mail_host name false) = empty_fits lines (capacity_in old) name false in
      changes_ready (λ h. record h { cache = finmap.empty; task = None }) (note.Halt name) c refl (record { cache = empty.cache; task = λ t is. absurd cc })

  -- a host is declared
  fresh_fits : (writer : Bool) (n : ℕ) (h : MailHost) → slice_get (old.hosts ++ new_mail_host name writer ∷ []) n ≡ Some h → More old.hosts (new_mail_host name writer) n
      → MailHostFits lines (capacity_in old) h
  fresh_fits writer n h is (before same not) = ready.fits.host n h (sym same ∙ is)
  fresh_fits writer n h is (last e same none) = subst (MailHostFits lines (capacity_in old)) (same_Some (new_mail_host name writer) h (sym same ∙ is)) (empty_fits lines (capacity_in old) name writer)

  -- a world with one host more is ready
  pub declared_ready : (writer : Bool) → MailDeclares name writer None old new → IsMailReady lines new
  declared_ready writer call =
      let all : MailWorldFits lines (record { entry = old.entry; hosts = old.hosts ++ new_mail_host name writer ∷ []; journal = old.journal }) =
      record { place = ready.fits.place; host = λ n h is. fresh_fits writer n h is (more old.hosts (new_mail_host name writer) n) } in
      record { one = declared_one name old new writer call ready.one; fits = subst (MailWorldFits lines) (sym call.1) (record { place = all.place; host = all.host }) }

  -- operations
  pub operated_ready : (told : MediaChange) (over : Bool) → MailOperates name told over old new → MailWorldFits lines new → IsMailReady lines new
  operated_ready told over call =
      put_ready lines old new ready call.at call.host call.next call.host_is (operated_writer old.entry name call.host told over call.next call.notes call.does) (old.journal ++ call.notes) call.is

  -- all up to the end
  pub finished_ready : (told : MediaChange) → Finishes lines name told old new → MailWorldFits lines new → IsMailReady lines new
  finished_ready told call =
      let f = call.does in
      put_ready lines old new ready call.at call.host call.next call.host_is
      (operated_writer old.entry name f.mid (record { old = f.now; new = told.new }) true call.next f.last f.ends
      ∙ runs_writer lines old.entry name call.host told.old f.count f.mid f.now f.first f.runs) (old.journal ++ call.notes) call.is

  -- some, for want of memory
  pub stays_ready : (told : MediaChange) → Stays lines name told old new → MailWorldFits lines new → IsMailReady lines new
  stays_ready told call =
      put_ready lines old new ready call.at call.host call.next call.host_is (runs_writer lines old.entry name call.host told.old call.does.count call.next told.new call.notes call.does.runs)
      (old.journal ++ call.notes) call.is

  -- a cache's own moves
  pub moved_ready : (line : ℕ) (move : Move) (told : MediaChange) → MoveDoneAt name line move told old new → MailWorldFits lines new → IsMailReady lines new
  moved_ready line move told call =
      put_ready lines old new ready call.at call.host call.next call.host_is (ap (λ (x : MailHost). x.writer) call.does.next_is) (old.journal ++ call.notes) call.is

  -- a move in which the media failed
  pub failed_ready : (line : ℕ) (move : Move) (told : MediaChange) (cause : MailRefusal) → MoveFailsAt name line move told cause old new → IsMailReady lines new
  failed_ready line move told cause call = subst (IsMailReady lines) (sym call.is) (noted_ready lines (note.Refused name cause) old ready)
