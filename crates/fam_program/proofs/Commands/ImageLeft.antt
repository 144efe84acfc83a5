-- A run of one command that lacks memory leaves the image, as its events have told it.
use Prim.Native.Nat.{zero, suc}
use Rattle.std.proofs.Common.{◌≡◌, ◌⊎◌, ℕ, inl, inr, true, false, List, [], take, Option, Some, None, Err, refl, ap, sym, ◌∙◌, subst}
use Rattle.std.specs.Prelude.{slice_get}
use Rattle.std.proofs.lemmas.Bool.{false≢true}
use Rattle.std.proofs.lemmas.Option.{same_Some}
use Rattle.fam_base.specs.Image.{Image}
use Rattle.fam_media.specs.Files.{Files}
use Rattle.fam_media.specs.Outside.{IfModelled}
use Rattle.fam_media.specs.States.{ShelfChange}
use Rattle.fam_machine.specs.Caches.{IsClean}
use Rattle.fam_journal.specs.declared.event.Event.{Event}
use Rattle.fam_journal.specs.declared.event.Event.TheVariants as event
use Rattle.fam_journal.specs.Events.{PartOf, Session, first_session}
use Rattle.fam_journal.specs.Follows.{Follows}
use Rattle.fam_journal.specs.Machines.{HostState, Machines}
use Rattle.fam_journal.specs.Notes.{Note}
use Rattle.fam_outcomes.specs.Programs.{last_passes}
use Rattle.fam_journal.specs.View.{HostStandsAt, HostView, WorldStands, WorldView}
use Rattle.fam_events.specs.WorldChange.{session}
use Rattle.fam_events.specs.Happens.{EventSays}
use Rattle.fam_events.specs.Rested.{IsRested, IsRun}
use Rattle.fam_events.specs.declared.fault.EventFault.{EventFault}
use Rattle.fam_events.specs.declared.fault.EventFault.TheVariants as fault
use Rattle.fam_program.specs.Far.{Base, Far, FarOn, Now}
use Rattle.fam_program.specs.Unprinted.{IsOneRun}
use Rattle.fam_program.specs.Shots.{is_short}
use Rattle.fam_program.proofs.Runs.GoesOn.{next_of}
use Rattle.fam_program.proofs.Commands.MemoryLeft.{AreClean, declared, one_run, one_spares}

-- caches of a world are those of the state that it stands for
rested_of : (lines : ℕ) (state : Machines) (world : WorldView) → WorldStands lines state world → AreClean state → IsRested world
rested_of lines state world stands clean h view is =
    by_host (slice_get state.hosts h) refl (subst (λ (o : Option HostView). HostStandsAt lines (slice_get state.hosts h) o) is (stands h))
  where
    by_host : (o : Option HostState) → slice_get state.hosts h ≡ o → HostStandsAt lines o (Some view) → IsClean view.cache
    by_host None at here = absurd here
    by_host (Some host) at here = subst IsClean here.cache (clean h host at).0

module _ (b : Base) (one : IsOneRun b.events) where
  -- up to so many events
  events_of : (count : ℕ) (files : Files) (start : Image) (n : Now) (f : FarOn files (take count b.events) start n)
      → Follows files (take count (one_run one.name one.me one.what)) (first_session start) n.world.journal f.last
  events_of count files start n f = subst (λ (es : List Event). Follows files (take count es) (first_session start) n.world.journal f.last) one.events_are f.follows

  -- all that was run is done, and its last line wants memory
  pub done_spares : (count : ℕ) (n : Now) → Far b count n → last_passes is_short n.world.journal ≡ false → IfModelled b.media.image (λ start. IfModelled b.files (λ files. n.media.image ≡ Some start))
  done_spares count n far long start told_is files files_are =
      let f = far.on start told_is files files_are in
      by_spared f (one_spares files start one.name one.me f.held.kept.held.first one.what n.world.journal f.last count (events_of count files start n f))
    where
      by_spared : (f : FarOn files (take count b.events) start n) → (last_passes is_short n.world.journal ≡ true) ⊎ (f.last.machines.memory ≡ start) → n.media.image ≡ Some start
      by_spared f (inl short) = absurd (false≢true (sym long ∙ short))
      by_spared f (inr kept) = f.left ∙ ap Some kept

  -- an event ended the run early
  module _ (n m : Now) (shelf : ShelfChange) (x : EventFault) where
    -- the host's declaration
    host_spares : Far b 0 n → EventSays (event.Host one.name one.me) shelf (next_of b n m) (Err x) → IfModelled b.media.image (λ start. IfModelled b.files (λ files. m.media.image ≡ Some start))
    host_spares far says start told_is files files_are = by_fault x says
      where
        f : FarOn files (take 0 b.events) start n
        f = far.on start told_is files files_are

        first_is : f.last.machines.memory ≡ start
        first_is = ap (λ (z : Session). z.machines.memory) (events_of 0 files start n f).1

        by_part : (notes : List Note) (new : Session) → ((notes ≡ []) × (new ≡ session f.last.machines n.copied))
            ⊎ PartOf files (event.Host one.name one.me) (session f.last.machines n.copied) notes new → new.machines.memory ≡ start
        by_part notes new (inl none) = ap (λ (z : Session). z.machines.memory) none.1 ∙ first_is
        by_part notes new (inr part) = absurd part

        by_fault : (y : EventFault) → EventSays (event.Host one.name one.me) shelf (next_of b n m) (Err y) → m.media.image ≡ Some start
        by_fault fault.MkfsFailed says = absurd says.adds.shape
        by_fault (fault.SourceEnded end) says = absurd (let none = says.0.adds.shape.reads in cc)
        by_fault fault.OutOfMemory says =
            let k = says.keeps start files f.last.machines files_are f.left f.held in
            k.comes.told_is ∙ ap Some (by_part k.comes.notes k.comes.last k.comes.does)

    -- its run
    run_spares : Far b 1 n → (IsRested n.world → IfModelled n.media.image (λ image. m.media.image ≡ Some image))
        → IfModelled b.media.image (λ start. IfModelled b.files (λ files. m.media.image ≡ Some start))
    run_spares far same start told_is files files_are =
        let f = far.on start told_is files files_are in
        let e = events_of 1 files start n f in
        let begun = declared files start one.name one.me e.1 e.0.machines e.3.0 in
        let kept : f.last.machines.memory ≡ start = ap (λ (z : Session). z.machines.memory) e.4.1 ∙ begun.0 in
        let clean : AreClean f.last.machines = subst (λ (z : Session). AreClean z.machines) (sym e.4.1) begun.1 in
        same (rested_of _ f.last.machines n.world f.held.stands clean) start (f.left ∙ ap Some kept)

    pub fault_spares : (count : ℕ) → Far b count n → (e : Event) → slice_get b.events count ≡ Some e → EventSays e shelf (next_of b n m) (Err x)
        → (IsRun e → IsRested n.world → IfModelled n.media.image (λ image. m.media.image ≡ Some image))
        → IfModelled b.media.image (λ start. IfModelled b.files (λ files. m.media.image ≡ Some start))
    fault_spares count far e is says same = by_count count far (sym (ap (λ (es : List Event). slice_get es count) one.events_are) ∙ is)
      where
        by_count : (k : ℕ) → Far b k n → slice_get (one_run one.name one.me one.what) k ≡ Some e → IfModelled b.media.image (λ start. IfModelled b.files (λ files. m.media.image ≡ Some start))
        by_count zero far is = host_spares far (subst (λ (z : Event). EventSays z shelf (next_of b n m) (Err x)) (sym (same_Some _ e is)) says)
        by_count (suc zero) far is = run_spares far (same (subst IsRun (same_Some _ e is) tt))
        by_count (suc (suc k)) far is = absurd cc
