-- The journal of a run has the form of the tables, however the run ends.
use Prim.Native.Nat.{zero, suc}
use Rattle.std.proofs.Common.{◌≡◌, inl, inr, ℕ, List, [], ◌∷◌, length, take, Some, sym, ◌∙◌, subst}
use Rattle.std.specs.Prelude.{slice_get}
use Rattle.std.proofs.lemmas.Option.{same_Some}
use Rattle.fam_base.specs.Image.{Image}
use Rattle.fam_media.specs.Files.{Files}
use Rattle.fam_journal.proofs.Runs.Following.{run_settled}
use Rattle.fam_journal.proofs.Shapes.EventRows.{event_part, event_shape, follows_shape}
use Rattle.fam_journal.proofs.Shapes.Rows.{may_told}
use Rattle.fam_journal.specs.declared.event.Event.{Event}
use Rattle.fam_journal.specs.declared.event.Event.TheVariants as event
use Rattle.fam_journal.specs.Ends.{AllDone, Ending, EndsOutOfMemory, EndsOutOfMemoryBroken, EventsDone, MkfsFails, SinkFails, SourceFails}
use Rattle.fam_journal.specs.Events.{BreaksEvent, DoesEvent, PartOf, Session, first_session, mounts}
use Rattle.fam_journal.specs.Follows.{Follows, FollowsUpTo}
use Rattle.fam_journal.specs.Laws.{AreSound, IsImage, IsValidEvent}
use Rattle.fam_journal.specs.Notes.{Note}
use Rattle.fam_journal.specs.Shapes.{AreShaped, HostShape, SomeShape, UnfinishedShape, shapes_behind}
use Rattle.fam_judge.specs.Asks.{AskSoundCommands}
use Rattle.fam_judge.specs.Explained.{IsExplained}
use Rattle.fam_judge.specs.Formed.{AreFormed, AreListedNotes, AreSoundNotes, HavePlaces}
use Rattle.fam_judge.proofs.Beginning.{IsGoodCommand, asks_good, notes_listed, notes_sound}
use Rattle.fam_judge.proofs.Cutting.{cut_formed}
use Rattle.fam_judge.proofs.Explaining.{legal_explained}
use Rattle.fam_judge.proofs.Following.{event_formed, follows_formed, formed_both, operations_formed, placed_parts, sound_parts, started}
use Rattle.fam_judge.proofs.Operating.{AreFit}
use Rattle.fam_judge.proofs.Running.{ends_fit, first_shaped}

valid_take : (count : ℕ) (events : List Event) → AreSound events → AreSound (take count events)
valid_take zero events valid = tt
valid_take (suc count) [] valid = tt
valid_take (suc count) (e ∷ events) valid = (valid.0, valid_take count events valid.1)

valid_at : (count : ℕ) (events : List Event) (e : Event) → AreSound events → slice_get events count ≡ Some e → IsValidEvent e
valid_at count [] e valid is = absurd cc
valid_at zero (first ∷ events) e valid is = subst IsValidEvent (same_Some first e is) valid.0
valid_at (suc count) (first ∷ events) e valid is = valid_at count events e valid.1 is

module _ (lines : ℕ) (files : Files) where
  -- what this relation adds has the form
  abbrev AreAllFormed : (Event → Session → List Note → Session → Type 0) → Type 0
  AreAllFormed P =
      (old : Session) (hosts : List HostShape) → AreShaped lines old.machines hosts → (e : Event) → IsValidEvent e → (notes : List Note) (new : Session)
      → P e old notes new → AreSoundNotes notes → HavePlaces hosts notes → AreFormed lines hosts notes

  some_formed : (hosts : List HostShape) (name : List ℕ) (notes : List Note) → SomeShape name lines hosts notes → HavePlaces hosts notes → AreFormed lines hosts notes
  some_formed hosts name notes is placed = operations_formed lines name is.host notes hosts is.number is.part.operations placed

  -- operations for which memory sufficed
  part_formed : AreAllFormed (PartOf files)
  part_formed old hosts shaped (event.Run name what) valid notes new x sound placed =
      started lines UnfinishedShape (λ h hosts notes part. part.operations) hosts name what notes
      (sym (may_told lines old.machines hosts shaped name (mounts what)) ∙ x.begun.free)
      (event_part lines files old hosts shaped (event.Run name what) notes new x) sound placed
  part_formed old hosts shaped (event.Step name count) valid notes new x sound placed =
      some_formed hosts name notes (event_part lines files old hosts shaped (event.Step name count) notes new x).0 placed
  part_formed old hosts shaped (event.Finish name) valid notes new x sound placed =
      some_formed hosts name notes (event_part lines files old hosts shaped (event.Finish name) notes new x) placed
  part_formed old hosts shaped e valid notes new x sound placed = absurd x

  -- a mkfs that a media fault cut
  break_formed : AreAllFormed BreaksEvent
  break_formed old hosts shaped (event.Mkfs name request) valid notes new x sound placed =
      cut_formed lines old.machines hosts shaped name request notes new.machines x.0
  break_formed old hosts shaped e valid notes new x sound placed = absurd x

  whole_formed : AreAllFormed (DoesEvent files)
  whole_formed old hosts shaped e valid notes new x sound placed =
      event_formed lines hosts e notes valid (event_shape lines files old hosts shaped e notes new x).shape sound placed

  module _ (events : List Event) (valid : AreSound events) (old : Session) (hosts : List HostShape) (shaped : AreShaped lines old.machines hosts)
      (journal : List Note) (new : Session) (sound : AreSoundNotes journal) (placed : HavePlaces hosts journal) where
    prefix_formed : (count : ℕ) → Follows files (take count events) old journal new → AreFormed lines hosts journal
    prefix_formed count x =
        follows_formed lines (take count events) hosts journal (valid_take count events valid)
        (follows_shape lines files (take count events) old hosts shaped journal new x).shape sound placed

    up_to_formed : (P : Event → Session → List Note → Session → Type 0) → AreAllFormed P → FollowsUpTo P files events old journal new → AreFormed lines hosts journal
    up_to_formed P each x =
        let first = follows_shape lines files (take x.count events) old hosts shaped x.whole_notes x.mid x.whole in
        let sounds = sound_parts lines x.whole_notes x.part_notes (subst AreSoundNotes x.joined sound) in
        let places = placed_parts lines hosts x.whole_notes x.part_notes (subst (HavePlaces hosts) x.joined placed) in
        subst (λ (l : List Note). AreFormed lines hosts l) (sym x.joined)
        (formed_both lines hosts x.whole_notes x.part_notes
        (follows_formed lines (take x.count events) hosts x.whole_notes (valid_take x.count events valid) first.shape sounds.0 places.0)
        (each x.mid (shapes_behind hosts x.whole_notes) first.next x.event (valid_at x.count events x.event valid x.is) x.part_notes new x.part sounds.1 places.1))

    -- however it ends
    pub ends_formed : (ending : Ending) → EventsDone ending files events old journal new → AreFormed lines hosts journal
    ends_formed AllDone x = follows_formed lines events hosts journal valid (follows_shape lines files events old hosts shaped journal new x).shape sound placed
    ends_formed MkfsFails x = up_to_formed BreaksEvent break_formed x
    ends_formed (SourceFails end) x = prefix_formed x.count x.follows
    ends_formed EndsOutOfMemory (inl x) = prefix_formed x.count x.follows
    ends_formed EndsOutOfMemory (inr x) = up_to_formed (PartOf files) part_formed x
    ends_formed EndsOutOfMemoryBroken x = up_to_formed BreaksEvent break_formed x
    ends_formed SinkFails x = up_to_formed (DoesEvent files) whole_formed x

-- From an image.

module _ (start : Image) (files : Files) (events : List Event) (journal : List Note) (last : Session) (asks : AskSoundCommands events)
    (ending : Ending) (done : EventsDone ending files events (first_session start) journal last) where
  shaped : AreShaped (length start) (first_session start).machines []
  shaped = first_shaped files events start journal last

  fit : AreFit IsGoodCommand [] journal
  fit = ends_fit IsGoodCommand (length start) files events (asks_good events asks) (first_session start) [] shaped journal last ending done

  -- its commands are sound
  pub run_sound : AreSoundNotes journal
  run_sound = notes_sound journal fit.1

  -- and so are their listings
  pub run_listed : AreListedNotes journal
  run_listed = notes_listed journal fit.1

  -- it is legal and formed, and so explains itself
  pub run_explained : AreSound events → IsImage start → IsExplained start journal
  run_explained valid image =
      legal_explained start journal (run_settled start image files events valid ending journal last done).legal
      (ends_formed (length start) files events valid (first_session start) [] shaped journal last run_sound fit.0 ending done)
