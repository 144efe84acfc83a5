-- What a loop over a run's events knows before each of them, and behind it.
use Rattle.std.proofs.Common.{◌≡◌, ℕ, List, [], ◌∷◌, ◌++◌, length, take, Result, Some, Ok, refl, sym, subst, ◌∙◌, arith}
use Rattle.std.specs.Prelude.{slice_get}
use Rattle.fam_media.specs.Causes.{IsShelfSteady, IsSteady}
use Rattle.fam_media.specs.Outside.{IfModelled}
use Rattle.fam_media.specs.States.{MediaState, ShelfState, change}
use Rattle.fam_journal.specs.CallRecords.{FitsMedia}
use Rattle.fam_journal.specs.declared.event.Event.{Event}
use Rattle.fam_journal.specs.Laws.{IsImage}
use Rattle.fam_journal.specs.View.{WorldView, empty_world}
use Rattle.fam_grammar.specs.Sound.{IsSoundEvent}
use Rattle.fam_events.specs.WorldChange.{world_change}
use Rattle.fam_events.specs.declared.fault.EventFault.{EventFault}
use Rattle.fam_events.specs.Happens.{EventSays}
use Rattle.fam_program.specs.Far.{AreSoundEvents, Far, Now, base_of, now_of}
use Rattle.fam_program.proofs.Runs.EventTold.{noted, says_from}
use Rattle.fam_program.proofs.Runs.GoesOn.{first_far, more_far, next_of}
use Rattle.fam_program.proofs.Runs.Passed.{all_taken, next_is, one_more, rest_is}

-- The events that were passed are done, and these are left. Media and shelf came from one state to another since the run began,
-- and so many bytes of sources were read.
pub record Turns {M S : Type 0} (size : M → ℕ) (state : M → MediaState) (shelf_state : S → ShelfState) (events : List Event) (media here : M)
    (shelf shelf_here : S) (world : WorldView) (copied : ℕ) (passed left : List Event) : Type 0 where
  pub all : events ≡ passed ++ left
  pub sound : AreSoundEvents left
  pub size_is : size here ≡ size media
  pub shelf_steady : IsShelfSteady (shelf_state shelf) (shelf_state shelf_here)
  pub far : Far (base_of events (size media) (state media) (shelf_state shelf)) (length passed) (now_of world (state here) copied)

-- One more event came to its end, as this result says, from a state of the run to a next one.
pub record Turned {M S : Type 0} (size : M → ℕ) (state : M → MediaState) (shelf_state : S → ShelfState) (events : List Event) (media next : M)
    (shelf shelf_next : S) (here : Now) (world : WorldView) (copied : ℕ) (passed : List Event) (e : Event) (said : Result (Unit {0}) EventFault) :
    Type 0 where
  pub far : Far (base_of events (size media) (state media) (shelf_state shelf)) (length passed) here
  pub is : slice_get events (length passed) ≡ Some e
  pub says : EventSays e (change shelf_state shelf shelf_next) (next_of (base_of events (size media) (state media) (shelf_state shelf)) here (now_of world (state next) copied)) said
  pub steady : IsSteady size state media next
  pub shelf_steady : IsShelfSteady (shelf_state shelf) (shelf_state shelf_next)

module _ {M S : Type 0} {size : M → ℕ} {state : M → MediaState} {shelf_state : S → ShelfState} where
  -- before the first event
  pub first_turns : {events left : List Event} {world : WorldView} (media : M) (shelf : S) → left ≡ events → AreSoundEvents events → world ≡ empty_world → IfModelled (state media).image IsImage
      → Turns size state shelf_state events media media shelf shelf world 0 [] left
  first_turns {events} {left} {world} media shelf all sound fresh is_image =
      let b = base_of events (size media) (state media) (shelf_state shelf) in
      record {
        all = sym all;
        sound = subst AreSoundEvents (sym all) sound;
        size_is = refl;
        shelf_steady = record { same = refl; faults_later = omega arith; shorts_later = omega arith };
        far = subst (λ (w : WorldView). Far b 0 (now_of w (state media) 0)) (sym fresh) (first_far b is_image);
      }

  module _ {events : List Event} {media here : M} {shelf shelf_here : S} {world : WorldView} {copied : ℕ} {passed left : List Event}
      (t : Turns size state shelf_state events media here shelf shelf_here world copied passed left) where
    -- the world fits the media as it is
    pub fits_here : FitsMedia (size here) world.hosts
    fits_here = subst (λ (n : ℕ). FitsMedia n world.hosts) (sym t.size_is) t.far.fits

    pub steady_here : IsSteady size state media here
    steady_here = record { size = t.size_is; later = t.far.later }

    -- where no event is left all are done
    pub all_passed : left ≡ [] → take (length passed) events ≡ events
    all_passed none = all_taken events passed left t.all none

    -- the next one is within its limits
    pub next_sound : {e : Event} {more : List Event} → left ≡ e ∷ more → IsSoundEvent e
    next_sound is = (subst AreSoundEvents is t.sound).0

    -- it comes to its end
    pub turned : {e : Event} {more : List Event} → left ≡ e ∷ more
        → (next : M) (shelf_next : S) (after : WorldView) (read : ℕ) (said : Result (Unit {0}) EventFault) → size next ≡ size here
        → IsShelfSteady (shelf_state shelf_here) (shelf_state shelf_next)
        → EventSays e (change shelf_state shelf_here shelf_next) (world_change size state here next world after (shelf_state shelf_here).files copied read) said
        → Turned size state shelf_state events media next shelf shelf_next (now_of world (state here) copied) after read passed e said
    turned {e} {more} is next shelf_next after read said size_is steady says =
        let b = base_of events (size media) (state media) (shelf_state shelf) in
        let later = change shelf_state shelf shelf_next in
        let from : EventSays e later (next_of b (now_of world (state here) copied) (now_of after (state next) read)) said =
        says_from e (change shelf_state shelf_here shelf_next) later
        (world_change size state here next world after (shelf_state shelf_here).files copied read) (size media)
        (shelf_state shelf).files said t.size_is t.shelf_steady.same
        (record { faults = t.shelf_steady.faults_later; faults_now = refl; shorts = t.shelf_steady.shorts_later; shorts_now = refl }) says in
        record {
          far = t.far;
          is = next_is events passed left more e t.all is;
          says = from;
          steady = record {
            size = size_is ∙ t.size_is;
            later = let x = t.far.later in let y = (noted e later (next_of b (now_of world (state here) copied) (now_of after (state next) read)) said from).later in omega (arith, x, y);
          };
          shelf_steady = record {
            same = steady.same ∙ t.shelf_steady.same;
            faults_later = let x = t.shelf_steady.faults_later in let y = steady.faults_later in omega (arith, x, y);
            shorts_later = let x = t.shelf_steady.shorts_later in let y = steady.shorts_later in omega (arith, x, y);
          };
        }

    -- and where it is done the run goes on behind it
    pub goes_on : {e : Event} {more : List Event} {next : M} {shelf_next : S} {after : WorldView} {read : ℕ} → left ≡ e ∷ more
        → Turned size state shelf_state events media next shelf shelf_next (now_of world (state here) copied) after read passed e (Ok tt)
        → Turns size state shelf_state events media next shelf shelf_next after read (passed ++ e ∷ []) more
    goes_on {e} {more} {next} {shelf_next} {after} {read} is u =
        let b = base_of events (size media) (state media) (shelf_state shelf) in
        let m = now_of after (state next) read in
        record {
          all = rest_is events passed left more e t.all is;
          sound = (subst AreSoundEvents is t.sound).1;
          size_is = u.steady.size;
          shelf_steady = u.shelf_steady;
          far = subst (λ (k : ℕ). Far b k m) (sym (one_more passed e)) (more_far b (length passed) (now_of world (state here) copied) m u.far e u.is u.says);
        }
