-- What an event of a loop, as it came to its end, makes of the run.
use Rattle.std.proofs.Common.{◌≡◌, ℕ, false, suc, List, length, take, Some, Ok, Err, sym, subst}
use Rattle.std.specs.List.{list_any}
use Rattle.fam_media.specs.Outside.{IfModelled}
use Rattle.fam_media.specs.States.{MediaState, ShelfState, SinkChange, change}
use Rattle.fam_journal.specs.declared.event.Event.{Event}
use Rattle.fam_journal.specs.Ends.{AllDone}
use Rattle.fam_journal.specs.View.{WorldView}
use Rattle.fam_outcomes.specs.Statuses.{note_stops}
use Rattle.fam_events.specs.declared.fault.EventFault.{EventFault}
use Rattle.fam_events.specs.Rested.{IsRested, IsRun}
use Rattle.fam_program.specs.Far.{Far, Now, base_of, now_of}
use Rattle.fam_program.specs.Unprinted.{OnlyLastStops, HidesNoFault, IsOneRun, IsShotEvent}
use Rattle.fam_program.specs.Runs.{HasEnded, ending_of, outside_of}
use Rattle.fam_program.proofs.Commands.ImageLeft.{fault_spares}
use Rattle.fam_program.proofs.Commands.NoFaultHidden.{fault_hides}
use Rattle.fam_program.proofs.Runs.Ends.{all_ended}
use Rattle.fam_program.proofs.Runs.GoesOn.{more_far}
use Rattle.fam_program.proofs.Runs.NothingPut.{fault_ended, fault_goes, taken_ended}
use Rattle.fam_program.proofs.Runs.Stops.{go_behind, step_goes}
use Rattle.fam_program.proofs.Runs.Turns.{Turned, Turns}

module _ {M S : Type 0} {size : M → ℕ} {state : M → MediaState} {shelf_state : S → ShelfState} {events : List Event} {media : M} {shelf : S} where
  -- nothing is left: all events are done
  pub all_end : {here : M} {shelf_here : S} {world : WorldView} {copied : ℕ} {passed left : List Event} → Turns size state shelf_state events media here shelf shelf_here world copied passed left
      → take (length passed) events ≡ events → (sink : SinkChange) → HasEnded AllDone (outside_of size state media here (change shelf_state shelf shelf_here) sink) events world.journal
  all_end {here} {shelf_here} {world} {copied} {passed} t all sink =
      all_ended (base_of events (size media) (state media) (shelf_state shelf)) (length passed) (now_of world (state here) copied) t.far (change shelf_state shelf shelf_here) sink all

  -- the events that were passed are done
  pub passed_end : {here : M} {shelf_here : S} {world : WorldView} {copied : ℕ} {passed left : List Event} → Turns size state shelf_state events media here shelf shelf_here world copied passed left
      → (sink : SinkChange) → HasEnded AllDone (outside_of size state media here (change shelf_state shelf shelf_here) sink) (take (length passed) events) world.journal
  passed_end {here} {shelf_here} {world} {copied} {passed} t sink =
      taken_ended (base_of events (size media) (state media) (shelf_state shelf)) (length passed) (now_of world (state here) copied) t.far (change shelf_state shelf shelf_here) sink

  module _ {next : M} {shelf_next : S} {here : Now} {world : WorldView} {copied : ℕ} {passed : List Event} {e : Event} where
    -- the event ended the run
    module _ {x : EventFault} (t : Turned size state shelf_state events media next shelf shelf_next here world copied passed e (Err x)) where
      pub fault_ends : (sink : SinkChange) → HasEnded (ending_of x) (outside_of size state media next (change shelf_state shelf shelf_next) sink) events world.journal
      fault_ends sink =
          fault_ended (base_of events (size media) (state media) (shelf_state shelf)) (length passed) here (now_of world (state next) copied) t.far e
          t.is (change shelf_state shelf shelf_next) sink x t.says

      module _ (shot : IsShotEvent e) (goes : list_any note_stops here.world.journal ≡ false) where
        -- at most its last note stops
        pub fault_goes_on : OnlyLastStops world.journal
        fault_goes_on = fault_goes (base_of events (size media) (state media) (shelf_state shelf)) here (now_of world (state next) copied) e shot (change shelf_state shelf shelf_next) x goes t.says

        pub fault_is_told : HidesNoFault x world.journal
        fault_is_told = fault_hides (base_of events (size media) (state media) (shelf_state shelf)) here (now_of world (state next) copied) e shot (change shelf_state shelf shelf_next) x goes t.says

      -- and leaves the image of one command
      pub fault_leaves : IsOneRun events → (IsRun e → IsRested here.world → IfModelled here.media.image (λ start. (state next).image ≡ Some start))
          → IfModelled (state media).image (λ start. IfModelled (shelf_state shelf).files (λ told. (state next).image ≡ Some start))
      fault_leaves one same = fault_spares (base_of events (size media) (state media) (shelf_state shelf)) one here (now_of world (state next) copied)
          (change shelf_state shelf shelf_next) x (length passed) t.far e t.is t.says same

    -- the event is done
    module _ (t : Turned size state shelf_state events media next shelf shelf_next here world copied passed e (Ok tt)) where
      pub done_far : Far (base_of events (size media) (state media) (shelf_state shelf)) (suc (length passed)) (now_of world (state next) copied)
      done_far = more_far (base_of events (size media) (state media) (shelf_state shelf)) (length passed) here (now_of world (state next) copied) t.far e t.is t.says

      -- at most its last note stops
      pub done_goes_on : IsShotEvent e → list_any note_stops here.world.journal ≡ false → OnlyLastStops world.journal
      done_goes_on shot goes =
          subst OnlyLastStops (sym t.says.adds.joined) (go_behind here.world.journal t.says.adds.notes goes (step_goes e shot (size media) _ t.says.adds.notes t.says.adds.shape))

      -- the events up to it are done
      pub done_ends : (sink : SinkChange) → HasEnded AllDone (outside_of size state media next (change shelf_state shelf shelf_next) sink) (take (suc (length passed)) events) world.journal
      done_ends sink =
          taken_ended (base_of events (size media) (state media) (shelf_state shelf)) (suc (length passed)) (now_of world (state next) copied) done_far (change shelf_state shelf shelf_next) sink
