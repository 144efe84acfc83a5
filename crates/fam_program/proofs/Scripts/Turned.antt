-- What is put of a script behind an event of its loop, as it came to its end.
use Rattle.std.proofs.Common.{◌≡◌, ℕ, ◌≤◌, List, [], ◌++◌, length, take, drop, option_map, Result, Ok, Err, refl, sym, ap, subst, ◌∙◌}
use Rattle.fam_media.specs.Outside.{with_piece}
use Rattle.fam_media.specs.States.{MediaState, ShelfState, SinkState, change}
use Rattle.fam_journal.specs.declared.event.Event.{Event}
use Rattle.fam_journal.specs.Names.{NameDeclared}
use Rattle.fam_journal.specs.Notes.{Note}
use Rattle.fam_journal.specs.View.{WorldView}
use Rattle.fam_outcomes.specs.declared.status.Status.{Status}
use Rattle.fam_outcomes.specs.declared.status.Status.TheVariants as status
use Rattle.fam_outcomes.specs.Statuses.{good_status, is_good}
use Rattle.fam_outcomes.specs.Texts.{names_behind, render, render_behind}
use Rattle.fam_outcomes.proofs.Names.{render_more}
use Rattle.fam_notes.specs.declared.note.Note.{Note as Kept}
use Rattle.fam_notes.specs.Notes.{notes_view}
use Rattle.fam_events.specs.declared.fault.EventFault.{EventFault}
use Rattle.fam_program.specs.Far.{Now, base_of, now_of}
use Rattle.fam_program.specs.Puts.{PutPart, PutShort, StopSays}
use Rattle.fam_program.specs.Runs.{outside_of}
use Rattle.fam_program.specs.Scripts.{ScriptRan}
use Rattle.fam_program.proofs.Runs.EventTold.{Noted, before, noted, rest, text_is, within}
use Rattle.fam_program.proofs.Runs.GoesOn.{named_more, next_of}
use Rattle.fam_program.proofs.Runs.Turns.{Turned, Turns}
use Rattle.fam_program.proofs.Runs.TurnedEnds.{done_far}
use Rattle.fam_program.proofs.Scripts.Puts.{all_script, sink_script, stop_script, want_script}
use Rattle.fam_program.proofs.Texts.Pieces.{pieces}

module _ {M S K : Type 0} {size : M → ℕ} {state : M → MediaState} {shelf_state : S → ShelfState} (sink_state : K → SinkState) {events : List Event} {media : M} {shelf : S} (out : K) where
  -- all events are done, and their text was put
  pub all_put : {here : M} {shelf_here : S} {world : WorldView} {copied : ℕ} {passed left : List Event}
      → Turns size state shelf_state events media here shelf shelf_here world copied passed left → take (length passed) events ≡ events
      → (last : K) → (sink_state last).bytes ≡ option_map (with_piece (render world.journal)) (sink_state out).bytes
      → ScriptRan events (outside_of size state media here (change shelf_state shelf shelf_here) (change sink_state out last)) (good_status (is_good world.journal))
  all_put {here} {shelf_here} {world} {copied} {passed} t all last put =
      all_script (base_of events (size media) (state media) (shelf_state shelf)) (change shelf_state shelf shelf_here) (change sink_state out last)
      (now_of world (state here) copied) (length passed) t.far all put

  module _ {next : M} {shelf_next : S} {here : Now} {world : WorldView} {copied : ℕ} {passed : List Event} {e : Event} where
    module _ {said : Result (Unit {0}) EventFault} (t : Turned size state shelf_state events media next shelf shelf_next here world copied passed e said) where
      abbrev adds : Noted (next_of (base_of events (size media) (state media) (shelf_state shelf)) here (now_of world (state next) copied))
      adds = noted e (change shelf_state shelf shelf_next) (next_of (base_of events (size media) (state media) (shelf_state shelf)) here (now_of world (state next) copied)) said t.says

      -- all notes name hosts that are declared before them
      pub all_named : NameDeclared 0 world.journal
      all_named = named_more (base_of events (size media) (state media) (shelf_state shelf)) (length passed) here (now_of world (state next) copied) t.far adds.notes adds.named adds.joined

      module _ (kept : List Kept) (kept_is : notes_view kept ≡ here.world.journal) where
        pub from_within : length kept ≤ length world.journal
        from_within = within kept here.world.journal world.journal kept_is adds.notes adds.joined

        -- the notes before the event's own
        pub notes_before : take (length kept) world.journal ≡ here.world.journal
        notes_before = before kept here.world.journal world.journal kept_is adds.notes adds.joined

        -- with the text of its notes that of all is put
        pub text_put : (names : List (List ℕ)) → names ≡ names_behind [] here.world.journal → (mid last : K)
            → (sink_state mid).bytes ≡ option_map (with_piece (render here.world.journal)) (sink_state out).bytes
            → (sink_state last).bytes ≡ option_map (with_piece (render_behind names (drop (length kept) world.journal))) (sink_state mid).bytes
            → (sink_state last).bytes ≡ option_map (with_piece (render world.journal)) (sink_state out).bytes
        text_put names names_are mid last first second =
            second
            ∙ ap (option_map (with_piece (render_behind names (drop (length kept) world.journal)))) first
            ∙ pieces (render here.world.journal) (render_behind names (drop (length kept) world.journal)) (sink_state out).bytes
            ∙ ap (λ (t : List ℕ). option_map (with_piece (render here.world.journal ++ t)) (sink_state out).bytes)
            (text_is kept here.world.journal world.journal kept_is adds.notes adds.joined names names_are)
            ∙ ap (λ (t : List ℕ). option_map (with_piece t) (sink_state out).bytes) (sym (ap render adds.joined ∙ render_more here.world.journal adds.notes))

    module _ (kept : List Kept) (kept_is : notes_view kept ≡ here.world.journal) (names : List (List ℕ))
        (names_are : names ≡ names_behind [] here.world.journal) (mid last : K) (later : (sink_state out).faults ≤ (sink_state mid).faults)
        (put : (sink_state mid).bytes ≡ option_map (with_piece (render here.world.journal)) (sink_state out).bytes) where
      -- the event ended the run, which was said behind what came of it
      pub stop_put : {x : EventFault} {given : Status} → Turned size state shelf_state events media next shelf shelf_next here world copied passed e (Err x)
          → StopSays x names (drop (length kept) world.journal) (change sink_state mid last) given
          → ScriptRan events (outside_of size state media next (change shelf_state shelf shelf_next) (change sink_state out last)) given
      stop_put {x} {given} t says =
          stop_script (base_of events (size media) (state media) (shelf_state shelf)) (change shelf_state shelf shelf_next)
          (change sink_state out last) (change sink_state mid last) refl refl later here put given (length passed) t.far e t.is
          (now_of world (state next) copied) x t.says
          names names_are (drop (length kept) world.journal) (λ notes joined. rest kept here.world.journal world.journal kept_is notes joined) says

      -- the sink failed at the notes of the event
      pub failed_put : Turned size state shelf_state events media next shelf shelf_next here world copied passed e (Ok tt)
          → PutPart (render_behind names (drop (length kept) world.journal)) (change sink_state mid last)
          → ScriptRan events (outside_of size state media next (change shelf_state shelf shelf_next) (change sink_state out last)) status.SinkFault
      failed_put t part =
          sink_script (base_of events (size media) (state media) (shelf_state shelf)) (change shelf_state shelf shelf_next)
          (change sink_state out last) (change sink_state mid last) refl refl later here (now_of world (state next) copied) put
          (length passed) t.far e t.is t.says
          (render_behind names (drop (length kept) world.journal)) (text_is kept here.world.journal world.journal kept_is t.says.adds.notes t.says.adds.joined names names_are) part

      -- no memory was left for them
      pub short_put : {given : Status} → Turned size state shelf_state events media next shelf shelf_next here world copied passed e (Ok tt)
          → PutShort names (drop (length kept) world.journal) (change sink_state mid last) given
          → ScriptRan events (outside_of size state media next (change shelf_state shelf shelf_next) (change sink_state out last)) given
      short_put {given} t short =
          want_script (base_of events (size media) (state media) (shelf_state shelf)) (change shelf_state shelf shelf_next)
          (change sink_state out last) (change sink_state mid last) refl refl later here put given (length passed) t.far e t.is
          (now_of world (state next) copied) t.says (done_far t)
          (subst (λ (ns : List Note). PutShort (names_behind [] here.world.journal) ns (change sink_state mid last) given)
          (rest kept here.world.journal world.journal kept_is t.says.adds.notes t.says.adds.joined)
          (subst (λ (ns : List (List ℕ)). PutShort ns (drop (length kept) world.journal) (change sink_state mid last) given) names_are short))
