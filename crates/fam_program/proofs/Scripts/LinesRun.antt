-- What a loop over a script's lines knows, each of which is read when the events before it are done.
use Rattle.std.proofs.Common.{◌≡◌, ℕ, List, [], ◌∷◌, ◌++◌, length, Option, Some, None, Ok, Err, refl, sym, subst, ◌∙◌}
use Rattle.std.specs.Prelude.{IsOk}
use Rattle.fam_media.specs.Outside.{IfModelled}
use Rattle.fam_media.specs.States.{MediaState, ShelfState, SinkChange, change}
use Rattle.fam_journal.specs.declared.event.Event.{Event}
use Rattle.fam_journal.specs.Ends.{AllDone, EndsOutOfMemory}
use Rattle.fam_journal.specs.Laws.{IsImage}
use Rattle.fam_journal.specs.View.{WorldView, empty_world}
use Rattle.fam_grammar.specs.Scripts.{line_reads, script_events}
use Rattle.fam_grammar.specs.Sound.{IfEvent}
use Rattle.fam_events.specs.declared.fault.EventFault.{EventFault}
use Rattle.fam_program.specs.Far.{base_of, now_of}
use Rattle.fam_program.specs.LineByLine.{StartsWith, with_event}
use Rattle.fam_program.specs.Runs.{HasEnded, ending_of, outside_of}
use Rattle.fam_program.proofs.Runs.Ends.{prefix_ended}
use Rattle.fam_program.proofs.Runs.Turns.{Turned, Turns, all_passed, first_turns, goes_on}
use Rattle.fam_program.proofs.Runs.TurnedEnds.{all_end, fault_ends}
use Rattle.fam_program.proofs.Scripts.FirstLines.{all_sound, is_ok_by, none_in, ok_is, value_is}

-- The events of the lines that were read are done, and those of the rest are left. Media and shelf came from one state to another
-- since the run began.
pub record LinesRun {M S : Type 0} (size : M → ℕ) (state : M → MediaState) (shelf_state : S → ShelfState) (script rest : List ℕ) (media here : M)
    (shelf shelf_here : S) (world : WorldView) (copied : ℕ) : Type 0 where
  pub events : List Event
  pub reads : script_events script ≡ Ok events
  pub passed : List Event
  pub left : List Event
  pub rest_is : script_events rest ≡ Ok left
  pub turns : Turns size state shelf_state events media here shelf shelf_here world copied passed left

module _ {M S : Type 0} {size : M → ℕ} {state : M → MediaState} {shelf_state : S → ShelfState} {script : List ℕ} {media : M} {shelf : S} where
  -- before the first line
  pub first_run : {world : WorldView} → IsOk (script_events script)
      → ((line : List ℕ) (event : Option Event) → line_reads line ≡ Ok event → IfEvent event) → world ≡ empty_world
      → IfModelled (state media).image IsImage
      → LinesRun size state shelf_state script script media media shelf shelf world 0
  first_run good law fresh is_image =
      let all = ok_is (script_events script) good in
      record {
        events = all.0;
        reads = all.1;
        passed = [];
        left = all.0;
        rest_is = all.1;
        turns = first_turns media shelf refl (all_sound law script all.0 all.1) fresh is_image;
      }

  module _ {rest : List ℕ} {here : M} {shelf_here : S} {world : WorldView} {copied : ℕ} (r : LinesRun size state shelf_state script rest media here shelf shelf_here world copied) where
    -- no line of the rest is bad
    pub rest_good : IsOk (script_events rest)
    rest_good = is_ok_by (script_events rest) r.left r.rest_is

    -- no line is left
    pub none_left : rest ≡ [] → r.left ≡ []
    none_left none = value_is (script_events rest) r.left [] r.rest_is (subst (λ (bytes : List ℕ). script_events bytes ≡ Ok []) (sym none) none_in)

    -- the script has no other events
    pub same_events : (events : List Event) → script_events script ≡ Ok events → r.events ≡ events
    same_events events reads = value_is (script_events script) r.events events r.reads reads

    -- no memory is left to read the next line
    pub short_end : (events : List Event) → script_events script ≡ Ok events → (sink : SinkChange)
        → HasEnded EndsOutOfMemory (outside_of size state media here (change shelf_state shelf shelf_here) sink) events world.journal
    short_end events reads sink =
        subst (λ (es : List Event). HasEnded EndsOutOfMemory (outside_of size state media here (change shelf_state shelf shelf_here) sink) es world.journal) (same_events events reads)
        (prefix_ended (base_of r.events (size media) (state media) (shelf_state shelf)) (length r.passed) (now_of world (state here) copied) r.turns.far (change shelf_state shelf shelf_here) sink)

    -- no line is left: all events are done
    pub lines_end : rest ≡ [] → (events : List Event) → script_events script ≡ Ok events → (sink : SinkChange)
        → HasEnded AllDone (outside_of size state media here (change shelf_state shelf shelf_here) sink) events world.journal
    lines_end none events reads sink =
        subst (λ (es : List Event). HasEnded AllDone (outside_of size state media here (change shelf_state shelf shelf_here) sink) es world.journal) (same_events events reads)
        (all_end r.turns (all_passed r.turns (none_left none)) sink)

    -- what is left begins with the event of the next line
    pub left_is : {event : Option Event} {behind : List ℕ} (s : StartsWith rest event behind) → r.left ≡ with_event event s.events
    left_is {event} s = value_is (script_events rest) r.left (with_event event s.events) r.rest_is s.all

    -- it has none
    pub none_read : {behind : List ℕ} → StartsWith rest None behind → LinesRun size state shelf_state script behind media here shelf shelf_here world copied
    none_read s = record {
      events = r.events;
      reads = r.reads;
      passed = r.passed;
      left = r.left;
      rest_is = s.rest ∙ sym s.all ∙ r.rest_is;
      turns = r.turns;
    }

    -- it has one, which is done
    pub one_done : {event : Event} {behind : List ℕ} {next : M} {shelf_next : S} {after : WorldView} {read : ℕ} (s : StartsWith rest (Some event) behind)
        → Turned size state shelf_state r.events media next shelf shelf_next (now_of world (state here) copied) after read r.passed event (Ok tt)
        → LinesRun size state shelf_state script behind media next shelf shelf_next after read
    one_done {event} s t = record {
      events = r.events;
      reads = r.reads;
      passed = r.passed ++ event ∷ [];
      left = s.events;
      rest_is = s.rest;
      turns = goes_on r.turns (left_is s) t;
    }

    -- or ended the run
    pub one_ends : {event : Event} {next : M} {shelf_next : S} {after : WorldView} {read : ℕ} {x : EventFault}
        → Turned size state shelf_state r.events media next shelf shelf_next (now_of world (state here) copied) after read r.passed event (Err x)
        → (events : List Event) → script_events script ≡ Ok events → (sink : SinkChange)
        → HasEnded (ending_of x) (outside_of size state media next (change shelf_state shelf shelf_next) sink) events after.journal
    one_ends {event} {next} {shelf_next} {after} {read} {x} t events reads sink =
        subst (λ (es : List Event). HasEnded (ending_of x) (outside_of size state media next (change shelf_state shelf shelf_next) sink) es
        after.journal) (same_events events reads) (fault_ends t sink)
