-- One host that is declared and runs one command, as a run of its own.
use Rattle.std.proofs.Common.{◌≡◌, ℕ, false, suc, List, [], ◌∷◌, length, take, Result, Some, Ok, Err, refl, ap, sym, subst}
use Rattle.std.specs.Prelude.{OnErr}
use Rattle.std.specs.List.{list_any}
use Rattle.fam_media.specs.Causes.{IsShelfSteady, IsSteady}
use Rattle.fam_media.specs.Outside.{IfModelled}
use Rattle.fam_media.specs.States.{MediaState, ShelfState, SinkChange, change}
use Rattle.fam_journal.specs.declared.event.Ask.{Ask}
use Rattle.fam_journal.specs.declared.event.Event.{Event}
use Rattle.fam_journal.specs.Laws.{IsImage}
use Rattle.fam_journal.specs.Notes.{Note}
use Rattle.fam_journal.specs.View.{WorldView, empty_world}
use Rattle.fam_grammar.specs.Sound.{IsSoundAsk}
use Rattle.fam_outcomes.specs.Statuses.{last_stops, note_stops}
use Rattle.fam_events.specs.Happens.{EventSays}
use Rattle.fam_events.specs.Last.{EventShows}
use Rattle.fam_events.specs.Rested.{IsRested, IsRun}
use Rattle.fam_events.specs.WorldChange.{world_change}
use Rattle.fam_events.specs.declared.fault.EventFault.{EventFault}
use Rattle.fam_program.specs.Far.{base_of, now_of}
use Rattle.fam_program.specs.Runs.{outside_of}
use Rattle.fam_program.specs.Unprinted.{IsOneRun, IsShotEvent, MayLack, ShotEnded}
use Rattle.fam_program.proofs.Commands.ImageLeft.{done_spares}
use Rattle.fam_program.proofs.Commands.MemoryLeft.{one_run}
use Rattle.fam_program.proofs.Runs.Turns.{Turns, first_turns, turned}
use Rattle.fam_program.proofs.Runs.TurnedEnds.{done_ends, done_far, done_goes_on, fault_ends, fault_goes_on, fault_is_told, fault_leaves}

are_one_run : (name me : List ℕ) (what : Ask) → IsOneRun (one_run name me what)
are_one_run name me what = record { name = name; me = me; what = what; events_are = refl }

-- what is told of it, by how it ended
pub record IsAlone {M S : Type 0} (size : M → ℕ) (state : M → MediaState) (shelf_state : S → ShelfState) (events : List Event) (media next : M)
    (shelf shelf_next : S) (said : Result (Unit {0}) EventFault) (journal : List Note) : Type 0 where
  pub ended : (sink : SinkChange) → ShotEnded said (outside_of size state media next (change shelf_state shelf shelf_next) sink) events journal
  pub same : MayLack said journal → IfModelled (state media).image (λ start. IfModelled (shelf_state shelf).files (λ files. (state next).image ≡ Some start))
  pub steady : IsSteady size state media next
  pub shelf_steady : IsShelfSteady (shelf_state shelf) (shelf_state shelf_next)

-- no note stops before it
pub none_before : (world : WorldView) → world ≡ empty_world → list_any note_stops world.journal ≡ false
none_before world fresh = ap (λ (w : WorldView). list_any note_stops w.journal) fresh

-- none of its events is done yet
pub before_run : {M S : Type 0} (size : M → ℕ) (state : M → MediaState) (shelf_state : S → ShelfState) (name me : List ℕ) (what : Ask) (media : M)
    (shelf : S) (world : WorldView) → IsSoundAsk what → world ≡ empty_world → IfModelled (state media).image IsImage
    → Turns size state shelf_state (one_run name me what) media media shelf shelf world 0 [] (one_run name me what)
before_run size state shelf_state name me what media shelf world sound fresh is_image = first_turns media shelf refl (tt, (sound, tt)) fresh is_image

-- One of its events comes to an end, behind which no event is left, or a note stops.
module _ {M S : Type 0} {size : M → ℕ} {state : M → MediaState} {shelf_state : S → ShelfState} {name me : List ℕ} {what : Ask} {media here : M}
    {shelf shelf_here : S} {world : WorldView} {copied : ℕ} {passed left more : List Event} {e : Event}
    (t : Turns size state shelf_state (one_run name me what) media here shelf shelf_here world copied passed left) (is : left ≡ e ∷ more)
    (goes : list_any note_stops world.journal ≡ false) (shot : IsShotEvent e)
    (next : M) (shelf_next : S) (read : ℕ) (size_is : size next ≡ size here) (steady : IsShelfSteady (shelf_state shelf_here) (shelf_state shelf_next)) where
  pub ends_alone : (said : Result (Unit {0}) EventFault) (after : WorldView)
      → EventSays e (change shelf_state shelf_here shelf_next)
      (world_change size state here next world after (shelf_state shelf_here).files copied read) said
      → (IsRun e → OnErr said (IsRested world → IfModelled (state here).image (λ image. (state next).image ≡ Some image)))
      → (said ≡ Ok tt → last_stops after.journal ≡ false → take (suc (length passed)) (one_run name me what) ≡ one_run name me what)
      → IsAlone size state shelf_state (one_run name me what) media next shelf shelf_next said after.journal
  ends_alone (Ok x) after says same all =
      let u = turned t is next shelf_next after read (Ok x) size_is steady says in
      record {
        ended = λ sink. record { count = suc (length passed); ended = done_ends u sink; goes_on = done_goes_on u shot goes; all = all refl };
        same = λ lacks. done_spares (base_of (one_run name me what) (size media) (state media) (shelf_state shelf)) (are_one_run name me what)
            (suc (length passed)) (now_of after (state next) read) (done_far u) lacks;
        steady = u.steady;
        shelf_steady = u.shelf_steady;
      }
  ends_alone (Err fault) after says same all =
      let u = turned t is next shelf_next after read (Err fault) size_is steady says in
      record {
        ended = λ sink. (fault_ends u sink, fault_goes_on u shot goes, fault_is_told u shot goes);
        same = λ lacks. fault_leaves u (are_one_run name me what) same;
        steady = u.steady;
        shelf_steady = u.shelf_steady;
      }

  -- so where the journal is that of the world which is told
  pub shown_alone : (said : Result (Unit {0}) EventFault) (after : WorldView)
      → EventShows e (change shelf_state shelf_here shelf_next)
      (world_change size state here next world after (shelf_state shelf_here).files copied read) said
      → (IsRun e → OnErr said (IsRested world → IfModelled (state here).image (λ image. (state next).image ≡ Some image)))
      → take (suc (length passed)) (one_run name me what) ≡ one_run name me what
      → IsAlone size state shelf_state (one_run name me what) media next shelf shelf_next said after.journal
  shown_alone said after x same all =
      subst (λ (journal : List Note). IsAlone size state shelf_state (one_run name me what) media next shelf shelf_next said journal) (sym x.journal)
      (ends_alone said x.shown x.says same (λ ok last. all))
