-- Runs in which no count rose are complete.
use Prim.Native.Nat.{zero, suc}
use Rattle.std.proofs.Common.{◌≡◌, ◌⊎◌, inl, inr, ℕ, ◌≤◌, Bool, true, false, List, [], ◌∷◌, length, Option, Some, refl, ap, sym, ◌∙◌, subst, arith}
use Rattle.std.specs.Prelude.{option_map, Ok}
use Rattle.std.specs.FinMap as finmap
use Rattle.std.proofs.lemmas.Option.{same_Some}
use Rattle.fam_base.specs.Image.{Image}
use Rattle.fam_media.specs.Files.{Files}
use Rattle.fam_media.specs.Outside.{IsPartlyPut, with_piece}
use Rattle.fam_journal.specs.declared.event.Event.{Event}
use Rattle.fam_journal.specs.declared.event.Event.TheVariants as event
use Rattle.fam_outcomes.specs.declared.status.Status.{Status}
use Rattle.fam_outcomes.specs.declared.status.Status.TheVariants as status
use Rattle.fam_journal.specs.Calls.{refusal_of}
use Rattle.fam_journal.specs.Complete.{IsComplete, RunAnswers, RunsEnd}
use Rattle.fam_journal.specs.Ends.{AllDone, Ending, HasCounted, IsFaultless, MkfsFails, EndsOutOfMemory, EndsOutOfMemoryBroken, SinkFails, SourceFails, faults_of}
use Rattle.fam_journal.specs.Events.{DoesEvent, Session, first_session}
use Rattle.fam_journal.specs.Follows.{Faulted, Follows, Short, SourceEnd}
use Rattle.fam_journal.specs.Laws.{AreSound, IsImage}
use Rattle.fam_journal.specs.Notes.{Note}
use Rattle.fam_outcomes.specs.Programs.{BadLine, Command, CommandRuns, Early, EndsEarly, Grammar, IsEarly, LongScript, NoCommand, EarlyOutOfMemory, NoScript, Prints, Script, ScriptFails, Storm, Storms, TopEnds, early_status, script_limit, script_status, storm_status}
use Rattle.fam_outcomes.specs.Runs.{IsCaused, NoneRose, Outside, RunsOn, SourceCaused}
use Rattle.fam_outcomes.specs.Statuses.{good_status, is_good}
use Rattle.fam_outcomes.proofs.Causes.{broken_faults, risen}
use Rattle.fam_journal.proofs.Runs.Completing.{all_ruled, run_ends}
use Rattle.fam_journal.proofs.Runs.Unique.{clean_prefix, clean_rest}

-- Events.

module _ (files : Files) where
  event_ends : (e : Event) (old new : Session) (notes : List Note) → IsFaultless notes → DoesEvent files e old notes new → RunAnswers e notes
  unfolding refusal_of
  event_ends (event.Run name what) old new notes clean (inl x) = inl (run_ends files name what old new notes x clean)
  event_ends (event.Run name what) old new notes clean (inr (inl x)) = inr (x.cause, x.notes_are)
  event_ends (event.Run name what) old new notes clean (inr (inr x)) = inr (x.cause, x.does.0)
  event_ends e old new notes clean x = tt

  pub all_end : (events : List Event) (old : Session) (journal : List Note) (new : Session) → IsFaultless journal
      → (follows : Follows files events old journal new) → RunsEnd files events old journal new follows
  all_end [] old journal new clean x = tt
  all_end (e ∷ events) old journal new clean x = (
    event_ends e old x.0 x.1 (clean_prefix x.1 x.2 journal x.5 clean) x.3,
    all_end events x.0 x.2 new (clean_rest x.1 x.2 journal x.5 clean) x.4,
  )

-- Endings.

module _ (out : Outside) (none : NoneRose out) where
  no_source : (end : SourceEnd) → SourceCaused end out → ⊥
  no_source Faulted x = none.shelf x
  no_source (Short size got) x = none.shorts x.0

  module _ (journal : List Note) (counted : HasCounted out.media.old.faults out.media.new.faults journal) where
    no_fault : (1 ≤ faults_of journal) → ⊥
    no_fault some = none.media (risen out.media.old.faults out.media.new.faults journal counted some)

    is_clean : IsFaultless journal
    is_clean = go (faults_of journal) refl
      where
        go : (n : ℕ) → faults_of journal ≡ n → IsFaultless journal
        go zero is = is
        go (suc n) is = absurd (no_fault (omega (arith, is)))

    complete : (start : Image) (files : Files) (events : List Event) (last : Session) → IsImage start → AreSound events
        → Follows files events (first_session start) journal last → IsComplete files events start journal
    complete start files events last image sound follows = record {
      last = last;
      follows = follows;
      clean = is_clean;
      ruled = all_ruled start files events image sound journal last follows;
      ends = all_end files events (first_session start) journal last is_clean follows;
    }

    pub run_complete : (ending : Ending) (files : Files) (events : List Event) (start : Image) (now : Option Image) → IsImage start → AreSound events
        → IsCaused ending events journal out → RunsOn ending files events start now journal
        → ((ending ≡ AllDone) × IsComplete files events start journal) ⊎ (ending ≡ EndsOutOfMemory)
    run_complete AllDone files events start now image sound caused on = inl (refl, complete start files events on.last image sound on.follows)
    run_complete MkfsFails files events start now image sound caused on = absurd (no_fault (broken_faults events journal caused))
    run_complete (SourceFails end) files events start now image sound caused on = absurd (no_source end caused)
    run_complete EndsOutOfMemory files events start now image sound caused on = inr refl
    run_complete EndsOutOfMemoryBroken files events start now image sound caused on = absurd (no_fault (broken_faults events journal caused))
    run_complete SinkFails files events start now image sound caused on = absurd (none.sink caused)

  -- The top call.

  abbrev IsRun : Status → Type 0
  IsRun given = (given ≡ status.Done) ⊎ (given ≡ status.Refused) ⊎ (given ≡ status.OutOfMemory)

  good_run : (t : Bool) → IsRun (good_status t)
  good_run true = inl refl
  good_run false = inr (inl refl)

  script_run : (events : List Event) (journal : List Note) → HasCounted out.media.old.faults out.media.new.faults journal → (ending : Ending)
      → IsCaused ending events journal out → IsRun (script_status ending journal)
  script_run events journal counted AllDone caused = good_run (is_good journal)
  script_run events journal counted MkfsFails caused = absurd (no_fault journal counted (broken_faults events journal caused))
  script_run events journal counted (SourceFails end) caused = absurd (no_source end caused)
  script_run events journal counted EndsOutOfMemory caused = inr (inr refl)
  script_run events journal counted EndsOutOfMemoryBroken caused = absurd (no_fault journal counted (broken_faults events journal caused))
  script_run events journal counted SinkFails caused = absurd (none.sink caused)

  storm_run : (events : List Event) (journal : List Note) → HasCounted out.media.old.faults out.media.new.faults journal → (ending : Ending)
      → IsCaused ending events journal out → (storm_status ending journal ≡ status.Done) ⊎ (storm_status ending journal ≡ status.OutOfMemory)
  storm_run events journal counted AllDone caused = inl refl
  storm_run events journal counted MkfsFails caused = absurd (no_fault journal counted (broken_faults events journal caused))
  storm_run events journal counted (SourceFails end) caused = absurd (no_source end caused)
  storm_run events journal counted EndsOutOfMemory caused = inr refl
  storm_run events journal counted EndsOutOfMemoryBroken caused = absurd (no_fault journal counted (broken_faults events journal caused))
  storm_run events journal counted SinkFails caused = absurd (none.sink caused)

  module _ (grammar : Grammar) (storms : Storms) (given : Status) where
    own_is : (command : Option Command) (top : TopEnds grammar storms command out given) → given ≡ top.own
    own_is command top = go top.put.outcome
      where
        go : ((given ≡ top.own) × (out.sink.new.bytes ≡ option_map (with_piece top.text) out.sink.old.bytes))
            ⊎ ((given ≡ status.SinkFault) × IsPartlyPut out.sink.old.bytes out.sink.new.bytes top.text) → given ≡ top.own
        go (inl x) = x.0
        go (inr x) = absurd (none.sink (top.put.rose x.0))

    module _ (name : List ℕ) (files : Files) (bytes : List ℕ) (events : List Event) (told : out.shelf.old.files ≡ Some files)
        (holds : finmap.get files name ≡ Some bytes) (within : length bytes ≤ script_limit) (reads : grammar bytes ≡ Ok events) where
      early_run : (early : Early) → IsEarly grammar storms (Some (Script name)) out early → IsRun (early_status early)
      early_run NoCommand x = absurd cc
      early_run (NoScript own) x = absurd (let missing = x.1 files told in cc)
      early_run (LongScript size) x =
          let has = x.1 files told in
          let same : has.0 ≡ bytes = same_Some has.0 bytes (sym has.1 ∙ holds) in
          let sized : size ≡ length bytes = has.2 ∙ ap (λ (l : List ℕ). length l) same in
          let long = x.0 in
          absurd (omega (arith, sized, within, long))
      early_run (ScriptFails Faulted) x = absurd (none.shelf x)
      early_run (ScriptFails (Short size got)) x = absurd (none.shorts x.0.0)
      early_run (BadLine at column) x =
          absurd (let same : x.bytes ≡ bytes = same_Some x.bytes bytes (sym (x.holds files told) ∙ holds) in
          let bad = x.bad in cc)
      early_run (Prints script) x = absurd x
      early_run EarlyOutOfMemory x = inr (inr refl)

      shows_run : (text : List ℕ) (own : Status) → EndsEarly grammar storms (Some (Script name)) out text own ⊎ CommandRuns grammar storms (Some (Script name)) out given text own → IsRun own
      shows_run text own (inl x) = subst IsRun (sym x.status_is) (early_run x.early x.is)
      shows_run text own (inr x) = subst IsRun (sym x.run.status_is) (script_run x.events x.run.journal x.run.counted x.ending x.run.caused)

      pub script_is_run : TopEnds grammar storms (Some (Script name)) out given → IsRun given
      script_is_run top = subst IsRun (sym (own_is (Some (Script name)) top)) (shows_run top.text top.own top.shows)

    abbrev IsStormRun : Status → Type 0
    IsStormRun s = (s ≡ status.Done) ⊎ (s ≡ status.OutOfMemory)

    early_storm : (seed size : ℕ) (early : Early) → IsEarly grammar storms (Some (Storm seed size false)) out early → IsStormRun (early_status early)
    early_storm seed size NoCommand x = absurd cc
    early_storm seed size EarlyOutOfMemory x = inr refl
    early_storm seed size e x = absurd x

    shows_storm : (seed size : ℕ) (text : List ℕ) (own : Status) → EndsEarly grammar storms (Some (Storm seed size false)) out text own
        ⊎ CommandRuns grammar storms (Some (Storm seed size false)) out given text own → IsStormRun own
    shows_storm seed size text own (inl x) = subst IsStormRun (sym x.status_is) (early_storm seed size x.early x.is)
    shows_storm seed size text own (inr x) = subst IsStormRun (sym x.run.status_is) (storm_run x.events x.run.journal x.run.counted x.ending x.run.caused)

    pub storm_is_run : (seed size : ℕ) → TopEnds grammar storms (Some (Storm seed size false)) out given → IsStormRun given
    storm_is_run seed size top = subst IsStormRun (sym (own_is (Some (Storm seed size false)) top)) (shows_storm seed size top.text top.own top.shows)
