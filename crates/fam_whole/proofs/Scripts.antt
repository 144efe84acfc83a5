-- What the top call says of a script of whole commands.
use Rattle.std.proofs.Common.{◌≡◌, ◌⊎◌, inl, inr, ℕ, ◌≤◌, List, length, Some, refl, ap, sym, ◌∙◌, subst, arith}
use Rattle.std.specs.Prelude.{option_map, Ok}
use Rattle.std.specs.FinMap as finmap
use Rattle.std.proofs.lemmas.Option.{same_Some}
use Rattle.fam_base.specs.Image.{Image}
use Rattle.fam_media.specs.Files.{Files}
use Rattle.fam_media.specs.Outside.{IsPartlyPut, with_piece}
use Rattle.fam_journal.specs.declared.event.Event.{Event}
use Rattle.fam_outcomes.specs.declared.status.Status.{Status}
use Rattle.fam_outcomes.specs.declared.status.Status.TheVariants as status
use Rattle.fam_journal.specs.Complete.{IsComplete}
use Rattle.fam_journal.specs.Ends.{AllDone, Ending, EndsOutOfMemory}
use Rattle.fam_journal.specs.Events.{first_session}
use Rattle.fam_journal.specs.Follows.{Faulted, Short}
use Rattle.fam_journal.specs.Laws.{AreSound, IsImage}
use Rattle.fam_outcomes.specs.Programs.{BadLine, CommandRuns, Early, EarlyOutOfMemory, EndsEarly, Grammar, IsEarly, LongScript, NoCommand, NoScript, Prints, Script, ScriptFails, ScriptPuts, ScriptRuns, Storms, TopEnds, early_status, script_limit, script_status}
use Rattle.fam_outcomes.specs.Runs.{IsPut, NoneRose, Outside, RunsOn}
use Rattle.fam_outcomes.proofs.Faultless.{all_end, run_complete}
use Rattle.fam_whole.specs.Whole.{AreWhole, EndsExact, IsExact, WholeRun}
use Rattle.fam_whole.proofs.Exact.{exact}

-- where no put failed the text is put whole, and the status is its own
pub put_whole : (out : Outside) → NoneRose out → (own given : Status) (text : List ℕ) → IsPut own given text out
    → (given ≡ own) × (out.sink.new.bytes ≡ option_map (with_piece text) out.sink.old.bytes)
put_whole out none own given text put = go put.outcome
  where
    go : ((given ≡ own) × (out.sink.new.bytes ≡ option_map (with_piece text) out.sink.old.bytes))
        ⊎ ((given ≡ status.SinkFault) × IsPartlyPut out.sink.old.bytes out.sink.new.bytes text)
        → (given ≡ own) × (out.sink.new.bytes ≡ option_map (with_piece text) out.sink.old.bytes)
    go (inl x) = x
    go (inr x) = absurd (none.sink (put.rose x.0))

module _ (out : Outside) (none : NoneRose out) (grammar : Grammar) (storms : Storms) (name : List ℕ) (files : Files) (bytes : List ℕ)
    (events : List Event) (told : out.shelf.old.files ≡ Some files) (holds : finmap.get files name ≡ Some bytes)
    (within : length bytes ≤ script_limit) (reads : grammar bytes ≡ Ok events) where
  -- no event is run only for want of memory
  early_memory : (early : Early) → IsEarly grammar storms (Some (Script name)) out early → early_status early ≡ status.OutOfMemory
  early_memory NoCommand x = absurd cc
  early_memory (NoScript own) x = absurd (let missing = x.1 files told in cc)
  early_memory (LongScript size) x =
      let has = x.1 files told in
      let same : has.0 ≡ bytes = same_Some has.0 bytes (sym has.1 ∙ holds) in
      let sized : size ≡ length bytes = has.2 ∙ ap (λ (l : List ℕ). length l) same in
      let long = x.0 in
      absurd (omega (arith, sized, within, long))
  early_memory (ScriptFails Faulted) x = absurd (none.shelf x)
  early_memory (ScriptFails (Short size got)) x = absurd (none.shorts x.0.0)
  early_memory (BadLine at column) x =
      absurd (let same : x.bytes ≡ bytes = same_Some x.bytes bytes (sym (x.holds files told) ∙ holds) in
      let bad = x.bad in cc)
  early_memory (Prints script) x = absurd x
  early_memory EarlyOutOfMemory x = refl

  module _ (start : Image) (told_start : out.media.old.image ≡ Some start) (image : IsImage start) (sound : AreSound events) (whole : AreWhole events)
      (given : Status) (text : List ℕ) (own : Status) (put : IsPut own given text out) where
    abbrev Comes : List Event → Type 0
    Comes es = (given ≡ status.OutOfMemory) ⊎ EndsExact files es start out given

    script_ends : ScriptRuns grammar name out given text own → Comes events
    script_ends x = subst Comes same (by_ending (run_complete out none x.run.journal x.run.counted x.ending files x.events start out.media.new.image image sound' x.run.caused on))
      where
        same : x.events ≡ events
        same =
            let bytes_same : x.bytes ≡ bytes = same_Some x.bytes bytes (sym (x.holds files told) ∙ holds) in
            let read = x.reads in cc

        sound' : AreSound x.events
        sound' = subst AreSound (sym same) sound

        on : RunsOn x.ending files x.events start out.media.new.image x.run.journal
        on = x.run.told start told_start files told

        done : x.ending ≡ AllDone → IsComplete files x.events start x.run.journal → EndsExact files x.events start out given
        done e complete =
            let all : RunsOn AllDone files x.events start out.media.new.image x.run.journal = subst (λ (z : Ending). RunsOn z files x.events start out.media.new.image x.run.journal) e on in
            let run : WholeRun files x.events start = record { whole = subst AreWhole (sym same) whole; journal = x.run.journal; last = all.last; follows = all.follows; clean = complete.clean } in
            let is : IsExact run = exact start files x.events image sound' run in
            record {
              run = run;
              exact = is;
              answered = all_end files x.events (first_session start) x.run.journal all.last complete.clean all.follows;
              ends = record {
                put = (put_whole out none own given text put).1 ∙ ap (λ (t : List ℕ). option_map (with_piece t) out.sink.old.bytes)
                    (subst (λ (z : Ending). ScriptPuts z x.run.journal text) e x.run.text_is);
                left_is = all.left ∙ ap Some is.image;
                status_is = (put_whole out none own given text put).0 ∙ x.run.status_is ∙ ap (λ (z : Ending). script_status z x.run.journal) e;
              };
            }

        by_ending : ((x.ending ≡ AllDone) × IsComplete files x.events start x.run.journal) ⊎ (x.ending ≡ EndsOutOfMemory) → Comes x.events
        by_ending (inl d) = inr (done d.0 d.1)
        by_ending (inr e) = inl ((put_whole out none own given text put).0 ∙ x.run.status_is ∙ ap (λ (z : Ending). script_status z x.run.journal) e)

    shown_ends : EndsEarly grammar storms (Some (Script name)) out text own ⊎ CommandRuns grammar storms (Some (Script name)) out given text own → Comes events
    shown_ends (inl x) = inl ((put_whole out none own given text put).0 ∙ x.status_is ∙ early_memory x.early x.is)
    shown_ends (inr x) = script_ends x

  -- a script whose commands are whole is run to its end, exactly; or there is no memory
  pub program_exact : (start : Image) → out.media.old.image ≡ Some start → IsImage start → AreSound events → AreWhole events → (given : Status)
      → TopEnds grammar storms (Some (Script name)) out given → (given ≡ status.OutOfMemory) ⊎ EndsExact files events start out given
  program_exact start told_start image sound whole given top = shown_ends start told_start image sound whole given top.text top.own top.put top.shows
