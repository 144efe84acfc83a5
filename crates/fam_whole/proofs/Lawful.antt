-- Whatever a call of the program runs keeps the laws of runs.
use Rattle.std.proofs.Common.{◌≡◌, ◌⊎◌, inl, inr, ℕ, List, Option, Some, None, option_map, IfSome, subst}
use Rattle.std.specs.Prelude.{true, false}
use Rattle.fam_base.specs.Image.{Image}
use Rattle.fam_media.specs.Files.{Files}
use Rattle.fam_grammar.specs.Scripts.{script_events}
use Rattle.fam_grammar.proofs.UuidLaw.{script_uuids}
use Rattle.fam_journal.specs.declared.event.Event.{Event}
use Rattle.fam_journal.specs.Complete.{AreRuled}
use Rattle.fam_journal.specs.Ends.{AllDone, Ending}
use Rattle.fam_journal.specs.Laws.{AreSound, IsImage}
use Rattle.fam_journal.specs.Notes.{Note}
use Rattle.fam_journal.specs.Past.{first_past}
use Rattle.fam_journal.proofs.Runs.Completing.{all_ruled}
use Rattle.fam_journal.proofs.Runs.Following.{run_settled}
use Rattle.fam_outcomes.specs.declared.status.Status.{Status}
use Rattle.fam_outcomes.specs.Programs.{Command, CommandRuns, EndsEarly, Makes, MakesParents, OneShot, Runs, Script, Single, Storm}
use Rattle.fam_outcomes.specs.Runs.{HasRun, Outside, RunsOn}
use Rattle.fam_outcomes.proofs.Faultless.{run_complete}
use Rattle.fam_storm.specs.Storm.{storm}
use Rattle.fam_words.specs.declared.wanted.Invocation.{Invocation}
use Rattle.fam_top.specs.Calls.{CallEnds, HasOneShotUuids, HasCommandUuids, invoked_command}
use Rattle.fam_whole.specs.Called.{IsLawful, OfRun, RunsLawfully}
use Rattle.fam_whole.proofs.Shots.{IsSoundShot, shot_events_sound}

module _ (out : Outside) (files : Files) (start : Image) (told_start : out.media.old.image ≡ Some start) (told : out.shelf.old.files ≡ Some files) (image : IsImage start) where
  ruled_where : (ending : Ending) (events : List Event) (journal : List Note) → AreSound events
      → RunsOn ending files events start out.media.new.image journal → ending ≡ AllDone → AreRuled (first_past start) journal
  ruled_where ending events journal sound on is =
      let all : RunsOn AllDone files events start out.media.new.image journal = subst (λ (z : Ending). RunsOn z files events start out.media.new.image journal) is on in
      all_ruled start files events image sound journal all.last all.follows

  lawful : {puts : Ending → List Note → List ℕ → Type 0} {gives : Ending → List Note → Status} {text : List ℕ} {own : Status} (ending : Ending)
      (events : List Event) → AreSound events → (run : HasRun puts gives ending out events text own)
      → RunsLawfully out files start ending events run.journal
  lawful ending events sound run =
      let on : RunsOn ending files events start out.media.new.image run.journal = run.told start told_start files told in
      record {
        runs = on;
        settled = run_settled start image files events sound ending run.journal on.last on.follows;
        ruled = ruled_where ending events run.journal sound on;
        complete = λ none. run_complete out none run.journal run.counted ending files events start out.media.new.image image sound run.caused on;
      }

  sound_shot : (shot : OneShot) → HasOneShotUuids shot → IsSoundShot shot
  sound_shot (Makes request) is = is
  sound_shot (Runs what) is = tt
  sound_shot (MakesParents path attr) is = tt

  command_runs : (command : Option Command) (given own : Status) (text : List ℕ) → IfSome command HasCommandUuids
      → (x : CommandRuns script_events storm command out given text own) → OfRun out files start command given own text x
  command_runs None given own text uuids x = tt
  command_runs (Some (Single me shot)) given own text uuids x =
      lawful x.ending x.events (shot_events_sound me shot uuids.0 (sound_shot shot uuids.1) x.events x.run.journal x.run.text_is.0) x.run
  command_runs (Some (Script name)) given own text uuids x = lawful x.ending x.events (script_uuids x.bytes x.events x.reads) x.run
  command_runs (Some (Storm seed size true)) given own text uuids x = tt
  command_runs (Some (Storm seed size false)) given own text uuids x = lawful x.ending x.events (script_uuids (storm seed size) x.events x.reads) x.run

  shown : (command : Option Command) (given own : Status) (text : List ℕ) → IfSome command HasCommandUuids
      → (shows : EndsEarly script_events storm command out text own ⊎ CommandRuns script_events storm command out given text own)
      → IsLawful out files start command given own text shows
  shown command given own text uuids (inl early) = tt
  shown command given own text uuids (inr x) = command_runs command given own text uuids x

-- the run that the clause tells
pub call_lawful : (asked : Option Invocation) (me random : List ℕ) (out : Outside) (given : Status) (files : Files) (start : Image)
    → (call : CallEnds asked me random out given) → out.media.old.image ≡ Some start → out.shelf.old.files ≡ Some files
    → IsLawful out files start (option_map (invoked_command me random) asked) given call.ends.own call.ends.text call.ends.shows
call_lawful asked me random out given files start call told_start told =
    shown out files start told_start told (call.image start told_start) (option_map (invoked_command me random) asked) given call.ends.own call.ends.text call.uuids call.ends.shows
