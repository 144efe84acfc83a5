-- What holds of the run that the clause of the top call tells, by that clause alone.
use Rattle.std.specs.Prelude.{ℕ, ⊤, ◌≡◌, ◌⊎◌, true, false, List, Option, Some, None}
use Rattle.std.proofs.Common.{inl, inr}
use Rattle.fam_base.specs.Image.{Image}
use Rattle.fam_media.specs.Files.{Files}
use Rattle.fam_grammar.specs.Scripts.{script_events}
use Rattle.fam_journal.specs.declared.event.Event.{Event}
use Rattle.fam_journal.specs.Complete.{AreRuled, IsComplete}
use Rattle.fam_journal.specs.Ends.{AllDone, Ending, EndsOutOfMemory}
use Rattle.fam_journal.specs.Laws.{IsSettled}
use Rattle.fam_journal.specs.Notes.{Note}
use Rattle.fam_journal.specs.Past.{first_past}
use Rattle.fam_outcomes.specs.declared.status.Status.{Status}
use Rattle.fam_outcomes.specs.Programs.{Command, CommandRuns, EndsEarly, Script, Single, Storm}
use Rattle.fam_outcomes.specs.Runs.{NoneRose, Outside, RunsOn}
use Rattle.fam_storm.specs.Storm.{storm}

-- these events ran from the image, with the files, and ended so with this journal. It is legal, and the image that is left reads as
-- it settles, or behind a mkfs that a media fault cut as that mkfs leaves it; where all events are done each answer is of the rules; and where no count
-- rose they are, or memory ran out
pub record RunsLawfully (out : Outside) (files : Files) (start : Image) (ending : Ending) (events : List Event) (journal : List Note) : Type 0 where
  pub runs : RunsOn ending files events start out.media.new.image journal
  pub settled : IsSettled ending start files events journal runs.last runs.follows
  pub ruled : ending ≡ AllDone → AreRuled (first_past start) journal
  pub complete : NoneRose out → ((ending ≡ AllDone) × IsComplete files events start journal) ⊎ (ending ≡ EndsOutOfMemory)

-- of the run of a command
abbrev pub OfRun : (out : Outside) (files : Files) (start : Image) (command : Option Command) (given own : Status) (text : List ℕ) → CommandRuns script_events storm command out given text own → Type 0
OfRun out files start None given own text x = ⊤
OfRun out files start (Some (Single me shot)) given own text x = RunsLawfully out files start x.ending x.events x.run.journal
OfRun out files start (Some (Script name)) given own text x = RunsLawfully out files start x.ending x.events x.run.journal
OfRun out files start (Some (Storm seed size true)) given own text x = ⊤
OfRun out files start (Some (Storm seed size false)) given own text x = RunsLawfully out files start x.ending x.events x.run.journal

-- where the clause tells a run
abbrev pub IsLawful : (out : Outside) (files : Files) (start : Image) (command : Option Command) (given own : Status) (text : List ℕ) → EndsEarly script_events storm command out text own ⊎ CommandRuns script_events storm command out given text own → Type 0
IsLawful out files start command given own text (inl early) = ⊤
IsLawful out files start command given own text (inr x) = OfRun out files start command given own text x
