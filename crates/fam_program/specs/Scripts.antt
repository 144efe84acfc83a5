-- A script's events are run, and their notes put: of each event when it is done.
use Rattle.std.specs.Prelude.{ℕ, ◌≡◌, List}
use Rattle.fam_journal.specs.declared.event.Event.{Event}
use Rattle.fam_outcomes.specs.declared.status.Status.{Status}
use Rattle.fam_journal.specs.Ends.{AllDone, Ending}
use Rattle.fam_outcomes.specs.Programs.{PutsTold, ScriptPuts, script_status}
use Rattle.fam_outcomes.specs.Runs.{HasRun, IsPut, Outside}

-- there is one journal of the events; its text is put, and behind it the line that ends it early. A run of all events ends with the
-- status of its journal
pub record ScriptRan (events : List Event) (out : Outside) (given : Status) : Type 0 where
  pub text : List ℕ
  pub own : Status
  pub ending : Ending
  pub run : HasRun ScriptPuts script_status ending out events text own
  pub whole : ending ≡ AllDone → given ≡ own
  pub each : PutsTold ending events run.journal out
  pub put : IsPut own given text out
