use Rattle.std.proofs.Common.{◌≡◌, ◌≤◌, ℕ, List}
use Rattle.fam_machine.specs.Caches.{Cache}
use Rattle.fam_cache.specs.BroughtRuns.{LacksNone, brought_run}
use Rattle.fam_run.specs.Runs.{AreAbsent}
use Rattle.fam_run.proofs.comparing_run.drop_behind.Given as goal

-- the lines from here on were dropped
abbrev pub invariant-lines : goal.invariant-lines
invariant-lines l = record {
  few : l.at ≤ l.end;
  above : l.from ≤ l.at;
  clean : LacksNone l.cache.lines l.first.0 l.at;
  lines : (lines : List (List ℕ)) (before : Cache) → AreAbsent before l.first.0 l.end → l.fn.cache.lines ≡ brought_run l.first.0 lines l.end before
      → l.cache.lines ≡ brought_run l.first.0 lines l.at before;
}

abbrev pub decreases-lines : goal.decreases-lines
decreases-lines l = l.at
