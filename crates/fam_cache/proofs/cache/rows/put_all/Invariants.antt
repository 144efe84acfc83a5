use Rattle.std.proofs.Common.{◌-◌, ◌≤◌, ◌≡◌}
use Rattle.fam_cache.specs.Blocks.{IsKept, lines_of}
use Rattle.fam_cache.specs.BroughtRuns.{brought_run}
use Rattle.fam_cache.proofs.cache.rows.put_all.Given as goal

abbrev pub invariant-loop-done : goal.invariant-loop-done
invariant-loop-done l = record {
  few : l.done ≤ l.count;
  kept : IsKept l.places;
  cache : lines_of l.places ≡ brought_run l.first l.lines l.done (lines_of l.fn.places);
  room : l.places.room ≡ l.fn.places.room;
}

abbrev pub decreases-loop-done : goal.decreases-loop-done
decreases-loop-done l = l.count - l.done
