use Rattle.std.proofs.Common.{◌-◌, ◌≤◌}
use Rattle.fam_cache.specs.Blocks.{lines_of}
use Rattle.fam_cache.specs.BroughtRuns.{AreClean}
use Rattle.fam_cache.proofs.cache.rows.all_clean.Given as goal

abbrev pub invariant-loop-done : goal.invariant-loop-done
invariant-loop-done l = record {
  few : l.done ≤ l.count;
  clean : AreClean (lines_of l.places) l.first l.done;
}

abbrev pub decreases-loop-done : goal.decreases-loop-done
decreases-loop-done l = l.count - l.done
