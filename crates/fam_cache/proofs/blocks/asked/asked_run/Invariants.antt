use Rattle.std.proofs.Common.{◌-◌, ℕ, ◌≤◌, ◌<◌}
use Rattle.fam_cache.specs.Blocks.{cell_in}
use Rattle.fam_cache.specs.SentRuns.{IsAskedCopy}
use Rattle.fam_cache.proofs.blocks.asked.asked_run.Given as goal

abbrev pub invariant-loop-end : goal.invariant-loop-end
invariant-loop-end l = record {
  from_there : l.from ≤ l.end;
  within : l.end ≤ 16;
  asked : (i : ℕ) → l.from ≤ i → i < l.end → IsAskedCopy (cell_in l.block i) l.block.words i;
}

abbrev pub decreases-loop-end : goal.decreases-loop-end
decreases-loop-end l = 16 - l.end
