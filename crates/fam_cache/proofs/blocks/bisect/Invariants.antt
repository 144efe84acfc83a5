use Rattle.std.proofs.Common.{◌-◌, ℕ, ◌<◌, ◌≤◌, length}
use Rattle.fam_cache.specs.Blocks.{area_at}
use Rattle.fam_cache.proofs.blocks.bisect.Given as goal

abbrev pub invariant-loop-low : goal.invariant-loop-low
invariant-loop-low l = record {
  ordered : l.low ≤ l.high;
  within : l.high ≤ length l.areas;
  before : (j : ℕ) → j < l.low → area_at l.areas j < l.number;
  from : (j : ℕ) → l.high ≤ j → j < length l.areas → l.number ≤ area_at l.areas j;
}

abbrev pub decreases-loop-low : goal.decreases-loop-low
decreases-loop-low l = l.high - l.low
