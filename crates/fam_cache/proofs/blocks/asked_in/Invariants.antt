use Rattle.std.proofs.Common.{ℕ, ◌-◌, ◌<◌, ◌≤◌}
use Rattle.fam_machine.specs.OneLine.{IsAsked}
use Rattle.fam_cache.specs.Blocks.{cell_in}
use Rattle.fam_cache.proofs.blocks.asked_in.Given as goal

abbrev pub invariant-loop-at : goal.invariant-loop-at
invariant-loop-at l = record {
  from_there : l.from ≤ l.at;
  before : (i : ℕ) → l.from ≤ i → i < l.at → IsAsked (cell_in l.block i) → ⊥;
}

abbrev pub decreases-loop-at : goal.decreases-loop-at
decreases-loop-at l = 16 - l.at
