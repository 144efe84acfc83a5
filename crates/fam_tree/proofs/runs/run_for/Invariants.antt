use Rattle.std.proofs.Common.{◌≡◌, ◌+◌, ◌-◌, ◌≤◌, List, ℕ, true, false, length}
use Rattle.std.specs.List.{AllWithin}
use Rattle.fam_tree.specs.Runs.{ends_before}
use Rattle.fam_tree.proofs.runs.run_for.Given as goal

-- runs before `low` end below the path, and those from `high` on don't, but for the last one
abbrev pub invariant-loop-low : goal.invariant-loop-low
invariant-loop-low l = record {
  ordered : l.low ≤ l.high;
  within : l.high + 1 ≤ length l.runs;
  below : AllWithin (λ (r : List ℕ). ends_before l.entries l.path r ≡ true) l.runs 0 l.low;
  above : AllWithin (λ (r : List ℕ). ends_before l.entries l.path r ≡ false) l.runs l.high (length l.runs - 1);
}

abbrev pub decreases-loop-low : goal.decreases-loop-low
decreases-loop-low l = l.high - l.low
