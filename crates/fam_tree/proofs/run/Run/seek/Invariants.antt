use Rattle.std.proofs.Common.{◌≡◌, ◌-◌, ◌≤◌, ℕ, length}
use Rattle.std.specs.List.{AllWithin}
use Rattle.std.specs.declared.cmp.Ordering.TheVariants.{Less, Greater}
use Rattle.fam_tree.specs.Runs.{place_cmp}
use Rattle.fam_tree.proofs.run.Run.seek.Given as goal

-- what stands before `low` is below the path, and what stands from `high` on above it
abbrev pub invariant-loop-low : goal.invariant-loop-low
invariant-loop-low l = record {
  ordered : l.low ≤ l.high;
  within : l.high ≤ length l.places;
  below : AllWithin (λ (x : ℕ). place_cmp l.entries l.path x ≡ Less) l.places 0 l.low;
  above : AllWithin (λ (x : ℕ). place_cmp l.entries l.path x ≡ Greater) l.places l.high (length l.places);
}

abbrev pub decreases-loop-low : goal.decreases-loop-low
decreases-loop-low l = l.high - l.low
