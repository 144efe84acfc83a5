use Rattle.std.proofs.Common.{ℕ, ◌≤◌, ◌<◌}
use Rattle.fam_cache.specs.Blocks.{cell_in}
use Rattle.fam_cache.specs.BroughtRuns.{IsClean}
use Rattle.fam_cache.proofs.blocks.runs.are_fresh.Given as goal

abbrev pub invariant-loop-i : goal.invariant-loop-i
invariant-loop-i l = record { clean : (i : ℕ) → l.from ≤ i → i < l.i → IsClean (cell_in l.block i) }
