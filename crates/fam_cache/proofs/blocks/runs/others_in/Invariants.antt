use Rattle.std.proofs.Common.{ℕ, ◌≡◌, ◌≤◌, ◌<◌}
use Rattle.fam_cache.specs.Blocks.{cell_in}
use Rattle.fam_cache.specs.BroughtRuns.{IsClean}
use Rattle.fam_cache.proofs.blocks.runs.others_in.Given as goal

abbrev pub invariant-loop-i : goal.invariant-loop-i
invariant-loop-i l = record {
  few : l.count ≤ l.i;
  clean : l.count ≡ 0 → (i : ℕ) → i < l.i → IsClean (cell_in l.block i);
}
