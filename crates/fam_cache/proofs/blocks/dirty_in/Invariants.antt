use Rattle.std.proofs.Common.{◌≡◌, ◌≤◌, take}
use Rattle.std.specs.Prelude.{count_by}
use Rattle.fam_cache.specs.Blocks.{is_dirty_by}
use Rattle.fam_cache.proofs.blocks.dirty_in.Given as goal

abbrev pub invariant-loop-i : goal.invariant-loop-i
invariant-loop-i l = record {
  count : l.count ≡ count_by is_dirty_by (take l.i l.block.marks);
  few : l.count ≤ l.i;
}
