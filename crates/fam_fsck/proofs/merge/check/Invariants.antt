use Rattle.std.proofs.Common.{◌≡◌}
use Rattle.std.specs.FinMap as finmap
use Rattle.fam_tree.specs.Iter.{tree_iter_rest}
use Rattle.fam_fsck.specs.Merge.{compared_lists, no_difference}
use Rattle.fam_fsck.proofs.MergeRoom.{HasRoom}
use Rattle.fam_fsck.proofs.merge.check.Given as goal

abbrev pub invariant-loop-entry : goal.invariant-loop-entry
invariant-loop-entry l = record {
  told : compared_lists l.checked (tree_iter_rest l.entry-iterator) l.rest ≡ compared_lists no_difference (finmap.values l.tree) l.listing;
  room : HasRoom l.checked (tree_iter_rest l.entry-iterator) l.rest;
}
