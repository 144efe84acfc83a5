use Rattle.std.proofs.Common.{◌≡◌, ◌+◌, ◌≤◌, length}
use Rattle.std.specs.FinMap as finmap
use Rattle.fam_tree.specs.Iter.{tree_iter_rest}
use Rattle.fam_settled.proofs.BehindPaths.{behind_of}
use Rattle.fam_settled.proofs.checks.count_behind.Given as goal

abbrev pub invariant-loop-entry : goal.invariant-loop-entry
invariant-loop-entry l = record {
  counted : l.count + behind_of l.path (tree_iter_rest l.entry-iterator) ≡ behind_of l.path (finmap.values l.tree);
  few : l.count + length (tree_iter_rest l.entry-iterator) ≤ l._most;
}
