use Rattle.std.proofs.Common.{◌≡◌, ◌↔◌}
use Rattle.std.specs.FinMap as finmap
use Rattle.fam_tree.specs.Iter.{tree_iter_rest}
use Rattle.fam_settled.proofs.listed.lists.Given as goal

abbrev pub invariant-loop-entry : goal.invariant-loop-entry
invariant-loop-entry l = (finmap.values l.tree ≡ l.listed) ↔ (tree_iter_rest l.entry-iterator ≡ l.rest)
