use Rattle.std.proofs.Common.{◌≡◌, ◌++◌, List}
use Rattle.std.specs.FinMap as finmap
use Rattle.fam_base.specs.declared.entry.Entry.{Entry}
use Rattle.fam_tree.specs.Iter.{tree_iter_rest}
use Rattle.fam_causes.proofs.trees.first_other.Given as goal

abbrev pub invariant-loop-entry : goal.invariant-loop-entry
invariant-loop-entry l = record {
  same : List Entry;
  listed_is : l.listed ≡ same ++ l.rest;
  all_is : finmap.values l.tree ≡ same ++ tree_iter_rest l.entry-iterator;
}
