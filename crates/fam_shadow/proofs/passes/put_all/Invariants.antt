use Rattle.std.proofs.Common.{◌≤◌}
use Rattle.std.specs.FinMap as map
use Rattle.fam_tree.specs.Iter.{tree_iter_rest}
use Rattle.fam_shadow.specs.Passes.{EntriesPut}
use Rattle.fam_shadow.proofs.passes.put_all.Given as goal

abbrev pub invariant-loop-entry : goal.invariant-loop-entry
invariant-loop-entry g l = record {
  put : EntriesPut (map.values l.tree) (tree_iter_rest l.entry-iterator) (g.D.Shade.state l.initial.shade) (g.D.Shade.state l.shade);
  later : (g.D.Shade.state l.initial.shade).faults ≤ (g.D.Shade.state l.shade).faults;
}
