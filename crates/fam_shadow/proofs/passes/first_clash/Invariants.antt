use Rattle.std.proofs.Common.{◌≡◌, ◌≤◌}
use Rattle.std.specs.FinMap as map
use Rattle.fam_tree.specs.Iter.{tree_iter_rest}
use Rattle.fam_shadow.specs.Passes.{AreSeen}
use Rattle.fam_shadow.proofs.passes.first_clash.Given as goal

abbrev pub invariant-loop-entry : goal.invariant-loop-entry
invariant-loop-entry g l = record {
  seen : AreSeen (map.values l.tree) (tree_iter_rest l.entry-iterator) (g.D.Shade.state l.initial.shade) (g.D.Shade.state l.shade) l.first;
  same : (g.D.Shade.state l.shade).nodes ≡ (g.D.Shade.state l.initial.shade).nodes;
  later : (g.D.Shade.state l.initial.shade).faults ≤ (g.D.Shade.state l.shade).faults;
}
