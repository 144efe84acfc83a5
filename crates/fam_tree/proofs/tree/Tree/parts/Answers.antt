use Rattle.std.proofs.Common.{ap, sym, ◌∙◌}
use Rattle.fam_tree.specs.Runs.{listed}
use Rattle.fam_tree.proofs.Ordered.{tree_values}
use Rattle.fam_tree.proofs.tree.Tree.parts.Goals as goal

pub returns-clause-listed : goal.returns-clause-listed
returns-clause-listed c =
    let own = c.self.inside in
    rw (← c.self.view_is)
    (ap (listed own.entries) c.deref.ensures.value
    ∙ sym (tree_values (listed own.entries own.runs.items) c.self.invariant.held.held.order))
