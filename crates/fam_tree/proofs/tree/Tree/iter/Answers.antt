use Rattle.std.proofs.Common.{ap, sym, ◌∙◌}
use Rattle.fam_tree.specs.Runs.{listed}
use Rattle.fam_tree.proofs.Ordered.{tree_in_order, tree_is_keyed, tree_values}
use Rattle.fam_tree.proofs.tree.Tree.iter.Goals as goal

pub returns-clause-own : goal.returns-clause-own
returns-clause-own c =
    let own = c.self.inside in
    rw (← c.self.view_is) (tree_is_keyed (listed own.entries own.runs.items) c.self.invariant.held.held.order)

pub returns-clause-order : goal.returns-clause-order
returns-clause-order c =
    let own = c.self.inside in
    rw (← c.self.view_is) (tree_in_order (listed own.entries own.runs.items) c.self.invariant.held.held.order)

pub returns-clause-rest : goal.returns-clause-rest
returns-clause-rest c =
    let own = c.self.inside in
    rw (← c.self.view_is)
    (ap (listed own.entries) c.deref.ensures.value
    ∙ sym (tree_values (listed own.entries own.runs.items) c.self.invariant.held.held.order))
