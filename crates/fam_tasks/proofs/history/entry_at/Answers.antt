use Rattle.std.proofs.Common.{ap, ◌∙◌}
use Rattle.std.specs.FinMap as map
use Rattle.fam_format.specs.Tree.{Tree}
use Rattle.fam_replay.proofs.Found.{found_if}
use Rattle.fam_tasks.proofs.history.entry_at.Goals as goal

pub returns-clause-proper : goal.returns-clause-proper
returns-clause-proper c =
    found_if c.args.plan.now c.args.path.now c.get.result c.each_entry_joins.ensures
    (c.get.ensures.value ∙ ap (λ (tree : Tree). map.get tree c.args.path.now) c.tree.ensures)
