use Rattle.std.proofs.Common.{length, sym, ap, ◌∙◌}
use Rattle.fam_plan.specs.State.{PlanState}
use Rattle.fam_plan.proofs.Entries.{entries_count}
use Rattle.fam_plan.proofs.plan.Plan.count.Goals as goal

pub returns-clause-count : goal.returns-clause-count
returns-clause-count c =
    let own = c.self.inside in
    c.len.ensures ∙ sym (entries_count own.tree own.ledger.order c.self.invariant.held) ∙ ap (λ (s : PlanState). length s.entries) c.self.view_is
