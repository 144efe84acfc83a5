use Rattle.std.proofs.Common.{ℕ, List, sym, ap, ◌∙◌}
use Rattle.std.specs.List.{slice_get}
use Rattle.std.specs.Option.{option_and_then}
use Rattle.std.specs.FinMap as finmap
use Rattle.fam_plan.specs.State.{PlanState}
use Rattle.fam_plan.proofs.Entries.{entry_there}
use Rattle.fam_plan.proofs.plan.Plan.at.Goals as goal

pub returns-in-Some : goal.returns-in-Some
returns-in-Some c =
    let own = c.self.inside in
    c.get.ensures.value
    ∙ ap (option_and_then (λ (q : List ℕ). finmap.get own.tree q)) c.in-Some.ensures
    ∙ sym (entry_there own.tree own.ledger.order c.args.i c.self.invariant.held) ∙ ap (λ (s : PlanState). slice_get s.entries c.args.i) c.self.view_is

pub returns-in-None : goal.returns-in-None
returns-in-None c =
    let own = c.self.inside in
    ap (option_and_then (λ (q : List ℕ). finmap.get own.tree q)) c.in-None.ensures
    ∙ sym (entry_there own.tree own.ledger.order c.args.i c.self.invariant.held) ∙ ap (λ (s : PlanState). slice_get s.entries c.args.i) c.self.view_is
