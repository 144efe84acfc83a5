use Rattle.std.proofs.Common.{[], ◌∷◌, ◌++◌, ◌<◌, length, sym, ap, subst, ◌∙◌}
use Rattle.fam_format.specs.Slot.{Proper}
use Rattle.fam_rules.specs.Asks.{entries_of}
use Rattle.fam_plan.specs.State.{MayBeAdded, PlanState}
use Rattle.fam_settled.specs.Settled.{MayPend, SettledLog, settled_and_pending}
use Rattle.fam_settled.proofs.Files.{entries-with_pending, entries_behind}
use Rattle.fam_settled.proofs.log.Log.with_pending.Goals as goal

pub returns-in-Ok-clause-entries : goal.returns-in-Ok-clause-entries
returns-in-Ok-clause-entries c =
    let own = c.self.inside in
    let e = c.in-Some.pending.entry in
    c.in-Ok.ensures.added
    ∙ ap (λ (p : PlanState). p.entries ++ e ∷ []) c.in_ok-plan.ensures
    ∙ sym (entries-with_pending own.plan.entries own.bytes.value.items own.pending ∙ ap (entries_behind own.plan.entries) c.in-Some.is)
    ∙ ap (λ (s : SettledLog). entries_of (settled_and_pending s)) c.self.view_is

pub returns-in-None-clause-entries : goal.returns-in-None-clause-entries
returns-in-None-clause-entries c =
    let own = c.self.inside in
    ap (λ (p : PlanState). p.entries) c.in_ok-plan.ensures
    ∙ sym (entries-with_pending own.plan.entries own.bytes.value.items own.pending ∙ ap (entries_behind own.plan.entries) c.in-None.is)
    ∙ ap (λ (s : SettledLog). entries_of (settled_and_pending s)) c.self.view_is

pub add-requires-clause-proper : goal.add-requires-clause-proper
add-requires-clause-proper c =
    let own = c.self.inside in
    let may : MayBeAdded own.plan c.in-Some.pending.entry = subst (MayPend own.plan) c.in-Some.is c.self.invariant.pending in
    subst (λ (p : PlanState). Proper p.params c.in-Some.pending.entry) (sym c.in_ok-plan.ensures) may.added.proper

pub add-requires-clause-left : goal.add-requires-clause-left
add-requires-clause-left c =
    let own = c.self.inside in
    let may : MayBeAdded own.plan c.in-Some.pending.entry = subst (MayPend own.plan) c.in-Some.is c.self.invariant.pending in
    subst (λ (p : PlanState). length p.entries < p.params.slots) (sym c.in_ok-plan.ensures) may.left
