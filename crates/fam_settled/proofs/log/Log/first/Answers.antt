use Rattle.std.proofs.Common.{◌≡◌, ◌≤◌, List, IfOk, Result, Ok, Err, length, take, ap, subst, ◌∙◌, arith}
use Rattle.fam_base.specs.declared.entry.Entry.{Entry}
use Rattle.fam_base.specs.declared.line.OutOfMemory.{OutOfMemory}
use Rattle.fam_rules.specs.Asks.{entries_of}
use Rattle.fam_plan.specs.State.{PlanState}
use Rattle.fam_settled.specs.Settled.{SettledLog, settled_and_pending}
use Rattle.fam_settled.proofs.Files.{all_few, first_all, first_settled, first_within}
use Rattle.fam_settled.proofs.log.Log.first.Goals as goal

-- a plan that is another has its entries
has_entries : (r : Result PlanState OutOfMemory) (p : PlanState) (list : List Entry) → IfOk r (λ plan. plan ≡ p) → p.entries ≡ list → IfOk r (λ plan. plan.entries ≡ list)
has_entries (Ok x) p list same is = ap (λ (y : PlanState). y.entries) same ∙ is
has_entries (Err e) p list same is = tt

pub returns-then-m-count-clause-entries : goal.returns-then-m-count-clause-entries
returns-then-m-count-clause-entries c =
    let s = c.args.self.now in
    let few : c.args.m ≤ length s.entries = omega (arith, c.if-m-count.true, c.count.ensures) in
    subst (λ (list : List Entry). IfOk c.first.result (λ plan. plan.entries ≡ list))
    (ap (λ (x : SettledLog). take c.args.m x.entries) c.self.view_is ∙ first_within s c.args.m few) c.first.ensures.first

pub returns-then-m-count-2-clause-entries : goal.returns-then-m-count-2-clause-entries
returns-then-m-count-2-clause-entries c =
    let s = c.args.self.now in
    has_entries c.copy.result c.self.inside.plan (entries_of (take c.args.m (settled_and_pending s))) c.copy.ensures
    (ap (λ (x : SettledLog). x.entries) c.self.view_is ∙ first_settled s c.args.m (c.if-m-count-2.true ∙ c.count-2.ensures))

pub returns-clause-entries : goal.returns-clause-entries
returns-clause-entries c =
    let s = c.args.self.now in
    let all : c.args.m ≡ length (settled_and_pending s) =
    omega (arith, all_few s, c.requires, c.if-m-count.false, c.if-m-count-2.false, c.count.ensures, c.count-2.ensures) in
    subst (λ (list : List Entry). IfOk c.with_pending.result (λ plan. plan.entries ≡ list)) (first_all s c.args.m all) c.with_pending.ensures.entries
