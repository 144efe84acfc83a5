use Rattle.std.proofs.Common.{◌≡◌, ◌<◌, ◌||◌, ℕ, [], ◌∷◌, ◌++◌, Option, None, length, sym, ap, subst, ◌∙◌}
use Rattle.fam_format.specs.declared.faults.Reason.{Reason}
use Rattle.fam_format.specs.Stop.{or_else}
use Rattle.fam_format.specs.Tree.{Tree, overlap_fault}
use Rattle.fam_format.specs.Units.{units_in, list_units, first_overlap}
use Rattle.fam_rules.specs.Place.{IsOnce}
use Rattle.fam_rules.proofs.FilePlaces.{unit_some}
use Rattle.fam_alloc.specs.Taken.{is_taken, holds, LieWithin}
use Rattle.fam_tree.specs.Faults as tree
use Rattle.fam_plan.specs.declared.ledger.Ledger.{Ledger}
use Rattle.fam_plan.specs.State.{PlanState, entries_at}
use Rattle.fam_plan.proofs.Entries.{free_there, entries_with}
use Rattle.fam_plan.proofs.Histories.{once_in, within_view, fault_of_view, units_of_view, plan_added}
use Rattle.fam_plan.proofs.plan.Plan.add_borrowed.Goals as goal

pub apply_beside-requires : goal.apply_beside-requires
apply_beside-requires c =
    let own = c.self.inside in
    let plan = c.self.invariant.plan in
    let unit = sym c.self.invariant.units in
    let e = c.args.entry.now in
    record {
      unit = subst (λ (u : ℕ). 0 < u) unit (unit_some own.params plan.history.params);
      within = subst (λ (u : ℕ). LieWithin u (length own.ledger.used.map) e.extents) unit
          (within_view (record { params = own.params; entries = entries_at own.tree own.ledger.order }) c.args.self.now own.tree own.ledger.used.map e plan c.self.view_is c.requires.proper);
    }

pub first_fault-requires-clause-within : goal.first_fault-requires-clause-within
first_fault-requires-clause-within c =
    let own = c.self.inside in
    subst (λ (l : Ledger). LieWithin own.params.unit (length l.used.map) c.args.entry.now.extents) (sym c.in-Err.ensures.beside)
    (within_view (record { params = own.params; entries = entries_at own.tree own.ledger.order }) c.args.self.now own.tree own.ledger.used.map
    c.args.entry.now c.self.invariant.plan c.self.view_is c.requires.proper)

pub returns-in-Err-clause-cause : goal.returns-in-Err-clause-cause
returns-in-Err-clause-cause c =
    let own = c.self.inside in
    let units = units_in own.params.unit c.args.entry.now.extents in
    c.first_fault.ensures
    ∙ ap (λ (l : Ledger). or_else (tree.reason_of c.in-Err.fault) (overlap_fault (first_overlap (is_taken l.used.map) units))) c.in-Err.ensures.beside
    ∙ ap (λ (f : Option Reason). or_else f (overlap_fault (first_overlap (is_taken own.ledger.used.map) units))) c.in-Err.ensures.cause
    ∙ fault_of_view (record { params = own.params; entries = entries_at own.tree own.ledger.order }) c.args.self.now own.tree own.ledger.used.map
    c.args.entry.now c.self.invariant.plan c.self.view_is c.requires.proper

pub returns-in-Err-clause-once : goal.returns-in-Err-clause-once
returns-in-Err-clause-once c =
    let own = c.self.inside in
    subst (λ (l : Ledger). IsOnce (list_units own.params.unit (entries_at c.apply_beside.new.self l.order))) (sym c.in-Err.ensures.beside)
    (subst (λ (t : Tree). IsOnce (list_units own.params.unit (entries_at t own.ledger.order))) (sym c.in-Err.ensures.same)
    (once_in (record { params = own.params; entries = entries_at own.tree own.ledger.order }) c.self.invariant.plan.history))

pub invariant_of-self-2 : goal.invariant_of-self-2
invariant_of-self-2 c =
    let own = c.self.inside in
    let new = c.apply_beside.new.beside in
    let grown = c.in_default.ensures.grown in
    let joins = c.in_default.ensures.joins in
    let unit = c.self.invariant.units in
    let e = c.args.entry.now in
    let longer = entries_with own.tree c.apply_beside.new.self own.ledger.order new.order e (free_there own.tree e joins) c.self.invariant.held
    c.self.invariant.own c.in_default.ensures.added grown.order in
    record {
      plan = plan_added (record { params = own.params; entries = entries_at own.tree own.ledger.order }) c.args.self.now own.tree own.ledger.used.map
          e c.self.invariant.plan c.self.view_is c.requires.proper
          (entries_at c.apply_beside.new.self new.order) c.apply_beside.new.self new.used.map joins
          (subst (λ (n : ℕ). overlap_fault (first_overlap (is_taken own.ledger.used.map) (units_in n e.extents)) ≡ None) unit grown.used.fits)
          c.requires.left longer.entries c.in_default.ensures.added grown.used.units
          (subst (λ (n : ℕ). (u : ℕ) → is_taken new.used.map u ≡ (is_taken own.ledger.used.map u || holds (units_in n e.extents) u)) unit grown.used.taken);
      held = longer.held;
      own = longer.own;
      units = grown.used.unit ∙ unit;
    }

pub returns-clause-joins : goal.returns-clause-joins
returns-clause-joins c =
    let own = c.self.inside in
    let e = c.args.entry.now in
    sym (units_of_view (record { params = own.params; entries = entries_at own.tree own.ledger.order }) c.args.self.now own.tree own.ledger.used.map e
    c.self.invariant.plan c.self.view_is c.requires.proper c.in_default.ensures.joins)
    ∙ subst (λ (n : ℕ). overlap_fault (first_overlap (is_taken own.ledger.used.map) (units_in n e.extents)) ≡ None) c.self.invariant.units c.in_default.ensures.grown.used.fits

pub returns-clause-added : goal.returns-clause-added
returns-clause-added c =
    let own = c.self.inside in
    let e = c.args.entry.now in
    let longer = entries_with own.tree c.apply_beside.new.self own.ledger.order c.apply_beside.new.beside.order e (free_there own.tree e c.in_default.ensures.joins)
    c.self.invariant.held c.self.invariant.own c.in_default.ensures.added c.in_default.ensures.grown.order in
    longer.entries ∙ ap (λ (s : PlanState). s.entries ++ e ∷ []) c.self.view_is

pub returns-clause-once : goal.returns-clause-once
returns-clause-once c =
    let own = c.self.inside in
    once_in (record { params = own.params; entries = entries_at c.apply_beside.new.self c.apply_beside.new.beside.order }) (invariant_of-self-2 c).plan.history
