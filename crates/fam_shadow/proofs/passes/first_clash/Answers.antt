use Rattle.std.proofs.Common.{◌≡◌, ◌∷◌, [], List, subst, sym, ◌∙◌, arith}
use Rattle.std.specs.FinMap as map
use Rattle.std.proofs.lemmas.Result.{err_from_is_err_and}
use Rattle.fam_base.specs.declared.entry.Entry.{Entry}
use Rattle.fam_tree.specs.Iter.{tree_iter_rest}
use Rattle.fam_shadow.specs.Nodes.{ShadeState}
use Rattle.fam_shadow.specs.Passes.{AreSeen}
use Rattle.fam_shadow.proofs.Calls.{all_made, looks_stop}
use Rattle.fam_shadow.proofs.Faults.{fault_of_pass}
use Rattle.fam_shadow.proofs.Looks.{more_seen}
use Rattle.fam_shadow.proofs.OwnNames.{distinct}
use Rattle.fam_shadow.proofs.passes.first_clash.Goals as goal

pub loop-entry-preserved : goal.loop-entry-preserved
loop-entry-preserved g c =
    let entries : List Entry = map.values c.args.tree.now in
    let old : ShadeState = g.D.Shade.state c.args.shade.now in
    let now : ShadeState = g.D.Shade.state c.loop-entry.shade in
    let next : ShadeState = g.D.Shade.state c.clash_at.new.shade in
    let e : Entry = c.in-Some.entry in
    let rest : List Entry = tree_iter_rest c.next.new.self in
    let given : tree_iter_rest c.loop-entry.entry-iterator ≡ e ∷ rest = cc (c.in-Some.ensures.steps) in
    let before : AreSeen entries (e ∷ rest) old now c.loop-entry.first = subst (λ (l : List Entry). AreSeen entries l old now c.loop-entry.first) given c.loop-entry.invariant.seen in
    record {
      seen = subst (AreSeen entries rest old next) (sym c.or-first.ensures)
          (more_seen entries old now next e rest c.loop-entry.first c.in_ok-met.met before c.in_ok-met.ensures.path c.in_ok-met.ensures.met
          c.in_ok-met.ensures.same c.in_ok-met.ensures.call c.in_ok-met.ensures.steady);
      same = c.in_ok-met.ensures.same ∙ c.loop-entry.invariant.same;
      later = omega (arith, c.in_ok-met.ensures.later, c.loop-entry.invariant.later);
    }

pub returns-clause-distinct : goal.returns-clause-distinct
returns-clause-distinct g c =
    let entries : List Entry = map.values c.args.tree.now in
    let done : tree_iter_rest c.loop-entry.entry-iterator ≡ [] = c.in-None.ensures.steps.0 in
    let seen = subst (λ (l : List Entry). AreSeen entries l (g.D.Shade.state c.args.shade.now) (g.D.Shade.state c.loop-entry.shade) c.loop-entry.first) done c.loop-entry.invariant.seen in
    distinct entries (seen.proper tt) c.iter-entry-items.ensures.order

pub returns-clause-calls : goal.returns-clause-calls
returns-clause-calls g c =
    let entries : List Entry = map.values c.args.tree.now in
    let done : tree_iter_rest c.loop-entry.entry-iterator ≡ [] = c.in-None.ensures.steps.0 in
    let seen = subst (λ (l : List Entry). AreSeen entries l (g.D.Shade.state c.args.shade.now) (g.D.Shade.state c.loop-entry.shade) c.loop-entry.first) done c.loop-entry.invariant.seen in
    all_made entries seen.done (g.D.Shade.state c.args.shade.now) (g.D.Shade.state c.loop-entry.shade) seen.parts seen.calls seen.faults

pub returns-in_err-met-clause-fault : goal.returns-in_err-met-clause-fault
returns-in_err-met-clause-fault g c =
    let entries : List Entry = map.values c.args.tree.now in
    let old : ShadeState = g.D.Shade.state c.args.shade.now in
    let now : ShadeState = g.D.Shade.state c.loop-entry.shade in
    let e : Entry = c.in-Some.entry in
    let rest : List Entry = tree_iter_rest c.next.new.self in
    let given : tree_iter_rest c.loop-entry.entry-iterator ≡ e ∷ rest = cc (c.in-Some.ensures.steps) in
    let before : AreSeen entries (e ∷ rest) old now c.loop-entry.first = subst (λ (l : List Entry). AreSeen entries l old now c.loop-entry.first) given c.loop-entry.invariant.seen in
    let p = err_from_is_err_and c.from_residual.result c.from_residual.ensures.1 in
    rw (p.1, p.2) (fault_of_pass entries before.done rest e old.faults now.faults (g.D.Shade.state c.clash_at.new.shade).faults before.parts
    c.loop-entry.invariant.later c.in_err-met.field-0.0 c.in_err-met.ensures.fault)

pub returns-in_err-met-clause-stop : goal.returns-in_err-met-clause-stop
returns-in_err-met-clause-stop g c =
    let entries : List Entry = map.values c.args.tree.now in
    let old : ShadeState = g.D.Shade.state c.args.shade.now in
    let now : ShadeState = g.D.Shade.state c.loop-entry.shade in
    let e : Entry = c.in-Some.entry in
    let rest : List Entry = tree_iter_rest c.next.new.self in
    let given : tree_iter_rest c.loop-entry.entry-iterator ≡ e ∷ rest = cc (c.in-Some.ensures.steps) in
    let before : AreSeen entries (e ∷ rest) old now c.loop-entry.first = subst (λ (l : List Entry). AreSeen entries l old now c.loop-entry.first) given c.loop-entry.invariant.seen in
    let p = err_from_is_err_and c.from_residual.result c.from_residual.ensures.1 in
    rw (p.1, p.2) (looks_stop entries old now (g.D.Shade.state c.clash_at.new.shade) e rest c.in_err-met.field-0.0 c.in_err-met.ensures.fault
    c.in_err-met.ensures.stop c.loop-entry.first before c.in_err-met.ensures.same)
