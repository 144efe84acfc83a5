use Rattle.std.proofs.Common.{◌≡◌, ◌∷◌, [], List, subst, arith}
use Rattle.std.specs.FinMap as map
use Rattle.std.proofs.lemmas.Result.{err_from_is_err_and}
use Rattle.fam_base.specs.declared.entry.Entry.{Entry}
use Rattle.fam_tree.specs.Iter.{tree_iter_rest}
use Rattle.fam_shadow.specs.Nodes.{ShadeState}
use Rattle.fam_shadow.specs.Passes.{EntriesPut}
use Rattle.fam_shadow.proofs.Calls.{all_made, puts_stop}
use Rattle.fam_shadow.proofs.Faults.{fault_of_pass}
use Rattle.fam_shadow.proofs.Puts.{clear_at, more_put}
use Rattle.fam_shadow.proofs.passes.put_all.Goals as goal

pub put_entry-requires : goal.put_entry-requires
put_entry-requires g c =
    let entries : List Entry = map.values c.args.tree.now in
    let old : ShadeState = g.D.Shade.state c.args.shade.now in
    let now : ShadeState = g.D.Shade.state c.loop-entry.shade in
    let e : Entry = c.in-Some.entry in
    let rest : List Entry = tree_iter_rest c.next.new.self in
    let given : tree_iter_rest c.loop-entry.entry-iterator ≡ e ∷ rest = cc (c.in-Some.ensures.steps) in
    let before : EntriesPut entries (e ∷ rest) old now = subst (λ (l : List Entry). EntriesPut entries l old now) given c.loop-entry.invariant.put in
    record { clear = clear_at entries old e rest now before c.requires.distinct c.requires.clear }

pub loop-entry-preserved : goal.loop-entry-preserved
loop-entry-preserved g c =
    let entries : List Entry = map.values c.args.tree.now in
    let old : ShadeState = g.D.Shade.state c.args.shade.now in
    let now : ShadeState = g.D.Shade.state c.loop-entry.shade in
    let e : Entry = c.in-Some.entry in
    let rest : List Entry = tree_iter_rest c.next.new.self in
    let given : tree_iter_rest c.loop-entry.entry-iterator ≡ e ∷ rest = cc (c.in-Some.ensures.steps) in
    let before : EntriesPut entries (e ∷ rest) old now = subst (λ (l : List Entry). EntriesPut entries l old now) given c.loop-entry.invariant.put in
    record {
      put = more_put entries old e rest now before (g.D.Shade.state c.put_entry.new.shade) c.in_ok-put_entry.ensures.put c.in_ok-put_entry.ensures.call c.in_ok-put_entry.ensures.steady;
      later = omega (arith, c.in_ok-put_entry.ensures.later, c.loop-entry.invariant.later);
    }

pub returns-in_err-put_entry-clause-fault : goal.returns-in_err-put_entry-clause-fault
returns-in_err-put_entry-clause-fault g c =
    let entries : List Entry = map.values c.args.tree.now in
    let old : ShadeState = g.D.Shade.state c.args.shade.now in
    let now : ShadeState = g.D.Shade.state c.loop-entry.shade in
    let e : Entry = c.in-Some.entry in
    let rest : List Entry = tree_iter_rest c.next.new.self in
    let given : tree_iter_rest c.loop-entry.entry-iterator ≡ e ∷ rest = cc (c.in-Some.ensures.steps) in
    let before : EntriesPut entries (e ∷ rest) old now = subst (λ (l : List Entry). EntriesPut entries l old now) given c.loop-entry.invariant.put in
    let p = err_from_is_err_and c.from_residual.result c.from_residual.ensures.1 in
    rw (p.1, p.2) (fault_of_pass entries before.done rest e (g.D.Shade.state c.args.shade.now).faults (g.D.Shade.state c.loop-entry.shade).faults
    (g.D.Shade.state c.put_entry.new.shade).faults before.parts c.loop-entry.invariant.later c.in_err-put_entry.field-0.0
    c.in_err-put_entry.ensures.fault)

pub returns-clause-calls : goal.returns-clause-calls
returns-clause-calls g c =
    let entries : List Entry = map.values c.args.tree.now in
    let done : tree_iter_rest c.loop-entry.entry-iterator ≡ [] = c.in-None.ensures.steps.0 in
    let put = subst (λ (l : List Entry). EntriesPut entries l (g.D.Shade.state c.args.shade.now) (g.D.Shade.state c.loop-entry.shade)) done c.loop-entry.invariant.put in
    all_made entries put.done (g.D.Shade.state c.args.shade.now) (g.D.Shade.state c.loop-entry.shade) put.parts put.calls put.faults

pub returns-in_err-put_entry-clause-stop : goal.returns-in_err-put_entry-clause-stop
returns-in_err-put_entry-clause-stop g c =
    let entries : List Entry = map.values c.args.tree.now in
    let old : ShadeState = g.D.Shade.state c.args.shade.now in
    let now : ShadeState = g.D.Shade.state c.loop-entry.shade in
    let e : Entry = c.in-Some.entry in
    let rest : List Entry = tree_iter_rest c.next.new.self in
    let given : tree_iter_rest c.loop-entry.entry-iterator ≡ e ∷ rest = cc (c.in-Some.ensures.steps) in
    let before : EntriesPut entries (e ∷ rest) old now = subst (λ (l : List Entry). EntriesPut entries l old now) given c.loop-entry.invariant.put in
    let p = err_from_is_err_and c.from_residual.result c.from_residual.ensures.1 in
    rw (p.1, p.2) (puts_stop entries old now (g.D.Shade.state c.put_entry.new.shade) e rest c.in_err-put_entry.field-0.0
    c.in_err-put_entry.ensures.fault c.in_err-put_entry.ensures.stop before c.in_err-put_entry.ensures.cut)
