use Rattle.std.proofs.Common.{◌∙◌, sym}
use Rattle.std.specs.FinMap as map
use Rattle.std.proofs.lemmas.Result.{err_from_is_err_and}
use Rattle.fam_shadow.proofs.Calls.{looks_calls, puts_calls}
use Rattle.fam_shadow.proofs.Ends.{clash_ends, looks_end, puts_end}
use Rattle.fam_shadow.proofs.passes.shadow.Goals as goal

pub returns-in_err-name-clause-ends : goal.returns-in_err-name-clause-ends
returns-in_err-name-clause-ends g c =
    let p = err_from_is_err_and c.from_residual.result c.from_residual.ensures.1 in
    rw (p.1, p.2) (looks_end c.args.tree.now (g.D.Shade.state c.args.shade.now).faults (g.D.Shade.state c.first_clash.new.shade).faults
    (g.D.Shade.state c.args.shade.now).nodes (g.D.Shade.state c.first_clash.new.shade).nodes c.in_err-name.field-0.0 c.in_err-name.ensures.fault
    c.in_err-name.ensures.same)

pub returns-in-Some-clause-ends : goal.returns-in-Some-clause-ends
returns-in-Some-clause-ends g c =
    clash_ends c.args.tree.now 0 0 c.in_ok-name.ensures.distinct (g.D.Shade.state c.args.shade.now).nodes (g.D.Shade.state c.first_clash.new.shade).nodes c.in-Some.name c.in_ok-name.ensures.same
    (λ held told. sym c.in-Some.is ∙ c.in_ok-name.ensures.met held told)

pub returns-clause-ends : goal.returns-clause-ends
returns-clause-ends g c = λ old told.
    puts_end c.args.tree.now (g.D.Shade.state c.first_clash.new.shade).faults (g.D.Shade.state c.put_all.new.shade).faults c.in_ok-name.ensures.distinct
    (g.D.Shade.state c.first_clash.new.shade).nodes (g.D.Shade.state c.put_all.new.shade).nodes
    (λ held is. sym (c.in_ok-name.ensures.met held (sym c.in_ok-name.ensures.same ∙ is)) ∙ c.in_default.is)
    c.put_all.result c.put_all.ensures.put c.put_all.ensures.cut c.put_all.ensures.fault old (c.in_ok-name.ensures.same ∙ told)

pub returns-in_err-name-clause-calls : goal.returns-in_err-name-clause-calls
returns-in_err-name-clause-calls g c =
    let p = err_from_is_err_and c.from_residual.result c.from_residual.ensures.1 in
    rw (p.1, p.2) (looks_calls (map.values c.args.tree.now) (g.D.Shade.state c.args.shade.now) (g.D.Shade.state c.first_clash.new.shade)
    c.in_err-name.field-0.0 c.in_err-name.ensures.stop c.in_err-name.ensures.same)

pub returns-clause-calls : goal.returns-clause-calls
returns-clause-calls g c =
    puts_calls (map.values c.args.tree.now) (g.D.Shade.state c.args.shade.now) (g.D.Shade.state c.first_clash.new.shade)
    (g.D.Shade.state c.put_all.new.shade) c.in_ok-name.ensures.calls c.in_ok-name.ensures.same
    c.put_all.result c.put_all.ensures.calls c.put_all.ensures.stop c.put_all.ensures.cut
