use Rattle.std.proofs.lemmas.Result.{err_from_is_err_and}
use Rattle.fam_entry.proofs.HeaderParts.{in_sizes, in_rest}
use Rattle.fam_entry.proofs.log.tested.Goals as goal

pub returns-in_err-check_sizes-clause-first : goal.returns-in_err-check_sizes-clause-first
returns-in_err-check_sizes-clause-first c =
    let p = err_from_is_err_and c.from_residual.result c.from_residual.ensures.1 in
    rw (p.1, p.2) (in_sizes c.args.line.now c.args.params.now c.in_err-check_sizes.field-0.0 c.in_err-check_sizes.ensures)

pub returns-clause-first : goal.returns-clause-first
returns-clause-first c = in_rest c.args.line.now c.args.params.now c.check_rest.result c.in_ok-check_sizes.ensures c.check_rest.ensures
