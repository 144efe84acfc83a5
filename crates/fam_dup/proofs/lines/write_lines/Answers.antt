use Rattle.fam_dup.proofs.RunPuts.{run_cut, run_put}
use Rattle.fam_dup.proofs.lines.write_lines.Goals as goal

pub returns-in-Ok-clause-put : goal.returns-in-Ok-clause-put
returns-in-Ok-clause-put g c = run_put c.args.first.0 c.args.lines.now _ _ c.in-Ok.ensures.written

pub returns-in-Err-clause-cut : goal.returns-in-Err-clause-cut
returns-in-Err-clause-cut g c =
    run_cut c.args.first.0 c.args.lines.now _ _ c.in-Err.failed.done c.in-Err.ensures.before c.in-Err.ensures.torn
