use Rattle.fam_run.specs.Operation.{said_of}
use Rattle.fam_run.specs.TaskChange.{task_change}
use Rattle.fam_run.proofs.RunAlone.{run_alone}
use Rattle.fam_run.proofs.storing_run.store_lines.Goals as goal

pub returns-then-not-makes_run-clause-advanced : goal.returns-then-not-makes_run-clause-advanced
returns-then-not-makes_run-clause-advanced g c =
    let m = g.M.Media in
    run_alone (task_change m.size m.state c.args.task.now c.store_line.new.task c.args.cache.now c.store_line.new.cache c.args.media.now
    c.store_line.new.media) (said_of c.store_line.result c.store_line.new.turn) c.store_line.ensures.advanced

pub returns-then-not-makes_run-clause-want : goal.returns-then-not-makes_run-clause-want
returns-then-not-makes_run-clause-want g c = c.store_line.ensures.want

pub returns-then-not-makes_run-clause-places : goal.returns-then-not-makes_run-clause-places
returns-then-not-makes_run-clause-places g c = c.store_line.ensures.places

pub returns-then-not-makes_run-clause-steady : goal.returns-then-not-makes_run-clause-steady
returns-then-not-makes_run-clause-steady g c = c.store_line.ensures.steady

pub returns-in-Ok-clause-steady : goal.returns-in-Ok-clause-steady
returns-in-Ok-clause-steady g c = c.store_run.ensures.steady

pub returns-in-Err-clause-advanced : goal.returns-in-Err-clause-advanced
returns-in-Err-clause-advanced g c = c.in-Err.ensures.failed

pub returns-in-Err-clause-steady : goal.returns-in-Err-clause-steady
returns-in-Err-clause-steady g c = c.store_run.ensures.steady
