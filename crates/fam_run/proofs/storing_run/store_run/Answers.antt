use Rattle.std.proofs.Common.{ℕ, ◌<◌, ◌∙◌, length, ap, arith}
use Rattle.fam_media.specs.Runs.{run_written}
use Rattle.fam_run.proofs.SentRuns.{chain_kept, run_done, run_kept, run_torn}
use Rattle.fam_run.proofs.storing_run.store_run.Goals as goal

pub returns-in-Ok-clause-stored : goal.returns-in-Ok-clause-stored
returns-in-Ok-clause-stored g c =
    let q = c.store_run in
    run_done c.args.first.0 q.new.lines (g.M.Media.state c.args.media.now).image c.args.cache.now.lines (g.met.M.Media.normal c.args.media.now)
    c.args.task.now q.new.self (length c.args.lines.now) c.requires.some q.ensures
    c.requires.absent
    _ _ _ c.put_run.new.self.lines (g.M.Media.state c.put_run.new.media).image c.in-Ok.ensures.lines
    (c.in-Ok.ensures.memory ∙ ap (λ (n : ℕ). run_written c.args.first.0 q.new.lines n (g.M.Media.state c.args.media.now).image) q.auto.lines)

pub returns-in-Ok-clause-places : goal.returns-in-Ok-clause-places
returns-in-Ok-clause-places g c =
    let q = c.store_run in
    run_kept c.args.first.0 q.new.lines c.args.task.now q.new.self (length c.args.lines.now) c.args.cache.now c.put_run.new.self c.requires.some q.ensures c.in-Ok.ensures.ok_spare

pub returns-in-Err-clause-failed : goal.returns-in-Err-clause-failed
returns-in-Err-clause-failed g c =
    let q = c.store_run in
    let k = c.in-Err.failed.done in
    let e = c.in-Err.ensures in
    let before : k < length c.args.lines.now = omega arith in
    run_torn c.args.first.0 q.new.lines (g.M.Media.state c.args.media.now).image c.args.cache.now.lines (g.met.M.Media.normal c.args.media.now)
    c.args.task.now q.new.self (length c.args.lines.now) k q.ensures before
    c.requires.absent
    _ _ _ q.new.self c.put_run.new.self.lines (g.M.Media.state c.put_run.new.media).image
    (chain_kept c.args.first.0 q.new.lines c.args.task.now q.new.self (length c.args.lines.now) q.ensures) e.failed_lines e.torn e.failed
    (omega (arith, before, c.requires.fits))

pub returns-in-Ok-clause-steady : goal.returns-in-Ok-clause-steady
returns-in-Ok-clause-steady g c = c.put_run.ensures.steady

pub returns-in-Err-clause-steady : goal.returns-in-Err-clause-steady
returns-in-Err-clause-steady g c = c.put_run.ensures.steady
