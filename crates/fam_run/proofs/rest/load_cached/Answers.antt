use Rattle.fam_run.proofs.Cached.{loads_held}
use Rattle.fam_run.proofs.FirstStores.{no_rest}
use Rattle.fam_run.proofs.rest.load_cached.Goals as goal

pub returns-in-Some-held-clause-run : goal.returns-in-Some-held-clause-run
returns-in-Some-held-clause-run c =
    loads_held c.in-Some.line c.in-Some-held.words c.args.task.now c.take_rest.new.self c.args.cache.now.lines c.in-Some-held.ensures.held c.in-Some-held.ensures.value c.take_rest.ensures.loads

pub returns-in-Some-held-clause-idle : goal.returns-in-Some-held-clause-idle
returns-in-Some-held-clause-idle c = λ first. absurd (no_rest c.args.task.now first c.in-Some.line c.in-Some.ensures)
