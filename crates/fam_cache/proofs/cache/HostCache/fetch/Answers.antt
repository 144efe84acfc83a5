use Rattle.fam_cache.proofs.AskedRange.{within_fetched}
use Rattle.fam_cache.proofs.cache.HostCache.fetch.Goals as goal

pub invariant_of-self : goal.invariant_of-self
invariant_of-self g c = (
  c.refresh.ensures.kept,
  within_fetched _ _ _ _ c.self.invariant.1 (g.M.Media.state c.args.media.now).image c.args.line.0 c.args.mask.0 c.in-Ok.ensures.cache,
)

pub returns-in-Ok-clause-cache : goal.returns-in-Ok-clause-cache
returns-in-Ok-clause-cache g c = rw (← c.self.view_is) c.in-Ok.ensures.cache

pub returns-in-Ok-clause-same : goal.returns-in-Ok-clause-same
returns-in-Ok-clause-same g c = rw (← c.self.view_is) c.refresh.ensures.same

pub returns-in-Err-clause-err : goal.returns-in-Err-clause-err
returns-in-Err-clause-err g c = rw (← c.self.view_is) c.in-Err.ensures.err

pub returns-in-Err-clause-ok : goal.returns-in-Err-clause-ok
returns-in-Err-clause-ok g c = rw (← c.self.view_is) c.in-Err.ensures.idle

pub returns-in-Err-clause-same : goal.returns-in-Err-clause-same
returns-in-Err-clause-same g c = rw (← c.self.view_is) c.in-Err.ensures.same
