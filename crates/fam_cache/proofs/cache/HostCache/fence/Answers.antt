use Rattle.fam_cache.proofs.AskedRange.{within_cleaned, within_sent}
use Rattle.fam_cache.proofs.cache.HostCache.fence.Goals as goal

pub invariant_of-self : goal.invariant_of-self
invariant_of-self g c = (c.send_asked.ensures.kept, within_sent 18446744073709551615 0 _ _ c.in-Ok.ensures.cache)

pub invariant_of-self-in-Err : goal.invariant_of-self-in-Err
invariant_of-self-in-Err g c = (c.send_asked.ensures.kept, within_cleaned _ _ _ _ c.self.invariant.1 c.in-Err.ensures.err)

pub returns-in-Ok-clause-same : goal.returns-in-Ok-clause-same
returns-in-Ok-clause-same g c = rw (← c.self.view_is) c.send_asked.ensures.same

pub returns-in-Ok-clause-operated : goal.returns-in-Ok-clause-operated
returns-in-Ok-clause-operated g c = rw (← c.self.view_is) c.in-Ok.ensures.operated

pub returns-in-Ok-clause-cache : goal.returns-in-Ok-clause-cache
returns-in-Ok-clause-cache g c = rw (← c.self.view_is) c.in-Ok.ensures.cache

pub returns-in-Err-clause-failed : goal.returns-in-Err-clause-failed
returns-in-Err-clause-failed g c = rw (← c.self.view_is) c.in-Err.ensures.failed

pub returns-in-Err-clause-err : goal.returns-in-Err-clause-err
returns-in-Err-clause-err g c = rw (← c.self.view_is) c.in-Err.ensures.err

pub returns-in-Err-clause-line : goal.returns-in-Err-clause-line
returns-in-Err-clause-line g c = rw (← c.self.view_is) c.in-Err.ensures.line

pub returns-in-Err-clause-ok : goal.returns-in-Err-clause-ok
returns-in-Err-clause-ok g c = rw (← c.self.view_is) c.in-Err.ensures.idle

pub returns-in-Err-clause-same : goal.returns-in-Err-clause-same
returns-in-Err-clause-same g c = rw (← c.self.view_is) c.in-Err.ensures.same

pub returns-in-Ok-clause-spare : goal.returns-in-Ok-clause-spare
returns-in-Ok-clause-spare g c = rw (← c.self.view_is) c.in-Ok.ensures.room

pub returns-in-Err-clause-spare : goal.returns-in-Err-clause-spare
returns-in-Err-clause-spare g c = rw (← c.self.view_is) c.in-Err.ensures.room
