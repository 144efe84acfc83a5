use Rattle.fam_cache.specs.Blocks.{lines_of}
use Rattle.fam_cache.proofs.MemoryLemmas.{held_same}
use Rattle.fam_cache.proofs.AskedRange.{within_brought}
use Rattle.fam_cache.proofs.cache.HostCache.load.Goals as goal

pub returns-in-Some-clause-cache : goal.returns-in-Some-clause-cache
returns-in-Some-clause-cache g c =
    rw (← c.self.view_is) (held_same (g.M.Media.state c.args.media.now).image c.args.line.0 (lines_of c.self.inside.places) c.in-Some.ensures.held)

pub invariant_of-self : goal.invariant_of-self
invariant_of-self g c = (c.bring.ensures.kept, within_brought _ _ _ _ c.self.invariant.1 (g.M.Media.state c.args.media.now).image c.args.line.0 c.in-Ok.ensures.cache)

pub returns-in-Ok-clause-cache : goal.returns-in-Ok-clause-cache
returns-in-Ok-clause-cache g c = rw (← c.self.view_is) c.in-Ok.ensures.cache

pub returns-in-Ok-clause-same : goal.returns-in-Ok-clause-same
returns-in-Ok-clause-same g c = rw (← c.self.view_is) c.bring.ensures.same

pub returns-in-Err-clause-err : goal.returns-in-Err-clause-err
returns-in-Err-clause-err g c = rw (← c.self.view_is) c.in-Err.ensures.err

pub returns-in-Err-clause-ok : goal.returns-in-Err-clause-ok
returns-in-Err-clause-ok g c = rw (← c.self.view_is) c.in-Err.ensures.idle

pub returns-in-Err-clause-same : goal.returns-in-Err-clause-same
returns-in-Err-clause-same g c = rw (← c.self.view_is) c.in-Err.ensures.same

pub returns-in-Err-clause-room : goal.returns-in-Err-clause-room
returns-in-Err-clause-room g c = rw (← c.self.view_is) c.in-Err.ensures.full

pub returns-in-Err-clause-failed : goal.returns-in-Err-clause-failed
returns-in-Err-clause-failed g c = c.in-Err.ensures.failed

pub returns-in-Err-clause-undone : goal.returns-in-Err-clause-undone
returns-in-Err-clause-undone g c = c.in-Err.ensures.undone
