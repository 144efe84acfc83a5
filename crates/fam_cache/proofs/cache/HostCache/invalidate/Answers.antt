use Rattle.fam_cache.proofs.StoreLemmas.{on_err_too}
use Rattle.fam_cache.proofs.AskedRange.{within_absent}
use Rattle.fam_cache.proofs.cache.HostCache.invalidate.Goals as goal

pub returns-in_err-self-inside-clause-torn : goal.returns-in_err-self-inside-clause-torn
returns-in_err-self-inside-clause-torn g c = rw (← c.self.view_is) (on_err_too c.from_residual.result c.in_err-self-inside.ensures.torn)

pub invariant_of-self-2 : goal.invariant_of-self-2
invariant_of-self-2 g c = (c.drop_line.ensures.kept, within_absent _ _ _ _ c.self.invariant.1 c.args.line.0 c.in_ok-self-inside.ensures.cache)

pub returns-clause-cache : goal.returns-clause-cache
returns-clause-cache g c = rw (← c.self.view_is) c.in_ok-self-inside.ensures.cache

pub returns-clause-memory : goal.returns-clause-memory
returns-clause-memory g c = rw (← c.self.view_is) c.in_ok-self-inside.ensures.memory

pub returns-clause-same : goal.returns-clause-same
returns-clause-same g c = rw (← c.self.view_is) c.drop_line.ensures.same

pub returns-in_err-self-inside-clause-err : goal.returns-in_err-self-inside-clause-err
returns-in_err-self-inside-clause-err g c = rw (← c.self.view_is) (on_err_too c.from_residual.result c.in_err-self-inside.ensures.err)

pub returns-in_err-self-inside-clause-same : goal.returns-in_err-self-inside-clause-same
returns-in_err-self-inside-clause-same g c = rw (← c.self.view_is) c.drop_line.ensures.same
