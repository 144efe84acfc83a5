use Rattle.fam_cache.specs.Blocks.{lines_of}
use Rattle.fam_cache.proofs.StoreLemmas.{stored_after}
use Rattle.fam_cache.proofs.AskedRange.{within_brought, within_dirty}
use Rattle.fam_cache.proofs.cache.HostCache.store.Goals as goal

pub returns-in-Ok-clause-cache : goal.returns-in-Ok-clause-cache
returns-in-Ok-clause-cache g c =
    rw (← c.self.view_is)
    (stored_after c.args.line.0 c.args.word c.args.value (lines_of c.self.inside.places) (lines_of c.bring.new.places) (lines_of c.set_word.new.cache)
    (g.M.Media.state c.args.media.now).image c.in-Ok.ensures.cache c.set_word.ensures.cache)

pub invariant_of-self : goal.invariant_of-self
invariant_of-self g c = (
  c.set_word.ensures.kept,
  within_dirty _ _ _ _ (within_brought _ _ _ _ c.self.invariant.1 (g.M.Media.state c.args.media.now).image c.args.line.0 c.in-Ok.ensures.cache) c.args.line.0 _ c.set_word.ensures.cache,
)

pub returns-in-Ok-clause-same : goal.returns-in-Ok-clause-same
returns-in-Ok-clause-same g c = rw (← c.self.view_is) c.bring.ensures.same

pub returns-in-Err-clause-err : goal.returns-in-Err-clause-err
returns-in-Err-clause-err g c = rw (← c.self.view_is) c.in-Err.ensures.err

pub returns-in-Err-clause-ok : goal.returns-in-Err-clause-ok
returns-in-Err-clause-ok g c = rw (← c.self.view_is) c.in-Err.ensures.idle

pub returns-in-Err-clause-same : goal.returns-in-Err-clause-same
returns-in-Err-clause-same g c = rw (← c.self.view_is) c.in-Err.ensures.same
