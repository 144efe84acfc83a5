use Rattle.fam_cache.proofs.AskedRange.{within_dirty}
use Rattle.fam_cache.proofs.cache.HostCache.store_rest.Goals as goal

pub invariant_of-self : goal.invariant_of-self
invariant_of-self c = (
  c.set_rest.ensures.kept,
  within_dirty _ _ _ _ c.self.invariant.1 c.args.line.0 _ c.set_rest.ensures.cache,
)
