use Rattle.fam_cache.specs.Blocks.{lines_of}
use Rattle.fam_cache.proofs.AskedRange.{within_dirty}
use Rattle.fam_cache.proofs.cache.HostCache.put_run.Goals as goal

pub invariant_of-self : goal.invariant_of-self
invariant_of-self g c = (
  c.put_copy-self-inside.ensures.kept,
  within_dirty c.self.inside.first_asked c.self.inside.last_asked (lines_of c.self.inside.places) (lines_of c.put_copy-self-inside.new.cache)
      c.self.invariant.1 _ _ c.put_copy-self-inside.ensures.cache,
)
