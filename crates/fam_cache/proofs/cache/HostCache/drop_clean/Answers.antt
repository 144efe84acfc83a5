use Rattle.fam_cache.specs.Blocks.{lines_of}
use Rattle.fam_cache.proofs.AskedRange.{within_absent}
use Rattle.fam_cache.proofs.cache.HostCache.drop_clean.Goals as goal

pub invariant_of-self : goal.invariant_of-self
invariant_of-self c = (
  c.drop_copy.ensures.kept,
  within_absent c.self.inside.first_asked c.self.inside.last_asked (lines_of c.self.inside.places) (lines_of c.drop_copy.new.cache) c.self.invariant.1 _ c.drop_copy.ensures.cache,
)
