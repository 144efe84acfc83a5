use Rattle.std.proofs.Common.{sym, subst}
use Rattle.fam_cache.specs.Blocks.{AskedWithin, lines_of}
use Rattle.fam_cache.proofs.BroughtRunLemmas.{within_run}
use Rattle.fam_cache.proofs.cache.HostCache.renew_row.Goals as goal

pub invariant_of-self : goal.invariant_of-self
invariant_of-self c = (
  c.put_all-self-inside.ensures.kept,
  subst (AskedWithin c.self.inside.first_asked c.self.inside.last_asked) (sym c.put_all-self-inside.ensures.cache)
      (within_run c.self.inside.first_asked c.self.inside.last_asked c.args.first.0 c.args.lines.now c.args.count (lines_of c.self.inside.places) c.self.invariant.1),
)
