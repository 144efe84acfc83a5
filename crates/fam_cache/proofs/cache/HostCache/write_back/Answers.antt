use Rattle.std.proofs.Common.{arith}
use Rattle.fam_cache.proofs.AskedRange.{within_asked}
use Rattle.fam_cache.proofs.cache.HostCache.write_back.Goals as goal

pub invariant_of-self : goal.invariant_of-self
invariant_of-self c =
    let least = c.min-self-inside.ensures in
    let most = c.max-self-inside.ensures in (
      c.ask_copy.ensures.kept,
      within_asked c.self.inside.first_asked c.self.inside.last_asked c.min-self-inside.result c.max-self-inside.result c.args.line.0 _ _ c.self.invariant.1 c.ask_copy.ensures.cache
          (omega (arith, least)) (omega (arith, least)) (omega (arith, most)) (omega (arith, most)),
    )
