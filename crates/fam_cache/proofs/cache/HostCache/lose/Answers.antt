use Rattle.std.proofs.Common.{sym, subst}
use Rattle.fam_cache.specs.Blocks.{AskedWithin}
use Rattle.fam_cache.proofs.AskedRange.{within_empty}
use Rattle.fam_cache.proofs.cache.HostCache.lose.Goals as goal

pub invariant_of-self : goal.invariant_of-self
invariant_of-self c =
    let first = c.self.inside.first_asked in
    let last = c.self.inside.last_asked in
    (c.lose_all.ensures.kept, subst (AskedWithin first last) (sym c.lose_all.ensures.lines) (within_empty first last))
